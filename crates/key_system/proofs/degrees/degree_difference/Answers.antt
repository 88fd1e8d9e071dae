use Rattle.std.proofs.Common.{map, inl, inr}
use Rattle.ring_laws.specs.Meaning.{Meaning, listed}
use Rattle.poly_laws.proofs.Belonging.{value_passes}
use Rattle.poly_generic.specs.declared.polys.Poly.{Poly}
use Rattle.key_system.proofs.BoundDegrees.{difference_is, difference_isnt}
use Rattle.key_system.proofs.degrees.degree_difference.Goals as goal
use Rattle.key_system.proofs.degrees.degree_difference.Goals.{then-length-eq0-via-then-length-eq0, then-length-eq0-via-else-length-eq0+then-length-more}

pub returns-then-length-eq0 : goal.returns-then-length-eq0
returns-then-length-eq0 g c =
    let mean : Poly g.row.B.Denot g.B.Ring → Meaning = λ v. listed (map g.B.Ring.meaning v.list.items) in
    let pass = λ (v : Poly g.row.B.Denot g.B.Ring). value_passes g.B.Ring.algebra g.B.Ring.meaning g.met.B.Ring.passes v.list.items v.ended in
    record {
      difference = difference_isnt mean g.B.Ring.algebra g.met.B.Ring.laws pass c.args.sides.now c.args.degree c.args.more
          c.greatest_length-length.result c.greatest_length-length.ensures.greatest
          (elim c.then-length-eq0.branch [
            | then-length-eq0-via-then-length-eq0 w ↦ inl w.if-length-eq0.true
            | then-length-eq0-via-else-length-eq0+then-length-more w ↦ inr w.if-length-more.true
          ]);
    }

pub returns : goal.returns
returns g c =
    let mean : Poly g.row.B.Denot g.B.Ring → Meaning = λ v. listed (map g.B.Ring.meaning v.list.items) in
    let pass = λ (v : Poly g.row.B.Denot g.B.Ring). value_passes g.B.Ring.algebra g.B.Ring.meaning g.met.B.Ring.passes v.list.items v.ended in
    record {
      difference = difference_is mean g.B.Ring.algebra g.met.B.Ring.laws pass c.args.sides.now c.args.degree c.args.more
          c.greatest_length-length.result c.greatest_length-length.ensures.greatest c.if-length-eq0.false c.if-length-more.false;
    }
