use Rattle.std.proofs.Common.{◌≡◌, arith, map}
use Rattle.std.proofs.lemmas.Int.{ints, to_z-of_z}
use Rattle.ring_laws.specs.Meaning.{Meaning, listed}
use Rattle.poly_generic.specs.declared.polys.Poly.{Poly}
use Rattle.poly_generic.proofs.EvalAnswers.{shift_number}
use Rattle.poly_generic.proofs.polys.Poly.shift_by.Goals as goal

pub returns : goal.returns
returns g c =
    let number : c.from.result.value ≡ c.args.by = grind (arith, ints, to_z-of_z, c.from.ensures) in
    let mean : Poly g.row.R.Denot g.R.Ring → Meaning = λ v. listed (map g.R.Ring.meaning v.list.items) in
    record {
      gives = shift_number g.R.Ring.algebra mean c.from.result.value c.args.by (mean c.args.self.now) c.shifted.result number c.shifted.ensures.gives;
    }
