use Rattle.std.proofs.Common.{map}
use Rattle.ring_laws.specs.Algebra.{Passing}
use Rattle.ring_laws.specs.Meaning.{Meaning, listed}
use Rattle.poly_laws.specs.PolyAlgebra.{poly_algebra}
use Rattle.poly_laws.proofs.Belonging.{value_passes}
use Rattle.poly_laws.proofs.PolyMagnitudes.{poly_laws}
use Rattle.poly_generic.specs.declared.polys.Poly.{Poly}
use Rattle.poly_generic.proofs.EasyProducts.{exchanged, counted_none, no_items, with_nought}
use Rattle.poly_generic.proofs.polys.PolyRing.mul.Goals as goal
use Rattle.poly_generic.proofs.polys.PolyRing.mul.Goals.{then-is_empty-via-then-is_empty, then-is_empty-via-else-is_empty+then-is_empty-2}

-- a factor without coefficients
pub returns-then-is_empty : goal.returns-then-is_empty
returns-then-is_empty g c =
    let M = g.R.Ring.meaning in
    let P = g.met.R.Ring.passes in
    let a = g.R.Ring.algebra in
    let L = poly_laws g.R.Ring.algebra g.met.R.Ring.laws in
    let mean : Poly g.row.R.Denot g.R.Ring → Meaning = λ v. listed (map M v.list.items) in
    let x : Passing (poly_algebra g.R.Ring.algebra) = (mean c.args.self.now, value_passes a M P c.args.self.now.list.items c.args.self.now.ended) in
    let y : Passing (poly_algebra g.R.Ring.algebra) = (mean c.args.other.now, value_passes a M P c.args.other.now.list.items c.args.other.now.ended) in
    record {
      gives =
          elim c.then-is_empty.branch [
            | then-is_empty-via-then-is_empty w ↦ with_nought (poly_algebra a) L mean x y c.zero.result
                (no_items M c.args.self.now.list.items (counted_none c.args.self.now.list c.is_empty.result c.is_empty.ensures w.if-is_empty.true)) c.zero.ensures.gives
            | then-is_empty-via-else-is_empty+then-is_empty-2 w ↦ exchanged (poly_algebra a) L mean x y c.zero.result
                (with_nought (poly_algebra a) L mean y x c.zero.result
                (no_items M c.args.other.now.list.items (counted_none c.args.other.now.list w.is_empty-else-is_empty.result w.is_empty-else-is_empty.ensures w.if-is_empty-2.true)) c.zero.ensures.gives)
          ];
    }

-- the factors exchanged
pub returns-else-len : goal.returns-else-len
returns-else-len g c =
    let M = g.R.Ring.meaning in
    let P = g.met.R.Ring.passes in
    let a = g.R.Ring.algebra in
    let mean : Poly g.row.R.Denot g.R.Ring → Meaning = λ v. listed (map M v.list.items) in
    let x : Passing (poly_algebra g.R.Ring.algebra) = (mean c.args.self.now, value_passes a M P c.args.self.now.list.items c.args.self.now.ended) in
    let y : Passing (poly_algebra g.R.Ring.algebra) = (mean c.args.other.now, value_passes a M P c.args.other.now.list.items c.args.other.now.ended) in
    record { gives = exchanged (poly_algebra a) (poly_laws a g.met.R.Ring.laws) mean x y c.product-else-len.result c.product-else-len.ensures.gives }
