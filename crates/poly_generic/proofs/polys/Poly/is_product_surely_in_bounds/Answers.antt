use Rattle.std.proofs.Common.{arith, map}
use Rattle.poly_laws.specs.Bounds.{ListProductInBounds}
use Rattle.poly_generic.proofs.PolyAnswers.{two}
use Rattle.poly_generic.proofs.SureProducts.{surely_in_bounds_product}
use Rattle.poly_generic.proofs.polys.Poly.is_product_surely_in_bounds.Goals as goal

-- each coefficient fits, and there are few
pub returns-then-len-le257 : goal.returns-then-len-le257
returns-then-len-le257 g c h =
    surely_in_bounds_product g.R.Ring.algebra g.met.R.Ring.laws g.R.Ring.meaning g.met.R.Ring.passes g.met.R.Ring.fits c.args.self.now.list.items
    c.args.other.now.list.items c.args.self.now.ended c.args.other.now.ended c.args.self.now.short
    (omega (arith, c.if-len-le257.true, c.len.ensures, c.len-2.ensures))
    (two (λ s t. ListProductInBounds g.R.Ring.algebra (map g.R.Ring.meaning s) (map g.R.Ring.meaning t)) _ _ _ _ c.deref.ensures.value
    c.deref-then-len-le257.ensures.value (c.is_surely_in_bounds.ensures h))
