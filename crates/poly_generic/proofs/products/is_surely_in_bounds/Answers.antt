use Rattle.std.proofs.Common.{sym, ◌∙◌}
use Rattle.poly_generic.proofs.SureProducts.{surely_in_bounds}
use Rattle.poly_generic.proofs.products.is_surely_in_bounds.Goals as goal

-- the product of the sums is in bounds, and covers each coefficient
pub returns : goal.returns
returns g c h =
    surely_in_bounds g.R.Ring.algebra g.met.R.Ring.laws g.R.Ring.meaning g.met.R.Ring.passes g.met.R.Ring.fits g.R.Ring.meaning c.args.a.now
    c.args.b.now c.in-Ok.left c.in-Ok-sum_of_magnitudes.right c.mul.result c.in-Ok.ensures c.in-Ok-sum_of_magnitudes.ensures (sym c.is_ok.ensures.value ∙ h) c.mul.ensures.gives
