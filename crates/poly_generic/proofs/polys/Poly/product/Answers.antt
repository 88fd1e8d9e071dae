use Rattle.std.proofs.Common.{map, ◌≡◌}
use Rattle.poly_laws.specs.Bounds.{ListProductInBounds}
use Rattle.poly_laws.specs.Lists.{list_product}
use Rattle.ring_laws.specs.Answer.{OnFault}
use Rattle.poly_generic.proofs.PolyAnswers.{fault_poly, two}
use Rattle.poly_generic.proofs.ProductAnswers.{product_fault, product_in_bounds_given}
use Rattle.poly_generic.proofs.polys.Poly.product.Goals as goal

-- a step of the product doesn't fit, so that of the magnitudes doesn't
pub returns-in_err-list : goal.returns-in_err-list
returns-in_err-list g c =
    record {
      gives =
          fault_poly _ _ _ c.from_residual.result c.in_err-list.field-0.0 c.from_residual.ensures.1
          (product_fault g.R.Ring.algebra g.met.R.Ring.laws g.R.Ring.meaning g.met.R.Ring.passes g.met.R.Ring.fits c.args.self.now.list.items
          c.args.other.now.list.items c.in_err-list.field-0.0 c.args.self.now.ended c.args.other.now.ended
          (two (λ s t. OnFault (¬
          (ListProductInBounds g.R.Ring.algebra (map g.R.Ring.meaning s)
          (map g.R.Ring.meaning t))) c.in_err-list.field-0.0) _ _ _ _ c.deref.ensures.value c.deref-2.ensures.value c.in_err-list.ensures));
    }

-- the product that the test has shown to be in bounds
pub returns : goal.returns
returns g c =
    let list = two (λ s t. map g.R.Ring.meaning c.in_ok-list.list.items ≡ list_product g.R.Ring.algebra.ops (map g.R.Ring.meaning s)
    (map g.R.Ring.meaning t))
    c.deref.result.now c.args.self.now.list.items c.deref-2.result.now c.args.other.now.list.items c.deref.ensures.value c.deref-2.ensures.value
    c.in_ok-list.ensures in
    record {
      gives =
          product_in_bounds_given g.R.Ring.algebra g.met.R.Ring.laws g.R.Ring.meaning g.met.R.Ring.passes g.met.R.Ring.fits _
          c.args.self.now.list.items c.args.other.now.list.items (map g.R.Ring.meaning c.in_ok-list.list.items) c.from_coefficients.result
          c.args.self.now.ended c.args.other.now.ended (c.is_product_surely_in_bounds.ensures c.if-not-is_product_surely_in_bounds.false) list c.from_coefficients.ensures.gives;
    }
