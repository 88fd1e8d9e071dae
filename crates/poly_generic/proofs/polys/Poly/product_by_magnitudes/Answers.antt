use Rattle.std.proofs.Common.{map, ◌≡◌, ◌∙◌, ap}
use Rattle.poly_laws.specs.Bounds.{ListProductInBounds}
use Rattle.poly_laws.specs.Lists.{list_product}
use Rattle.ring_laws.specs.Answer.{OnFault}
use Rattle.poly_generic.proofs.PolyAnswers.{fault_poly, two}
use Rattle.poly_generic.proofs.ProductAnswers.{bound_fault, long_fault, product_fault, product_given}
use Rattle.poly_generic.proofs.polys.Poly.product_by_magnitudes.Goals as goal

pub returns-in_err-bound : goal.returns-in_err-bound
returns-in_err-bound g c =
    let left : map g.R.Ring.meaning c.in_ok-left.left.items ≡ map g.R.Ring.algebra.ops.magnitude (map g.R.Ring.meaning c.args.self.now.list.items) =
    c.in_ok-left.ensures ∙ ap (λ t. map g.R.Ring.algebra.ops.magnitude (map g.R.Ring.meaning t)) c.deref.ensures.value in
    let right : map g.R.Ring.meaning c.in_ok-right.right.items
    ≡ map g.R.Ring.algebra.ops.magnitude (map g.R.Ring.meaning c.args.other.now.list.items) =
    c.in_ok-right.ensures ∙ ap (λ t. map g.R.Ring.algebra.ops.magnitude (map g.R.Ring.meaning t)) c.deref-2.ensures.value in
    record {
      gives =
          fault_poly _ _ _ c.from_residual-in_err-bound.result c.in_err-bound.field-0.0 c.from_residual-in_err-bound.ensures.1
          (bound_fault g.R.Ring.algebra g.met.R.Ring.laws g.R.Ring.meaning g.met.R.Ring.passes g.met.R.Ring.fits c.args.self.now.list.items
          c.args.other.now.list.items (map g.R.Ring.meaning c.in_ok-left.left.items)
          (map g.R.Ring.meaning c.in_ok-right.right.items) c.in_err-bound.field-0.0
          c.args.self.now.ended c.args.other.now.ended left right
          (two (λ s t. OnFault (¬
          (ListProductInBounds g.R.Ring.algebra (map g.R.Ring.meaning s)
          (map g.R.Ring.meaning t))) c.in_err-bound.field-0.0) _ _ _ _ c.deref-3.ensures.value c.deref-4.ensures.value c.in_err-bound.ensures));
    }

pub returns-in_err-_bound : goal.returns-in_err-_bound
returns-in_err-_bound g c =
    let left : map g.R.Ring.meaning c.in_ok-left.left.items ≡ map g.R.Ring.algebra.ops.magnitude (map g.R.Ring.meaning c.args.self.now.list.items) =
    c.in_ok-left.ensures ∙ ap (λ t. map g.R.Ring.algebra.ops.magnitude (map g.R.Ring.meaning t)) c.deref.ensures.value in
    let right : map g.R.Ring.meaning c.in_ok-right.right.items
    ≡ map g.R.Ring.algebra.ops.magnitude (map g.R.Ring.meaning c.args.other.now.list.items) =
    c.in_ok-right.ensures ∙ ap (λ t. map g.R.Ring.algebra.ops.magnitude (map g.R.Ring.meaning t)) c.deref-2.ensures.value in
    let bound = two (λ s t. map g.R.Ring.meaning c.in_ok-bound.bound.items ≡ list_product g.R.Ring.algebra.ops (map g.R.Ring.meaning s)
    (map g.R.Ring.meaning t))
    c.deref-3.result.now c.in_ok-left.left.items c.deref-4.result.now c.in_ok-right.right.items c.deref-3.ensures.value c.deref-4.ensures.value
    c.in_ok-bound.ensures in
    record {
      gives =
          fault_poly _ _ _ c.from_residual-in_err-_bound.result c.in_err-_bound.field-0.0 c.from_residual-in_err-_bound.ensures.1
          (long_fault g.R.Ring.algebra g.met.R.Ring.laws g.R.Ring.meaning g.met.R.Ring.passes g.met.R.Ring.fits c.args.self.now.list.items
          c.args.other.now.list.items (map g.R.Ring.meaning c.in_ok-left.left.items) (map g.R.Ring.meaning c.in_ok-right.right.items)
          (map g.R.Ring.meaning c.in_ok-bound.bound.items) c.in_err-_bound.field-0.0
          c.args.self.now.ended c.args.other.now.ended left right bound c.in_err-_bound.ensures.gives);
    }

pub returns-in_err-list : goal.returns-in_err-list
returns-in_err-list g c =
    record {
      gives =
          fault_poly _ _ _ c.from_residual-in_err-list.result c.in_err-list.field-0.0 c.from_residual-in_err-list.ensures.1
          (product_fault g.R.Ring.algebra g.met.R.Ring.laws g.R.Ring.meaning g.met.R.Ring.passes g.met.R.Ring.fits c.args.self.now.list.items
          c.args.other.now.list.items c.in_err-list.field-0.0 c.args.self.now.ended c.args.other.now.ended
          (two (λ s t. OnFault (¬
          (ListProductInBounds g.R.Ring.algebra (map g.R.Ring.meaning s)
          (map g.R.Ring.meaning t))) c.in_err-list.field-0.0) _ _ _ _ c.deref-5.ensures.value c.deref-6.ensures.value c.in_err-list.ensures));
    }

pub returns : goal.returns
returns g c =
    let left : map g.R.Ring.meaning c.in_ok-left.left.items ≡ map g.R.Ring.algebra.ops.magnitude (map g.R.Ring.meaning c.args.self.now.list.items) =
    c.in_ok-left.ensures ∙ ap (λ t. map g.R.Ring.algebra.ops.magnitude (map g.R.Ring.meaning t)) c.deref.ensures.value in
    let right : map g.R.Ring.meaning c.in_ok-right.right.items
    ≡ map g.R.Ring.algebra.ops.magnitude (map g.R.Ring.meaning c.args.other.now.list.items) =
    c.in_ok-right.ensures ∙ ap (λ t. map g.R.Ring.algebra.ops.magnitude (map g.R.Ring.meaning t)) c.deref-2.ensures.value in
    let bound = two (λ s t. map g.R.Ring.meaning c.in_ok-bound.bound.items ≡ list_product g.R.Ring.algebra.ops (map g.R.Ring.meaning s)
    (map g.R.Ring.meaning t))
    c.deref-3.result.now c.in_ok-left.left.items c.deref-4.result.now c.in_ok-right.right.items c.deref-3.ensures.value c.deref-4.ensures.value
    c.in_ok-bound.ensures in
    let list = two (λ s t. map g.R.Ring.meaning c.in_ok-list.list.items ≡ list_product g.R.Ring.algebra.ops (map g.R.Ring.meaning s)
    (map g.R.Ring.meaning t))
    c.deref-5.result.now c.args.self.now.list.items c.deref-6.result.now c.args.other.now.list.items c.deref-5.ensures.value c.deref-6.ensures.value
    c.in_ok-list.ensures in
    record {
      gives =
          product_given g.R.Ring.algebra g.met.R.Ring.laws g.R.Ring.meaning g.met.R.Ring.passes g.met.R.Ring.fits _ c.args.self.now.list.items
          c.args.other.now.list.items c.in_ok-bound.bound.items
          (map g.R.Ring.meaning c.in_ok-left.left.items) (map g.R.Ring.meaning c.in_ok-right.right.items)
          (map g.R.Ring.meaning c.in_ok-list.list.items) c.from_coefficients-2.result
          c.args.self.now.ended c.args.other.now.ended left right bound c.in_ok-_bound.ensures.gives.0 list c.from_coefficients-2.ensures.gives;
    }
