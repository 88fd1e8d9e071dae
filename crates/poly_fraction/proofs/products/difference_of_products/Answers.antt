use Rattle.poly_generic.proofs.PolyAnswers.{fault_poly}
use Rattle.poly_fraction.proofs.ProductAnswers.{left_fault, right_fault, last_given}
use Rattle.poly_fraction.proofs.products.difference_of_products.Goals as goal

-- where the size fits, each step is in bounds
pub returns-in_err-left : goal.returns-in_err-left
returns-in_err-left g c = record {
  gives =
      fault_poly _ _ _ c.from_residual-in_err-left.result c.in_err-left.field-0.0 c.from_residual-in_err-left.ensures.1
      (left_fault g.R.Ring.algebra g.met.R.Ring.laws g.R.Ring.meaning g.met.R.Ring.passes c.args.a.now c.args.b.now c.args.c.now c.args.d.now
      c.in_err-left.field-0.0 c.in_err-left.ensures.gives);
}

pub returns-in_err-right : goal.returns-in_err-right
returns-in_err-right g c = record {
  gives =
      fault_poly _ _ _ c.from_residual-in_err-right.result c.in_err-right.field-0.0 c.from_residual-in_err-right.ensures.1
      (right_fault g.R.Ring.algebra g.met.R.Ring.laws g.R.Ring.meaning g.met.R.Ring.passes c.args.a.now c.args.b.now c.args.c.now c.args.d.now
      c.in_err-right.field-0.0 c.in_err-right.ensures.gives);
}

pub returns : goal.returns
returns g c = record {
  gives =
      last_given g.R.Ring.algebra g.met.R.Ring.laws g.R.Ring.meaning g.met.R.Ring.passes
      (λ s t. g.R.Ring.algebra.ops.sum s (g.R.Ring.algebra.ops.neg t)) c.args.a.now c.args.b.now c.args.c.now c.args.d.now
      (g.R.Ring.meaning c.in_ok-left.left) (g.R.Ring.meaning c.in_ok-right.right) c.sub.result
      c.in_ok-left.ensures.gives.1 c.in_ok-right.ensures.gives.1 c.in_ok-_size.ensures.gives.0 c.sub.ensures.gives;
}
