use Rattle.std.proofs.Common.{◌∙◌}
use mathlib.Core.Path.{ap₂}
use Rattle.poly_generic.proofs.PolyAnswers.{fault_poly}
use Rattle.poly_fraction.proofs.ProductAnswers.{left_size_fault, right_size_fault, size_given}
use Rattle.poly_fraction.proofs.products.size_of_products.Goals as goal

-- a product of two magnitudes that isn't in bounds doesn't fit, and so the sum doesn't
pub returns-in_err-left : goal.returns-in_err-left
returns-in_err-left g c = record {
  gives =
      fault_poly _ _ _ c.from_residual-in_err-left.result c.in_err-left.field-0.0 c.from_residual-in_err-left.ensures.1
      (left_size_fault g.R.Ring.algebra g.met.R.Ring.laws g.R.Ring.meaning g.met.R.Ring.passes c.args.a.now c.args.b.now c.args.c.now c.args.d.now
      (g.R.Ring.meaning c.in_ok-a.a) (g.R.Ring.meaning c.in_ok-b.b) c.in_err-left.field-0.0 c.in_ok-a.ensures.gives c.in_ok-b.ensures.gives
      c.in_err-left.ensures.gives);
}

pub returns-in_err-right : goal.returns-in_err-right
returns-in_err-right g c = record {
  gives =
      fault_poly _ _ _ c.from_residual-in_err-right.result c.in_err-right.field-0.0 c.from_residual-in_err-right.ensures.1
      (right_size_fault g.R.Ring.algebra g.met.R.Ring.laws g.R.Ring.meaning g.met.R.Ring.passes c.args.a.now c.args.b.now c.args.c.now c.args.d.now
      (g.R.Ring.meaning c.in_ok-c.c) (g.R.Ring.meaning c.in_ok-d.d) c.in_err-right.field-0.0 c.in_ok-c.ensures.gives c.in_ok-d.ensures.gives
      c.in_err-right.ensures.gives);
}

pub returns : goal.returns
returns g c = record {
  gives =
      size_given g.R.Ring.algebra g.met.R.Ring.laws g.R.Ring.meaning g.met.R.Ring.passes c.args.a.now c.args.b.now c.args.c.now c.args.d.now
      (g.R.Ring.meaning c.in_ok-left.left) (g.R.Ring.meaning c.in_ok-right.right) c.add.result
      (c.in_ok-left.ensures.gives.1 ∙ ap₂ g.R.Ring.algebra.ops.product c.in_ok-a.ensures.gives c.in_ok-b.ensures.gives)
      (c.in_ok-right.ensures.gives.1 ∙ ap₂ g.R.Ring.algebra.ops.product c.in_ok-c.ensures.gives c.in_ok-d.ensures.gives) c.add.ensures.gives;
}
