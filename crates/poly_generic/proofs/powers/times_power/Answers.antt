use Rattle.std.specs.Prelude.{◌+◌, ◌/◌}
use Rattle.std.proofs.Common.{arith, ap, ◌∙◌, subst}
use Rattle.poly_laws.proofs.Squaring.{Reached, start_reached, done}
use Rattle.poly_generic.proofs.SquaringSteps.{odd_halved, even_halved, squared, none_left, odd_fault, square_fault, fault_times}
use Rattle.poly_generic.proofs.powers.times_power.Goals as goal
use Rattle.poly_generic.proofs.powers.times_power.Goals.{then-left-eq1+in_ok-product, else-left-eq1}

pub loop-left-init : goal.loop-left-init
loop-left-init g c =
    start_reached g.R.Ring.algebra g.met.R.Ring.laws (g.R.Ring.meaning c.args.product) (g.R.Ring.meaning c.args.base, g.met.R.Ring.passes c.args.base)
    c.args.power c.requires.distinct

pub returns-in_err-product : goal.returns-in_err-product
returns-in_err-product g c = record {
  gives = fault_times g.R.Ring.meaning g.R.Ring.algebra _ _ _ c.from_residual.result c.in_err-product.field-0.0 c.from_residual.ensures.1
      (odd_fault g.R.Ring.algebra g.met.R.Ring.laws (g.R.Ring.meaning c.args.product) (g.R.Ring.meaning c.args.base) c.args.power
      (g.R.Ring.meaning c.loop-left.product, g.met.R.Ring.passes c.loop-left.product)
      (g.R.Ring.meaning c.loop-left.square, g.met.R.Ring.passes c.loop-left.square) c.loop-left.left c.requires.distinct c.in_err-product.field-0.0
      c.loop-left.invariant c.loop-left-test.true c.in_err-product.ensures.gives);
}

pub returns-in_err-square : goal.returns-in_err-square
returns-in_err-square g c =
    let half : Reached g.R.Ring.algebra (g.R.Ring.meaning c.args.product) (g.R.Ring.meaning c.args.base) c.args.power
    (g.R.Ring.meaning c.if-left-eq1.product) (g.R.Ring.meaning c.loop-left.square) (c.loop-left.left / 2 + c.loop-left.left / 2) =
    elim c.if-left-eq1.branch [
      | then-left-eq1+in_ok-product w ↦ odd_halved g.R.Ring.algebra g.met.R.Ring.laws _ _ _
          (g.R.Ring.meaning c.loop-left.product, g.met.R.Ring.passes c.loop-left.product)
          (g.R.Ring.meaning c.loop-left.square, g.met.R.Ring.passes c.loop-left.square) c.loop-left.left _ c.requires.distinct c.loop-left.invariant
          w.if-left-eq1.true (ap g.R.Ring.meaning w.product-is ∙ w.in_ok-product.ensures.gives.1)
      | else-left-eq1 w ↦ even_halved g.R.Ring.algebra g.met.R.Ring.laws _ _ _ (g.R.Ring.meaning c.loop-left.product) _ c.loop-left.left _
          c.loop-left.invariant w.if-left-eq1.false (ap g.R.Ring.meaning w.product-is)
    ] in
    record {
      gives = fault_times g.R.Ring.meaning g.R.Ring.algebra _ _ _ c.from_residual-in_err-square.result c.in_err-square.field-0.0
          c.from_residual-in_err-square.ensures.1
          (square_fault g.R.Ring.algebra g.met.R.Ring.laws (g.R.Ring.meaning c.args.product) (g.R.Ring.meaning c.args.base) c.args.power
          (g.R.Ring.meaning c.if-left-eq1.product, g.met.R.Ring.passes c.if-left-eq1.product)
          (g.R.Ring.meaning c.loop-left.square, g.met.R.Ring.passes c.loop-left.square) (c.loop-left.left / 2) c.requires.distinct c.in_err-square.field-0.0
          half c.if-left-gt0.true c.in_err-square.ensures.gives);
    }

pub loop-left-preserved-then-left-gt0 : goal.loop-left-preserved-then-left-gt0
loop-left-preserved-then-left-gt0 g c =
    let half : Reached g.R.Ring.algebra (g.R.Ring.meaning c.args.product) (g.R.Ring.meaning c.args.base) c.args.power
    (g.R.Ring.meaning c.if-left-eq1.product) (g.R.Ring.meaning c.loop-left.square) (c.loop-left.left / 2 + c.loop-left.left / 2) =
    elim c.if-left-eq1.branch [
      | then-left-eq1+in_ok-product w ↦ odd_halved g.R.Ring.algebra g.met.R.Ring.laws _ _ _
          (g.R.Ring.meaning c.loop-left.product, g.met.R.Ring.passes c.loop-left.product)
          (g.R.Ring.meaning c.loop-left.square, g.met.R.Ring.passes c.loop-left.square) c.loop-left.left _ c.requires.distinct c.loop-left.invariant
          w.if-left-eq1.true (ap g.R.Ring.meaning w.product-is ∙ w.in_ok-product.ensures.gives.1)
      | else-left-eq1 w ↦ even_halved g.R.Ring.algebra g.met.R.Ring.laws _ _ _ (g.R.Ring.meaning c.loop-left.product) _ c.loop-left.left _
          c.loop-left.invariant w.if-left-eq1.false (ap g.R.Ring.meaning w.product-is)
    ] in
    squared g.R.Ring.algebra g.met.R.Ring.laws _ _ _ _ (g.R.Ring.meaning c.loop-left.square, g.met.R.Ring.passes c.loop-left.square)
    (c.loop-left.left / 2) _ c.requires.distinct half c.in_ok-square.ensures.gives.1

pub loop-left-preserved : goal.loop-left-preserved
loop-left-preserved g c =
    let half : Reached g.R.Ring.algebra (g.R.Ring.meaning c.args.product) (g.R.Ring.meaning c.args.base) c.args.power
    (g.R.Ring.meaning c.if-left-eq1.product) (g.R.Ring.meaning c.loop-left.square) (c.loop-left.left / 2 + c.loop-left.left / 2) =
    elim c.if-left-eq1.branch [
      | then-left-eq1+in_ok-product w ↦ odd_halved g.R.Ring.algebra g.met.R.Ring.laws _ _ _
          (g.R.Ring.meaning c.loop-left.product, g.met.R.Ring.passes c.loop-left.product)
          (g.R.Ring.meaning c.loop-left.square, g.met.R.Ring.passes c.loop-left.square) c.loop-left.left _ c.requires.distinct c.loop-left.invariant
          w.if-left-eq1.true (ap g.R.Ring.meaning w.product-is ∙ w.in_ok-product.ensures.gives.1)
      | else-left-eq1 w ↦ even_halved g.R.Ring.algebra g.met.R.Ring.laws _ _ _ (g.R.Ring.meaning c.loop-left.product) _ c.loop-left.left _
          c.loop-left.invariant w.if-left-eq1.false (ap g.R.Ring.meaning w.product-is)
    ] in
    none_left g.R.Ring.algebra g.met.R.Ring.laws _ _ _ _ _ (c.loop-left.left / 2) half (omega (arith, c.if-left-gt0.false))

pub returns : goal.returns
returns g c = record {
  gives = done g.R.Ring.algebra g.met.R.Ring.laws (g.R.Ring.meaning c.loop-left.product, g.met.R.Ring.passes c.loop-left.product) _ _ _ _
      (subst (λ n. Reached g.R.Ring.algebra (g.R.Ring.meaning c.args.product) (g.R.Ring.meaning c.args.base) c.args.power (g.R.Ring.meaning c.loop-left.product)
      (g.R.Ring.meaning c.loop-left.square) n)
      (omega (arith, c.loop-left-test.false)) c.loop-left.invariant);
}
