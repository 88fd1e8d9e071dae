use Rattle.std.proofs.Common.{◌≡◌, ◌+◌, ◌-◌, map, drop, ap, ◌∙◌, arith}
use Rattle.poly_laws.specs.Evaluation.{list_value}
use Rattle.poly_generic.proofs.StepAnswers.{fault_value, value_product_fault, value_sum_fault}
use Rattle.poly_generic.proofs.evaluation.value_of_list.Goals as goal

-- a product that is out of bounds
pub returns-in_err-product : goal.returns-in_err-product
returns-in_err-product g c =
    let n : c.loop-power.power ≡ c.loop-power.power - 1 + 1 = omega (arith, c.loop-power-test.true) in
    fault_value _ _ _ c.from_residual-in_err-product.result c.in_err-product.field-0.0 c.from_residual-in_err-product.ensures.1
    (value_product_fault g.R.Ring.algebra g.met.R.Ring.laws g.R.Ring.meaning g.met.R.Ring.passes g.met.R.Ring.fits c.args.at.now c.args.list.now
    (c.loop-power.power - 1) c.index-list-power.result (g.R.Ring.meaning c.loop-power.value) c.in_err-product.field-0.0
    (omega (arith, c.loop-power.invariant.within, c.loop-power-test.true)) c.index-list-power.is
    (c.loop-power.invariant.made
    ∙ ap (λ k. list_value g.R.Ring.algebra.ops (g.R.Ring.meaning c.args.at.now) (map g.R.Ring.meaning (drop k c.args.list.now))) n)
    c.in_err-product.ensures.gives)

-- a sum that is out of bounds
pub returns-in_err-value-2 : goal.returns-in_err-value-2
returns-in_err-value-2 g c =
    let n : c.loop-power.power ≡ c.loop-power.power - 1 + 1 = omega (arith, c.loop-power-test.true) in
    fault_value _ _ _ c.from_residual-in_err-value-2.result c.in_err-value-2.field-0.0 c.from_residual-in_err-value-2.ensures.1
    (value_sum_fault g.R.Ring.algebra g.met.R.Ring.laws g.R.Ring.meaning g.met.R.Ring.passes g.met.R.Ring.fits c.args.at.now c.args.list.now
    (c.loop-power.power - 1) c.index-list-power.result (g.R.Ring.meaning c.in_ok-product.product) c.in_err-value-2.field-0.0
    (omega (arith, c.loop-power.invariant.within, c.loop-power-test.true)) c.index-list-power.is
    (c.in_ok-product.ensures.gives.1
    ∙ ap (g.R.Ring.algebra.ops.product (g.R.Ring.meaning c.args.at.now)) (c.loop-power.invariant.made
    ∙ ap (λ k. list_value g.R.Ring.algebra.ops (g.R.Ring.meaning c.args.at.now) (map g.R.Ring.meaning (drop k c.args.list.now))) n))
    c.in_err-value-2.ensures.gives)
