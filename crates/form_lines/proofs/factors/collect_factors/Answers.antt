use Rattle.std.proofs.Common.{◌∙◌, ap, sym, arith}
use Rattle.hypergeometric.specs.FactorLists.{power_of}
use Rattle.lin_form.specs.Forms.{form_of}
use Rattle.lin_form.specs.ListOf.{list_of}
use Rattle.form_lines.proofs.FactorSteps.{some_power, none_before, one_more, collected}
use Rattle.form_lines.proofs.factors.collect_factors.Goals as goal

-- no power is 0
pub returns-then-power-eq0 : goal.returns-then-power-eq0
returns-then-power-eq0 c = λ has.
    omega (arith, some_power c.args.items.now c.loop-item.item-index c.item-item.result c.loop-item-test.true c.item-item.is has, c.if-power-eq0.true)

-- no form stands twice
pub returns-then-power-ne0 : goal.returns-then-power-ne0
returns-then-power-ne0 c = λ has.
    let none = none_before c.args.items.now c.loop-item.item-index c.item-item.result c.loop-item-test.true c.item-item.is has in
    c.if-power-ne0.true (c.power.ensures.power ∙ ap (λ l. power_of (form_of c.item-item.result.0) l.factors) c.loop-item.invariant ∙ none)

-- the list has one more item
pub loop-item-preserved : goal.loop-item-preserved
loop-item-preserved c =
    collected (list_of c.loop-item.list) (list_of c.multiply.new.self) (form_of c.item-item.result.0) c.item-item.result.1 _ _ c.loop-item.invariant
    c.multiply.ensures.scale c.in-Ok-multiply.ensures.factors c.loop-item.list.factors.each (sym c.power.ensures.power ∙ c.if-power-ne0.false)
    (one_more c.args.items.now c.loop-item.item-index c.item-item.result c.loop-item-test.true c.item-item.is)
