use Rattle.std.proofs.Common.{◌≡◌, ap, ◌∙◌, subst, arith, ◌*ℤ◌, ◌^◌, ◌<◌}
use Rattle.std.proofs.lemmas.Int.{ints}
use Rattle.std.specs.Prelude.{unsigned_abs}
use lib.IntN.{pow}
use Rattle.ring_laws.specs.Answer.{OnFault}
use Rattle.hypergeometric.specs.FactorLists.{with_factor}
use Rattle.hypergeometric.specs.PrimitiveForm.{content_of_form}
use Rattle.lin_form.specs.Forms.{form_of}
use Rattle.lin_form.specs.ListOf.{list_of}
use Rattle.lin_form.proofs.ListProducts.{fault_list}
use Rattle.gosper_form.proofs.ProductSteps.{IsContent, content_found, product_step, form_fits, product_fault, product_end}
use Rattle.gosper_form.proofs.form_products.product_of.Goals as goal

-- a step that is too large shows that the whole is
pub returns-in_err-number-clause-too_large : goal.returns-in_err-number-clause-too_large
returns-in_err-number-clause-too_large c =
    let found : IsContent (form_of c.raised-item.result.form) c.primitive-content.result.0 (form_of c.primitive-content.result.1) =
    content_found (form_of c.raised-item.result.form) _ _ c.raised-item.result.varies c.primitive-content.ensures.only in
    let content : c.from.result.value ≡ content_of_form (form_of c.raised-item.result.form) = omega (arith, ints, c.from.ensures, found.content) in
    fault_list _ c.from_residual-in_err-number.result c.in_err-number.field-0.0 c.from_residual-in_err-number.ensures.1
    (product_fault c.args.number.value c.loop-raised.number.value (list_of c.loop-raised.list) c.args.forms.now c.loop-raised.raised-index
    c.raised-item.result c.loop-raised-test.true c.raised-item.is c.loop-raised.invariant c.in_err-number.field-0.0
    (subst (λ z. OnFault (¬ (unsigned_abs (c.loop-raised.number.value *ℤ pow z c.raised-item.result.power) < 2 ^ 127)) c.in_err-number.field-0.0) content
    c.in_err-number.ensures.gives))

pub multiply-requires-clause-fits : goal.multiply-requires-clause-fits
multiply-requires-clause-fits c =
    form_fits c.args.number.value c.loop-raised.number.value (list_of c.loop-raised.list) c.args.forms.now c.loop-raised.raised-index
    c.raised-item.result c.loop-raised-test.true c.raised-item.is c.loop-raised.invariant c.requires.few (form_of c.primitive-content.result.1)

-- one form more
pub loop-raised-preserved : goal.loop-raised-preserved
loop-raised-preserved c =
    let found : IsContent (form_of c.raised-item.result.form) c.primitive-content.result.0 (form_of c.primitive-content.result.1) =
    content_found (form_of c.raised-item.result.form) _ _ c.raised-item.result.varies c.primitive-content.ensures.only in
    let content : c.from.result.value ≡ content_of_form (form_of c.raised-item.result.form) = omega (arith, ints, c.from.ensures, found.content) in
    product_step c.args.number.value c.loop-raised.number.value (list_of c.loop-raised.list) c.args.forms.now c.loop-raised.raised-index
    c.raised-item.result c.loop-raised-test.true c.raised-item.is c.loop-raised.invariant c.in_ok-number.number.value (list_of c.multiply.new.self)
    (c.in_ok-number.ensures.gives ∙ ap (λ z. c.loop-raised.number.value *ℤ pow z c.raised-item.result.power) content)
    c.in_ok-multiply.ensures.scale
    (c.in_ok-multiply.ensures.factors ∙ ap (λ f. with_factor f c.raised-item.result.power (list_of c.loop-raised.list).factors) found.primitive)

-- the sorted list
pub returns-clause-product : goal.returns-clause-product
returns-clause-product c =
    product_end c.args.number.value c.loop-raised.number.value (list_of c.loop-raised.list) c.args.forms.now c.loop-raised.raised-index
    (omega (arith, c.loop-raised-test.false)) c.loop-raised.invariant (list_of c.in_ok-list-2.list) c.in_ok-list-2.ensures.same
    c.in_ok-list-2.ensures.sorted c.loop-raised.list.factors c.in_ok-list-2.list.factors c.in_ok-list-2.ensures.scale (list_of c.multiply_scale.new.self)
    c.in_ok-multiply_scale.ensures.factors c.in_ok-multiply_scale.ensures.scale
