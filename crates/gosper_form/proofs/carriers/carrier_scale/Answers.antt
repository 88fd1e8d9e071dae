use Rattle.std.proofs.Common.{◌≡◌, ap, sym, ◌∙◌, subst, ◌*ℤ◌, ◌<◌, ◌^◌}
use Rattle.std.specs.Prelude.{unsigned_abs}
use lib.IntN.{pow}
use Rattle.ring_laws.specs.Answer.{fault_weaker}
use Rattle.ring_laws.specs.Wholes.{number_of}
use Rattle.hypergeometric.specs.Fraction.{Fraction}
use Rattle.hypergeometric.specs.Divisors.{lowest_terms}
use Rattle.hypergeometric.proofs.FractionLaws.{product_not_zero, pow_not_zero}
use Rattle.lin_form.proofs.ListProducts.{fault_list}
use Rattle.gosper_form.proofs.WholeNumbers.{tested_nonzero, power_one, product_is, product_fault}
use Rattle.gosper_form.proofs.carriers.carrier_scale.Goals as goal

-- the numerator is too large
pub returns-in_err-top-clause-too_large : goal.returns-in_err-top-clause-too_large
returns-in_err-top-clause-too_large c =
    fault_list _ c.from_residual.result c.in_err-top.field-0.0 c.from_residual.ensures.1
    (fault_weaker c.in_err-top.field-0.0 (λ out both. out both.0)
    (product_fault c.top.result.now.value c.args.term.now.scale.top.value c.bottom.result.now.value c.args.term.now.k_base.bottom.value
    (c.args.term.now.scale.top.value *ℤ c.args.term.now.k_base.bottom.value) 1 c.in_err-top.field-0.0 c.in_err-top.ensures.gives
    (ap number_of c.top.ensures.top ∙ ap (λ (f : Fraction). f.top) c.scale-scale.ensures.scale)
    (ap number_of c.bottom.ensures.bottom ∙ ap (λ (f : Fraction). f.bottom) c.k_base.ensures.k_base)
    (ap (λ z. c.args.term.now.scale.top.value *ℤ z) (power_one c.args.term.now.k_base.bottom.value))))

-- the denominator isn't 0
pub lowest_quotient-requires : goal.lowest_quotient-requires
lowest_quotient-requires c =
    let bottom : c.in_ok-bottom.bottom.value ≡ c.args.term.now.scale.bottom.value *ℤ pow c.args.term.now.n_base.bottom.value c.args.order =
    product_is c.in_ok-bottom.bottom.value c.bottom-2.result.now.value c.args.term.now.scale.bottom.value c.bottom-3.result.now.value
    c.args.term.now.n_base.bottom.value c.args.order c.in_ok-bottom.ensures.gives
    (ap number_of c.bottom-2.ensures.bottom ∙ ap (λ (f : Fraction). f.bottom) c.scale-scale.ensures.scale)
    (ap number_of c.bottom-3.ensures.bottom ∙ ap (λ (f : Fraction). f.bottom) c.n_base.ensures.n_base) in
    record {
      not_zero = λ z. product_not_zero c.args.term.now.scale.bottom.value (pow c.args.term.now.n_base.bottom.value c.args.order)
          (tested_nonzero c.args.term.now.scale.bottom.value c.args.term.now.scale.nonzero)
          (pow_not_zero c.args.term.now.n_base.bottom.value c.args.order
          (tested_nonzero c.args.term.now.n_base.bottom.value c.args.term.now.n_base.nonzero)) (sym bottom ∙ z);
    }

pub returns-clause-scale : goal.returns-clause-scale
returns-clause-scale c =
    let top : c.in_ok-top.top.value ≡ c.args.term.now.scale.top.value *ℤ c.args.term.now.k_base.bottom.value =
    product_is c.in_ok-top.top.value c.top.result.now.value c.args.term.now.scale.top.value c.bottom.result.now.value
    c.args.term.now.k_base.bottom.value 1 c.in_ok-top.ensures.gives
    (ap number_of c.top.ensures.top ∙ ap (λ (f : Fraction). f.top) c.scale-scale.ensures.scale)
    (ap number_of c.bottom.ensures.bottom ∙ ap (λ (f : Fraction). f.bottom) c.k_base.ensures.k_base)
    ∙ ap (λ z. c.args.term.now.scale.top.value *ℤ z) (power_one c.args.term.now.k_base.bottom.value) in
    let bottom : c.in_ok-bottom.bottom.value ≡ c.args.term.now.scale.bottom.value *ℤ pow c.args.term.now.n_base.bottom.value c.args.order =
    product_is c.in_ok-bottom.bottom.value c.bottom-2.result.now.value c.args.term.now.scale.bottom.value c.bottom-3.result.now.value
    c.args.term.now.n_base.bottom.value c.args.order c.in_ok-bottom.ensures.gives
    (ap number_of c.bottom-2.ensures.bottom ∙ ap (λ (f : Fraction). f.bottom) c.scale-scale.ensures.scale)
    (ap number_of c.bottom-3.ensures.bottom ∙ ap (λ (f : Fraction). f.bottom) c.n_base.ensures.n_base) in
    c.lowest_quotient.ensures.quotient ∙ (λ i. lowest_terms (record { top = top i; bottom = bottom i }))

pub returns-clause-in_bounds : goal.returns-clause-in_bounds
returns-clause-in_bounds c =
    let top : c.in_ok-top.top.value ≡ c.args.term.now.scale.top.value *ℤ c.args.term.now.k_base.bottom.value =
    product_is c.in_ok-top.top.value c.top.result.now.value c.args.term.now.scale.top.value c.bottom.result.now.value
    c.args.term.now.k_base.bottom.value 1 c.in_ok-top.ensures.gives
    (ap number_of c.top.ensures.top ∙ ap (λ (f : Fraction). f.top) c.scale-scale.ensures.scale)
    (ap number_of c.bottom.ensures.bottom ∙ ap (λ (f : Fraction). f.bottom) c.k_base.ensures.k_base)
    ∙ ap (λ z. c.args.term.now.scale.top.value *ℤ z) (power_one c.args.term.now.k_base.bottom.value) in
    let bottom : c.in_ok-bottom.bottom.value ≡ c.args.term.now.scale.bottom.value *ℤ pow c.args.term.now.n_base.bottom.value c.args.order =
    product_is c.in_ok-bottom.bottom.value c.bottom-2.result.now.value c.args.term.now.scale.bottom.value c.bottom-3.result.now.value
    c.args.term.now.n_base.bottom.value c.args.order c.in_ok-bottom.ensures.gives
    (ap number_of c.bottom-2.ensures.bottom ∙ ap (λ (f : Fraction). f.bottom) c.scale-scale.ensures.scale)
    (ap number_of c.bottom-3.ensures.bottom ∙ ap (λ (f : Fraction). f.bottom) c.n_base.ensures.n_base) in
    (subst (λ z. unsigned_abs z < 2 ^ 127) top c.in_ok-top.top.small, subst (λ z. unsigned_abs z < 2 ^ 127) bottom c.in_ok-bottom.bottom.small)
