-- What each row of the walk over a tree does to the value of a term.
use Rattle.std.proofs.Common.{◌≡◌, ◌≢◌, ℕ, suc, ◌+◌, refl, ap, sym, ◌∙◌, Bool, true, false, Option, Some, None, subst}
use Rattle.std.specs.Prelude.{ℤ, pos, negsuc, int_lt, if◌then◌else◌, Ok}
use Rattle.ring_laws.specs.Meaning.{Meaning, items}
use Rattle.poly_laws.specs.TwoVariables.{in_n_and_k, poly_power, constant_in_k}
use Rattle.steps.specs.Steps.{gives, refuses, ◌then◌}
use Rattle.steps.specs.TermFaults.{improper, TermSteps}
use Rattle.steps.specs.declared.limits.LimitName.TheVariants.{Factors}
use Rattle.steps.proofs.StepLaws.{then_gave, same_Ok, limit_gave, not_refused}
use Rattle.hypergeometric.specs.Point.{Point}
use Rattle.hypergeometric.specs.Fraction.{Fraction, of_whole, fraction_product, fraction_inverse, natural_power, whole_power}
use Rattle.hypergeometric.specs.LinearForm.{LinearForm, form_value}
use Rattle.hypergeometric.specs.ProperTerm.{ProperTerm, poly_value, IsNonzero, HasFractions}
use Rattle.hypergeometric.specs.TermFacts.{total_power}
use Rattle.hypergeometric.specs.FactorLists as lists
use Rattle.hypergeometric.specs.Divisors.{lowest_terms, raised_fraction}
use Rattle.hypergeometric.specs.PrimitiveForm.{is_zero, content_of_form, primitive_form}
use Rattle.hypergeometric.proofs.FractionLaws.{one_not_zero}
use Rattle.hypergeometric.proofs.SameValues.{◌≅◌, same, same_chain, same_symmetric}
use Rattle.hypergeometric.proofs.FractionPowers.{product_comm, whole_power_of_product}
use Rattle.hypergeometric.proofs.Contents.{content_not_zero, content_times}
use Rattle.term_classes.specs.TreeValue.{factorial_power}
use Rattle.term_classes.specs.Forms.{linear_form_of, limited_form}
use Rattle.term_classes.specs.Walk.{with_lists, with_scale, with_poly, times_power, few_factors, with_factorial, with_denominator, times_number, times_polynomial, times_found}
use Rattle.term_classes.proofs.PassingPolynomials.{Belongs}
use Rattle.term_classes.proofs.VaryingForms.{IsVarying, varying_not_zero}
use Rattle.term_classes.proofs.PolynomialParts.{value_of_power}
use Rattle.term_classes.proofs.ConstantPowers.{constant_value, not_zero}
use Rattle.term_classes.proofs.TermProducts.{IsTimes, times_both, times_same}
use Rattle.term_classes.proofs.FieldProducts.{scale_times, poly_times, up_times, down_times, over_times}
use Rattle.term_classes.proofs.FormValues.{linear_value}

pub few_same : (s s' : ProperTerm) → (few_factors s).outcome ≡ Ok s' → s ≡ s'
few_same s s' e = (limit_gave Factors (total_power s.up + total_power s.down + total_power s.over) s s' e).same

-- a factorial, above or below
pub factorial_row : (l : LinearForm) (w : ℤ) (s s' : ProperTerm) → HasFractions s → (with_factorial l w s).outcome ≡ Ok s'
    → IsTimes s s' (λ p. factorial_power w (form_value l p))
factorial_row l (pos w) s s' h e =
    subst (λ t. IsTimes s t (λ p. factorial_power (pos w) (form_value l p)))
    (few_same (with_lists (lists.with_factor l w s.up) s.down s.over s.guard s) s' e)
    (up_times s h l w)
factorial_row l (negsuc w) s s' h e =
    subst (λ t. IsTimes s t (λ p. factorial_power (negsuc w) (form_value l p)))
    (few_same (with_lists s.up (lists.with_factor l (suc w) s.down) s.over s.guard s) s' e) (down_times s h l (suc w))

pub whole_nonzero : (z : ℤ) → z ≢ pos 0 → IsNonzero (of_whole z)
whole_nonzero z n = record { top = n; bottom = one_not_zero }

-- one over a form
denominator_row : (at : ℕ) (l : LinearForm) (w : ℕ) (s s' : ProperTerm) → content_of_form l ≢ pos 0 → HasFractions s
    → (with_denominator at l (suc w) s).outcome ≡ Ok s'
    → IsTimes s s' (λ p. whole_power (of_whole (form_value l p)) (negsuc w))
denominator_row at l w s s' some h e =
    let t : ProperTerm = with_lists s.up s.down (lists.with_factor (primitive_form l) (suc w) s.over) s.guard s in
    let g = then_gave (few_factors t) (λ g. times_power at g.scale (of_whole (content_of_form l)) (negsuc w) then (λ s. gives (with_scale s g)))
    s' e in
    let over = subst (λ t. IsTimes s t (λ p. natural_power (fraction_inverse (of_whole (form_value (primitive_form l) p))) (suc w)))
    (few_same t g.value g.first)
    (over_times s h (primitive_form l) (suc w)) in
    let scaled = scale_times g.value over.fractions (of_whole (content_of_form l)) (negsuc w) (whole_nonzero (content_of_form l) some) in
    times_same s s' (λ p. fraction_product (whole_power (of_whole (form_value (primitive_form l) p)) (negsuc w))
    (whole_power (of_whole (content_of_form l)) (negsuc w)))
    (λ p. whole_power (of_whole (form_value l p)) (negsuc w))
    (subst (λ t. IsTimes s t (λ p. fraction_product (whole_power (of_whole (form_value (primitive_form l) p)) (negsuc w))
    (whole_power (of_whole (content_of_form l)) (negsuc w))))
    (same_Ok (with_scale (lowest_terms (fraction_product g.value.scale (raised_fraction (of_whole (content_of_form l)) (negsuc w)))) g.value)
    s' g.second)
    (times_both s g.value (with_scale (lowest_terms (fraction_product g.value.scale (raised_fraction (of_whole (content_of_form l)) (negsuc w))))
    g.value)
    (λ p. natural_power (fraction_inverse (of_whole (form_value (primitive_form l) p))) (suc w))
    (λ p. whole_power (of_whole (content_of_form l)) (negsuc w)) over scaled))
    (λ p. same (product_comm (whole_power (of_whole (form_value (primitive_form l) p)) (negsuc w))
    (whole_power (of_whole (content_of_form l)) (negsuc w))
    ∙ sym (whole_power_of_product (of_whole (content_of_form l)) (of_whole (form_value (primitive_form l) p)) (negsuc w))
    ∙ ap (λ z. whole_power (of_whole z) (negsuc w)) (content_times l p)))

-- a number
number_row : (at : ℕ) (z w : ℤ) (s s' : ProperTerm) → HasFractions s → (times_number at z w s).outcome ≡ Ok s'
    → IsTimes s s' (λ p. whole_power (of_whole z) w)
number_row at z w s s' h e = by (is_zero z) refl e
  where
    by : (b : Bool) → is_zero z ≡ b → (if b then refuses (improper (if int_lt w (pos 0) then 3 else 7) at)
        else (times_power at s.scale (of_whole z) w then (λ t. gives (with_scale t s)))).outcome ≡ Ok s'
        → IsTimes s s' (λ p. whole_power (of_whole z) w)
    by true given q = absurd (not_refused (improper (if int_lt w (pos 0) then 3 else 7) at) s' q)
    by false given q = subst (λ t. IsTimes s t (λ p. whole_power (of_whole z) w))
        (same_Ok (with_scale (lowest_terms (fraction_product s.scale (raised_fraction (of_whole z) w))) s) s' q)
        (scale_times s h (of_whole z) w (whole_nonzero z (not_zero z given)))

-- a polynomial that is no number
polynomial_row : (at : ℕ) (poly : Meaning) (w : ℤ) (s s' : ProperTerm) → IsVarying poly → HasFractions s → (times_polynomial at poly w s).outcome ≡ Ok s'
    → IsTimes s s' (λ p. whole_power (of_whole (poly_value poly p)) w)
polynomial_row at poly (pos w) s s' varying h e =
    subst (λ t. IsTimes s t (λ p. whole_power (of_whole (poly_value poly p)) (pos w)))
    (same_Ok (with_poly (in_n_and_k.product s.poly (poly_power poly w)) s) s' e)
    (times_same s (with_poly (in_n_and_k.product s.poly (poly_power poly w)) s) (λ p. of_whole (poly_value (poly_power poly w) p))
    (λ p. whole_power (of_whole (poly_value poly p)) (pos w))
    (poly_times s h (poly_power poly w)) (λ p. same (value_of_power p poly w)))
polynomial_row at poly (negsuc w) s s' varying h e = by (linear_form_of (Some poly)) refl e
  where
    by : (o : Option LinearForm) → linear_form_of (Some poly) ≡ o → (elim o as (λ _. TermSteps ProperTerm) [
      | None ↦ refuses (improper 3 at)
      | Some l ↦ limited_form l then (λ l1. with_denominator at l (suc w) s)
    ]).outcome ≡ Ok s' → IsTimes s s' (λ p. whole_power (of_whole (poly_value poly p)) (negsuc w))
    by None q f = absurd (not_refused (improper 3 at) s' f)
    by (Some l) q f =
        let g = then_gave (limited_form l) (λ l1. with_denominator at l (suc w) s) s' f in
        times_same s s' (λ p. whole_power (of_whole (form_value l p)) (negsuc w)) (λ p. whole_power (of_whole (poly_value poly p)) (negsuc w))
        (denominator_row at l w s s' (content_not_zero l (varying_not_zero poly l varying q)) h g.second)
        (λ p. same (ap (λ z. whole_power (of_whole z) (negsuc w)) (sym (linear_value p poly l q))))

-- a literal, n, k or a sum, where a polynomial is found
pub finding_row : (at : ℕ) (w : ℤ) (s s' : ProperTerm) (poly : Option Meaning) → ((q : Meaning) → poly ≡ Some q → Belongs q) → HasFractions s
    → (times_found at w s poly).outcome ≡ Ok s' → (v : Point → Fraction)
    → ((q : Meaning) → poly ≡ Some q → (p : Point) → v p ≅ whole_power (of_whole (poly_value q p)) w) → IsTimes s s' v
finding_row at w s s' None belongs h e v f = absurd (not_refused (improper 6 at) s' e)
finding_row at w s s' (Some q) belongs h e v f = by (constant_in_k (items q)) refl e
  where
    by : (c : Option ℤ) → constant_in_k (items q) ≡ c → (elim c as (λ _. TermSteps ProperTerm) [
      | Some z ↦ times_number at z w s
      | None ↦ times_polynomial at q w s
    ]).outcome ≡ Ok s' → IsTimes s s' v
    by (Some z) poly g = times_same s s' (λ p. whole_power (of_whole z) w) v (number_row at z w s s' h g)
        (λ p. same_symmetric (same_chain (f q refl p) (same (ap (λ z. whole_power (of_whole z) w) (constant_value p q z poly)))))
    by None poly g = times_same s s' (λ p. whole_power (of_whole (poly_value q p)) w) v
        (polynomial_row at q w s s' (record { belongs = belongs q refl; no_number = poly }) h g) (λ p. same_symmetric (f q refl p))
