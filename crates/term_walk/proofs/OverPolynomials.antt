-- What was gathered over a power of a polynomial that is no number: it is a linear form, or it is refused.
use Rattle.std.proofs.Common.{◌≡◌, ◌≢◌, ℕ, zero, suc, ◌≤◌, Some, None, ap, sym, ◌∙◌, subst, arith, Result}
use Rattle.std.specs.Prelude.{pos, neg_ℤ, unsigned_abs, Ok, Err}
use Rattle.ring_laws.specs.Meaning.{Meaning}
use Rattle.steps.specs.Answers.{Answers}
use Rattle.steps.specs.Steps.{refuses, within_limit, ◌then◌}
use Rattle.steps.specs.TermFaults.{improper, TermSteps, term_cause}
use Rattle.steps.specs.declared.faults.TermFault.{TermFault}
use Rattle.steps.specs.declared.limits.LimitName.TheVariants.{Slope, Offset}
use Rattle.steps.proofs.AnswerLaws.{later_answer}
use Rattle.steps.proofs.StepLaws.{then_gave, limit_gave}
use Rattle.hypergeometric.specs.LinearForm.{LinearForm}
use Rattle.hypergeometric.specs.ProperTerm.{ProperTerm}
use Rattle.hypergeometric.specs.Forms.{form_with}
use Rattle.lin_form.specs.FactorLists as lists
use Rattle.term_classes.specs.Forms.{linear_form_of, limited_form}
use Rattle.term_classes.specs.Walk.{with_denominator, times_polynomial}
use Rattle.term_classes.proofs.VaryingForms.{IsVarying, varying_not_zero}

-- a form within the limits is given as it is
pub limited_same : (l l' : LinearForm) → (limited_form l).outcome ≡ Ok l' → l ≡ l'
limited_same l l' e =
    let g = then_gave (within_limit Slope (unsigned_abs l.n_slope) l) (λ f1.
    within_limit Slope (unsigned_abs l.k_slope) l then (λ f2. within_limit Offset (unsigned_abs l.offset) l)) l' e in
    let h = then_gave (within_limit Slope (unsigned_abs l.k_slope) l) (λ f2. within_limit Offset (unsigned_abs l.offset) l)
    l' g.second in
    (limit_gave Offset (unsigned_abs l.offset) l l' h.second).same

-- the linear form of a polynomial that is no number
pub varying_some : (p : Meaning) (l l' : LinearForm) → IsVarying p → Some l ≡ linear_form_of (Some p) → (limited_form l).outcome ≡ Ok l'
    → l' ≢ form_with (pos 0) (pos 0) (pos 0)
varying_some p l l' varying e limited z =
    let q : l ≡ form_with (pos 0) (pos 0) (pos 0) = limited_same l l' limited ∙ z in
    varying_not_zero p l varying (sym e)
    (ap (λ (m : LinearForm). m.k_slope) q, ap (λ (m : LinearForm). m.n_slope) q, ap (λ (m : LinearForm). m.offset) q)

module _ (at : ℕ) (p : Meaning) (f : ProperTerm) where
  pub not_linear : (w : ℕ) → 1 ≤ w → linear_form_of (Some p) ≡ None → (times_polynomial at p (neg_ℤ (pos w)) f).outcome ≡ Err (improper 3 at)
  not_linear zero some e = absurd (omega arith)
  not_linear (suc w) some e = ap (λ l. (elim l as (λ _. TermSteps ProperTerm) [
    | None ↦ refuses (improper 3 at)
    | Some l ↦ limited_form l then (λ l1. with_denominator at l (suc w) f)
  ]).outcome) e

  linear : (w : ℕ) (l : LinearForm) → 1 ≤ w → linear_form_of (Some p) ≡ Some l
      → times_polynomial at p (neg_ℤ (pos w)) f ≡ (limited_form l then (λ l1. with_denominator at l w f))
  linear zero l some e = absurd (omega arith)
  linear (suc w) l some e = ap (λ l. elim l as (λ _. TermSteps ProperTerm) [
    | None ↦ refuses (improper 3 at)
    | Some l ↦ limited_form l then (λ l1. with_denominator at l (suc w) f)
  ]) e

  -- a form that is within the limits
  pub linear_answer : {T : Type 0} (view : T → ProperTerm) (result : Result T TermFault) (w : ℕ) (l l' : LinearForm) → 1 ≤ w
      → linear_form_of (Some p) ≡ Some l → (limited_form l).outcome ≡ Ok l' → Answers term_cause view (with_denominator at l' w f) result
      → Answers term_cause view (times_polynomial at p (neg_ℤ (pos w)) f) result
  linear_answer view result w l l' some e limited h =
      subst (λ s. Answers term_cause view s result) (sym (linear w l some e))
      (later_answer term_cause view (limited_form l) (λ l1. with_denominator at l w f) l' result limited
      (subst (λ m. Answers term_cause view (with_denominator at m w f) result) (sym (limited_same l l' limited)) h))
