-- What was sought of a node is a number or another polynomial.
use Rattle.std.proofs.Common.{◌≡◌, ℕ, Option, Some, None, sym, subst, Result}
use Rattle.std.specs.Prelude.{ℤ}
use Rattle.ring_laws.specs.Meaning.{Meaning, items}
use Rattle.poly_laws.specs.TwoVariables.{constant_in_k}
use Rattle.steps.specs.Answers.{Answers}
use Rattle.steps.specs.Found.{found}
use Rattle.steps.specs.TermFaults.{TermSteps, term_cause}
use Rattle.steps.specs.declared.faults.TermFault.{TermFault}
use Rattle.hypergeometric.specs.ProperTerm.{ProperTerm}
use Rattle.term_classes.specs.Walk.{times_number, times_polynomial, times_found}

module _ {T R : Type 0} (meaning : T → Meaning) (view : R → ProperTerm) (result : Result R TermFault) (at : ℕ) (w : ℤ) (f : ProperTerm)
    (o : Option T) (t : T) (some : o ≡ Some t) where
  by_constant : (z : Option ℤ) → z ≡ constant_in_k (items (meaning t)) → Answers term_cause view (elim z as (λ _. TermSteps ProperTerm) [
    | Some z ↦ times_number at z w f
    | None ↦ times_polynomial at (meaning t) w f
  ]) result → Answers term_cause view (times_found at w f (found meaning o)) result
  by_constant z e h =
      subst (λ o. Answers term_cause view (times_found at w f (found meaning o)) result) (sym some)
      (subst (λ z. Answers term_cause view (elim z as (λ _. TermSteps ProperTerm) [
        | Some z ↦ times_number at z w f
        | None ↦ times_polynomial at (meaning t) w f
      ]) result) e h)

  pub finding_number : (z : ℤ) → Some z ≡ constant_in_k (items (meaning t)) → Answers term_cause view (times_number at z w f) result
      → Answers term_cause view (times_found at w f (found meaning o)) result
  finding_number z e h = by_constant (Some z) e h

  pub finding_polynomial : None ≡ constant_in_k (items (meaning t)) → Answers term_cause view (times_polynomial at (meaning t) w f) result
      → Answers term_cause view (times_found at w f (found meaning o)) result
  finding_polynomial e h = by_constant None e h
