-- The steps that multiply the scale and the bases: what comes out, and the cause of a fault.
use Rattle.std.proofs.Common.{◌≡◌, ◌≢◌, ℕ, Bool, false, refl, ap, sym, ◌∙◌, subst}
use Rattle.std.proofs.lemmas.Bool.{ne_eqb}
use Rattle.std.specs.Prelude.{ℤ, pos, ◌*ℤ◌, neg_ℤ, unsigned_abs, int_lt, if◌then◌else◌, Ok, Err}
use Rattle.ring_laws.specs.WholeDomain.{abs_nought}
use Rattle.steps.specs.Answers.{HasCause}
use Rattle.steps.specs.Steps.{gives, refuses, ◌then◌}
use Rattle.steps.specs.TermFaults.{improper, TermSteps, term_cause}
use Rattle.steps.specs.declared.faults.TermFault.{TermFault}
use Rattle.steps.proofs.AnswerLaws.{first_cause, later_cause, later_outcome}
use Rattle.hypergeometric.specs.Fraction.{Fraction, of_whole}
use Rattle.hypergeometric.specs.LinearForm.{LinearForm}
use Rattle.hypergeometric.specs.ProperTerm.{ProperTerm}
use Rattle.hypergeometric.specs.FactorLists as lists
use Rattle.hypergeometric.specs.PrimitiveForm.{is_zero, content_of_form, primitive_form}
use Rattle.term_classes.specs.Walk.{with_scale, with_n_base, with_k_base, with_lists, times_power, few_factors, with_denominator, times_number, times_exponential}

-- a number other than 0 isn't refused
not_zero : (z : ℤ) → z ≢ pos 0 → is_zero z ≡ false
not_zero z n = ne_eqb (unsigned_abs z) 0 (λ e. n (abs_nought z e))

module _ (at : ℕ) (z w : ℤ) (f : ProperTerm) where
  -- 0 is refused, with the reason for the sign of the power
  pub zero_refused : (reason : ℕ) (negative : Bool) → z ≡ pos 0 → int_lt w (pos 0) ≡ negative → reason ≡ (if negative then 3 else 7)
      → (times_number at z w f).outcome ≡ Err (improper reason at)
  zero_refused reason negative zero sign given =
      ap (λ z. (times_number at z w f).outcome) zero ∙ ap (λ r. Err (improper r at)) (ap (λ b. if b then 3 else 7) sign ∙ sym given)

  number_steps : z ≢ pos 0 → times_number at z w f ≡ (times_power at f.scale (of_whole z) w then (λ s. gives (with_scale s f)))
  number_steps n = ap (λ b. if b then refuses (improper (if int_lt w (pos 0) then 3 else 7) at)
      else (times_power at f.scale (of_whole z) w then (λ s. gives (with_scale s f)))) (not_zero z n)

  pub number_given : (s : Fraction) → z ≢ pos 0 → (times_power at f.scale (of_whole z) w).outcome ≡ Ok s
      → (times_number at z w f).outcome ≡ Ok (with_scale s f)
  number_given s n e =
      ap (λ (t : TermSteps ProperTerm). t.outcome) (number_steps n)
      ∙ later_outcome (times_power at f.scale (of_whole z) w) (λ s. gives (with_scale s f)) s (Ok (with_scale s f)) e refl

  pub number_fault : (x : TermFault) → z ≢ pos 0 → HasCause (times_power at f.scale (of_whole z) w) (term_cause x)
      → HasCause (times_number at z w f) (term_cause x)
  number_fault x n h =
      subst (λ t. HasCause t (term_cause x)) (sym (number_steps n)) (first_cause (times_power at f.scale (of_whole z) w)
      (λ s. gives (with_scale s f)) (term_cause x) h)

-- one over a form
module _ (at : ℕ) (l : LinearForm) (w : ℕ) (f : ProperTerm) where
  abbrev few : TermSteps ProperTerm
  few = few_factors (with_lists f.up f.down (lists.with_factor (primitive_form l) w f.over) f.guard f)

  abbrev over_content : ProperTerm → TermSteps Fraction
  over_content g = times_power at g.scale (of_whole (content_of_form l)) (neg_ℤ (pos w))

  pub denominator_given : (g : ProperTerm) (s : Fraction) → few.outcome ≡ Ok g → (over_content g).outcome ≡ Ok s
      → (with_denominator at l w f).outcome ≡ Ok (with_scale s g)
  denominator_given g s e h =
      later_outcome few (λ g. over_content g then (λ s. gives (with_scale s g))) g (Ok (with_scale s g)) e
      (later_outcome (over_content g) (λ s. gives (with_scale s g)) s (Ok (with_scale s g)) h refl)

  pub more_fault : (x : TermFault) → HasCause few (term_cause x) → HasCause (with_denominator at l w f) (term_cause x)
  more_fault x h = first_cause few (λ g. over_content g then (λ s. gives (with_scale s g))) (term_cause x) h

  pub content_fault : (g : ProperTerm) (x : TermFault) → few.outcome ≡ Ok g → HasCause (over_content g) (term_cause x)
      → HasCause (with_denominator at l w f) (term_cause x)
  content_fault g x e h =
      later_cause few (λ g. over_content g then (λ s. gives (with_scale s g))) g (term_cause x) e
      (first_cause (over_content g) (λ s. gives (with_scale s g)) (term_cause x) h)

-- a base to the power of a form
module _ (at : ℕ) (base : Fraction) (e : LinearForm) (w : ℤ) (f : ProperTerm) where
  abbrev of_n : TermSteps Fraction
  of_n = times_power at f.n_base base (w *ℤ e.n_slope)

  abbrev of_k : TermSteps Fraction
  of_k = times_power at f.k_base base (w *ℤ e.k_slope)

  abbrev of_scale : TermSteps Fraction
  of_scale = times_power at f.scale base (w *ℤ e.offset)

  abbrev last : Fraction → Fraction → TermSteps ProperTerm
  last b c = of_scale then (λ s. gives (with_n_base b (with_k_base c (with_scale s f))))

  pub exponential_given : (b c s : Fraction) → of_n.outcome ≡ Ok b → of_k.outcome ≡ Ok c → of_scale.outcome ≡ Ok s
      → (times_exponential at base e w f).outcome ≡ Ok (with_n_base b (with_k_base c (with_scale s f)))
  exponential_given b c s p q r =
      later_outcome of_n (λ b. of_k then (last b)) b (Ok (with_n_base b (with_k_base c (with_scale s f)))) p
      (later_outcome of_k (last b) c (Ok (with_n_base b (with_k_base c (with_scale s f)))) q
      (later_outcome of_scale (λ s. gives (with_n_base b (with_k_base c (with_scale s f)))) s
      (Ok (with_n_base b (with_k_base c (with_scale s f)))) r refl))

  pub n_fault : (x : TermFault) → HasCause of_n (term_cause x) → HasCause (times_exponential at base e w f) (term_cause x)
  n_fault x h = first_cause of_n (λ b. of_k then (last b)) (term_cause x) h

  pub k_fault : (b : Fraction) (x : TermFault) → of_n.outcome ≡ Ok b → HasCause of_k (term_cause x)
      → HasCause (times_exponential at base e w f) (term_cause x)
  k_fault b x p h = later_cause of_n (λ b. of_k then (last b)) b (term_cause x) p (first_cause of_k (last b) (term_cause x) h)

  pub scale_fault : (b c : Fraction) (x : TermFault) → of_n.outcome ≡ Ok b → of_k.outcome ≡ Ok c → HasCause of_scale (term_cause x)
      → HasCause (times_exponential at base e w f) (term_cause x)
  scale_fault b c x p q h =
      later_cause of_n (λ b. of_k then (last b)) b (term_cause x) p
      (later_cause of_k (last b) c (term_cause x) q (first_cause of_scale (λ s. gives (with_n_base b (with_k_base c (with_scale s f))))
      (term_cause x) h))
