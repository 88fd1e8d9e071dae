-- The row of a power in a walk, from what its exponent is.
use Rattle.std.proofs.Common.{◌≡◌, ℕ, Bool, true, false, Option, Some, None, [], ◌∙◌, refl}
use Rattle.std.specs.Prelude.{ℤ, ◌*ℤ◌, unsigned_abs, nat_le, if◌then◌else◌, Ok, Err}
use Rattle.ring_laws.specs.Meaning.{Meaning}
use Rattle.steps.specs.Limits.{greatest_count, capped}
use Rattle.steps.specs.Steps.{limit, gives, within_limit, ◌then◌}
use Rattle.steps.specs.TermFaults.{TermRefusal, TermSteps}
use Rattle.steps.specs.declared.limits.LimitName.TheVariants.{Exponent}
use Rattle.steps.proofs.StepLaws.{then_assoc}
use Rattle.hypergeometric.specs.ProperTerm.{ProperTerm}
use Rattle.hypergeometric.specs.PrimitiveForm.{is_zero}
use Rattle.grammar.specs.Tree.{Tree, power_of}
use Rattle.term_classes.specs.TreePolynomial.{constant_of}
use Rattle.term_classes.specs.Forms.{linear_form_of}
use Rattle.term_classes.specs.Finding.{find_polynomial}
use Rattle.term_classes.specs.Walk.{walk, walk_node}
use Rattle.term_walk.specs.WalkRows.{ExponentKind, zero_exponent, constant, varying, constant_kind, exponent_told, find_exponent_kind, exponential_left, power_left}

told_row : (at : ℕ) (base e : Tree) (p : Option Meaning) (w : ℤ) (f : ProperTerm) (c : Option ℤ)
    → ((elim c as (λ _. TermSteps ExponentKind) [
      | Some c ↦ within_limit Exponent (unsigned_abs (w *ℤ c)) (constant_kind w c)
      | None ↦ gives (varying (linear_form_of p))
    ]) then (power_left at base e w f))
    ≡ elim c as (λ _. TermSteps ProperTerm) [
      | Some c ↦ within_limit Exponent (unsigned_abs (w *ℤ c)) c then (λ c1. if is_zero c then gives f else walk base (w *ℤ c) f)
      | None ↦ exponential_left at base e (linear_form_of p) w f
    ]
told_row at base e p w f None = refl
told_row at base e p w f (Some c) = by (nat_le (unsigned_abs (w *ℤ c)) (greatest_count Exponent)) (is_zero c)
  where
    passed : TermRefusal
    passed = limit Exponent (capped (unsigned_abs (w *ℤ c)))

    counted : {A : Type 0} → Bool → A → TermSteps A
    counted b x = record { outcome = if b then Ok x else Err passed; operations = [] }

    by : (b z : Bool) → (counted b (if z then zero_exponent else constant (w *ℤ c)) then (power_left at base e w f))
        ≡ (counted b c then (λ c1. if z then gives f else walk base (w *ℤ c) f))
    by true true = refl
    by true false = refl
    by false true = refl
    by false false = refl

-- the exponent is told first, and decides what follows
pub power_row : (at : ℕ) (base e : Tree) (w : ℤ) (f : ProperTerm)
    → (find_exponent_kind e w then (power_left at base e w f)) ≡ walk_node at (power_of base e) w f
power_row at base e w f =
    then_assoc (find_polynomial e) (exponent_told w) (power_left at base e w f)
    ∙ λ i. find_polynomial e then (λ p. told_row at base e p w f (constant_of p) i)
