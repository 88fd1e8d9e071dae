-- A form without a power doesn't stand in a list.
use Rattle.std.proofs.Common.{◌≡◌, ◌≢◌, ℕ, Bool, true, false, cond, List, [], ◌∷◌, refl, sym, ◌∙◌, arith, true≢false}
use Rattle.std.specs.List.{AllByRecursion}
use Rattle.hypergeometric.specs.LinearForm.{LinearForm, Factor}
use Rattle.hypergeometric.specs.FormOrder.{IsFactor}
use Rattle.hypergeometric.specs.FactorLists.{same_form, power_of}
use Rattle.hypergeometric.proofs.Lookups.{same_form_itself}
use Rattle.hypergeometric.proofs.SharedForms.{IsAbsent}

pub absent_found : (f : LinearForm) (xs : List Factor) → AllByRecursion IsFactor xs → power_of f xs ≡ 0 → IsAbsent f xs
absent_found f [] h e = tt
absent_found f (x ∷ xs) h e = by (same_form f x.form) refl e (absent_found f xs h.1)
  where
    by : (b : Bool) → same_form f x.form ≡ b → cond b x.power (power_of f xs) ≡ 0 → (power_of f xs ≡ 0 → IsAbsent f xs) → IsAbsent f (x ∷ xs)
    by true s z rest = absurd (omega (arith, z, h.0.some))
    by false s z rest = (λ same. true≢false (sym (same_form_itself f x.form (sym same)) ∙ s), rest z)
