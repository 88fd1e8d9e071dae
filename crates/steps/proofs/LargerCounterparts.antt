-- Two operations at a place of which one has the larger counterpart.
use Rattle.std.proofs.Common.{◌≡◌, ℕ, zero, suc, ◌<◌, [], ◌∷◌, refl, sym, subst, arith, get_or}
use Rattle.steps.specs.Operations.{Counterpart, Operation, IsInBounds}
use Rattle.steps.specs.Steps.{makes}
use Rattle.steps.specs.Answers.{Cause, refused, too_large, no_memory, HasCause}
use Rattle.steps.proofs.StepLaws.{not_refused}

-- where the counterpart of an operation is at least that of another that isn't in bounds, it isn't
pub larger_cause : {P R A B : Type 0} (at : P) (c d : Counterpart) (a : A) (b : B) (x : Cause P R) → (IsInBounds d → IsInBounds c)
    → HasCause (makes at c a) x → HasCause (makes at d b) x
larger_cause at c d a b (refused r) f h = absurd (not_refused r a (sym h))
larger_cause {P} at c d a b (too_large place) f h =
    let only = first h.0 h.1 h.2 h.3 h.4 in
    (0, record { place = at; counterpart = d }, omega arith, refl, (only.0, λ small. only.1 (f small)))
  where
    made : Operation P
    made = record { place = at; counterpart = c }

    first : (k : ℕ) (o : Operation P) → k < 1 → get_or (made ∷ []) k o ≡ o → (o.place ≡ place) × ¬ IsInBounds o.counterpart
        → (at ≡ place) × ¬ IsInBounds c
    first zero o below e p = subst (λ (o : Operation P). (o.place ≡ place) × ¬ IsInBounds o.counterpart) (sym e) p
    first (suc k) o below e p = absurd (omega (arith, below))
larger_cause at c d a b no_memory f h = tt
