-- What steps that follow one another say of an answer: the cause of a fault, and what comes out.
use Rattle.std.proofs.Common.{◌≡◌, ℕ, [], ◌∷◌, Option, Some, ◌∙◌, refl, sym, subst, arith, IsErrAnd}
use Rattle.std.specs.Prelude.{Result, Ok, Err}
use Rattle.ring_laws.specs.Answer.{OnFault}
use Rattle.ring_laws.specs.declared.faults.RingFault.{RingFault}
use Rattle.ring_laws.specs.declared.faults.RingFault.TheVariants as ring
use Rattle.steps.specs.Operations.{Counterpart, IsInBounds, HasTooLarge}
use Rattle.steps.specs.Steps.{Steps, Refusal, IsTooLargeAt, makes, ◌then◌}
use Rattle.steps.specs.Found.{found, made_of}
use Rattle.steps.specs.Answers.{Cause, refused, too_large, no_memory, HasCause, Answers}
use Rattle.steps.specs.TermFaults.{TermSteps, term_cause, fault_of}
use Rattle.steps.specs.StepFaults.{EngineSteps, step_cause, step_fault_of}
use Rattle.steps.proofs.StepLaws.{then_outcome, then_refused, too_large_first, too_large_later}

-- a cause in the first steps is one in all
pub first_cause : {P R A B : Type 0} (s : Steps P R A) (f : A → Steps P R B) (x : Cause P R) → HasCause s x → HasCause (s then f) x
first_cause s f (refused r) h = then_refused s f r h
first_cause s f (too_large at) h = too_large_first s f at h
first_cause s f no_memory h = tt

-- and so is one in what follows from what the first steps gave
pub later_cause : {P R A B : Type 0} (s : Steps P R A) (f : A → Steps P R B) (y : A) (x : Cause P R) → s.outcome ≡ Ok y → HasCause (f y) x
    → HasCause (s then f) x
later_cause s f y (refused r) e h = then_outcome s f y e ∙ h
later_cause s f y (too_large at) e h = too_large_later s f y at e h
later_cause s f y no_memory e h = tt

-- what follows from what the first steps gave decides what comes out
pub later_outcome : {P R A B : Type 0} (s : Steps P R A) (f : A → Steps P R B) (y : A) (o : Result B (Refusal R)) → s.outcome ≡ Ok y
    → (f y).outcome ≡ o → (s then f).outcome ≡ o
later_outcome s f y o e h = then_outcome s f y e ∙ h

-- an answer of what follows is one of all
pub later_answer : {P R F T A B : Type 0} (says : F → Cause P R) (view : T → B) (s : Steps P R A) (f : A → Steps P R B) (y : A)
    (result : Result T F) → s.outcome ≡ Ok y → Answers says view (f y) result → Answers says view (s then f) result
later_answer says view s f y (Ok t) e h = then_outcome s f y e ∙ h
later_answer says view s f y (Err x) e h = later_cause s f y (says x) e h

-- a fault that is passed on
pub fault_answer : {P R F T A : Type 0} (says : F → Cause P R) (view : T → A) (s : Steps P R A) (result : Result T F) (x : F)
    → IsErrAnd result (λ y. y ≡ x) → HasCause s (says x) → Answers says view s result
fault_answer says view s (Ok t) x e h = absurd e
fault_answer says view s (Err y) x e h = subst (λ z. HasCause s (says z)) (sym e) h

-- one operation that isn't in bounds
pub made_too_large : {P : Type 0} (at : P) (counterpart : Counterpart) → ¬ IsInBounds counterpart
    → HasTooLarge (record { place = at; counterpart = counterpart } ∷ []) at
made_too_large at counterpart h = (0, record { place = at; counterpart = counterpart }, omega arith, refl, (refl, h))

-- what is made by an operation at the place of what was found
pub made_answer : {P R F T U A B : Type 0} (says : F → Cause P R) (result : Result (Option T) F) (x : Option U) (u : U) (a : A) (given : U → A)
    (view : T → B) (at : P) (counterpart : A → Counterpart) (value : A → B) → x ≡ Some u → given u ≡ a
    → Answers says (found view) (makes at (counterpart a) (Some (value a))) result
    → Answers says (found view) (made_of at counterpart value (found given x)) result
made_answer says result x u a given view at counterpart value e h k =
    subst (λ t. Answers says (found view) (made_of at counterpart value (found given t)) result) (sym e)
    (subst (λ t. Answers says (found view) (makes at (counterpart t) (Some (value t))) result) (sym h) k)

-- a fault of a ring's call, which shows an operation of the node that isn't in bounds
pub ring_cause : {A : Type 0} (s : TermSteps A) (at : ℕ) (Q : Type 0) (x : RingFault) → OnFault Q x → (Q → IsTooLargeAt s at)
    → HasCause s (term_cause (fault_of at x))
ring_cause s at Q ring.TooLarge h f = f h
ring_cause s at Q ring.Memory h f = tt

-- the like for an engine
pub engine_cause : {A : Type 0} (s : EngineSteps A) (Q : Type 0) (x : RingFault) → OnFault Q x → (Q → IsTooLargeAt s tt)
    → HasCause s (step_cause (step_fault_of x))
engine_cause s Q ring.TooLarge h f = f h
engine_cause s Q ring.Memory h f = tt
