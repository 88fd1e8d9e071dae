-- Where an operation of the pieces isn't in bounds, the steps to them are too large.
use Rattle.std.proofs.Common.{◌≡◌, ℕ, zero, suc, ◌+◌, ◌<◌, List, [], ◌∷◌, ◌++◌, map, refl, ap, sym, ◌∙◌, arith, subst, inl, inr, ◌⊎◌, ⊎_elim}
use Rattle.std.specs.Prelude.{Ok}
use Rattle.ring_laws.specs.Answer.{OnFault, fault_weaker}
use Rattle.ring_laws.specs.declared.faults.RingFault.{RingFault}
use Rattle.steps.specs.Operations.{Counterpart, HasTooLarge}
use Rattle.steps.specs.Answers.{HasCause}
use Rattle.steps.specs.StepFaults.{step_cause, step_fault_of}
use Rattle.steps.proofs.AnswerLaws.{engine_cause, later_cause}
use Rattle.hypergeometric.specs.ProperTerm.{ProperTerm}
use Rattle.gosper_form.specs.PieceSteps.{SomeTooLarge, operation_of, each_from, all_of, each_within, degrees, piece_sizes, pieces_steps}

pub left_too_large : (xs ys : List Counterpart) → SomeTooLarge xs → SomeTooLarge (xs ++ ys)
left_too_large [] ys h = absurd h
left_too_large (x ∷ xs) ys (inl h) = inl h
left_too_large (x ∷ xs) ys (inr h) = inr (left_too_large xs ys h)

pub right_too_large : (xs ys : List Counterpart) → SomeTooLarge ys → SomeTooLarge (xs ++ ys)
right_too_large [] ys h = h
right_too_large (x ∷ xs) ys h = inr (right_too_large xs ys h)

-- one of several lists
pub one_too_large : (g : ℕ → List Counterpart) (i j n : ℕ) → j < n → SomeTooLarge (g (i + j)) → SomeTooLarge (all_of (each_from g i n))
one_too_large g i j zero h out = absurd (omega (arith, h))
one_too_large g i zero (suc n) h out =
    left_too_large (g i) (all_of (each_from g (suc i) n)) (subst (λ m. SomeTooLarge (g m)) (same i) out)
  where
    same : (i : ℕ) → i + 0 ≡ i
    same i = omega arith
one_too_large g i (suc j) (suc n) h out =
    right_too_large (g i) (all_of (each_from g (suc i) n))
    (one_too_large g (suc i) j n (omega (arith, h)) (subst (λ m. SomeTooLarge (g m)) (same i j) out))
  where
    same : (i j : ℕ) → i + suc j ≡ suc i + j
    same i j = omega arith

operation_too_large : (xs : List Counterpart) → SomeTooLarge xs → HasTooLarge (map operation_of xs) (tt {0})
operation_too_large [] h = absurd h
operation_too_large (x ∷ xs) (inl h) = (0, operation_of x, omega arith, refl, (refl, h))
operation_too_large (x ∷ xs) (inr h) =
    let rest = operation_too_large xs h in
    (suc rest.0, rest.1, omega (arith, rest.2), rest.3, rest.4)

-- a fault of what is done once all degrees are within the limit
pub pieces_fault : (f : ProperTerm) (order : ℕ) (fault : RingFault) → (each_within (degrees f order)).outcome ≡ Ok (tt {0})
    → OnFault (SomeTooLarge (piece_sizes f order)) fault → HasCause (pieces_steps f order) (step_cause (step_fault_of fault))
pieces_fault f order fault e h =
    later_cause (each_within (degrees f order)) (λ _. record { outcome = Ok (tt {0}); operations = map operation_of (piece_sizes f order) }) (tt {0})
    (step_cause (step_fault_of fault)) e
    (engine_cause (record { outcome = Ok (tt {0}); operations = map operation_of (piece_sizes f order) }) (SomeTooLarge (piece_sizes f order)) fault h
    (operation_too_large (piece_sizes f order)))
