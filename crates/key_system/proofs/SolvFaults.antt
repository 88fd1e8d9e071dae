-- What the faults of solving say.
use Rattle.std.specs.Prelude.{◌≡◌, ℕ, ◌≤◌, refl, IfOk, IfErr, Result, Ok, Err, Option, List}
use Rattle.std.proofs.Common.{sym, ◌∙◌, subst, IsErrAnd}
use Rattle.ring_laws.specs.Meaning.{Meaning}
use Rattle.ring_laws.specs.Algebra.{Ops, Algebra}
use Rattle.ring_laws.specs.Answer.{OnFault}
use Rattle.ring_laws.specs.declared.faults.RingFault.{RingFault}
use Rattle.ring_laws.specs.declared.faults.RingFault.TheVariants as ring
use Rattle.steps.specs.StepFaults.{step_fault_of}
use Rattle.steps.specs.declared.faults.StepFault.{StepFault}
use Rattle.steps.specs.declared.faults.StepFault.TheVariants.{Limit, TooLarge, Memory}
use Rattle.steps.specs.declared.limits.LimitName.TheVariants.{Columns}
use Rattle.steps.proofs.StepLaws.{limit_gave}
use Rattle.key_laws.specs.DegreeBounds.{IsDegreeBound}
use Rattle.key_laws.proofs.OneBound.{one_bound}
use Rattle.key_system.specs.Answers.{AreFewColumns, OnStepFault, GivesBound}

pub few_are : (columns : ℕ) → AreFewColumns columns → columns ≤ 48
few_are columns h = (limit_gave {R = ⊥} Columns columns (tt {0}) (tt {0}) h).few

-- a fault of the ring owes what the steps owe
pub ring_fault : (columns : ℕ) (P InBounds : Type 0) (fault : RingFault) → (InBounds → P) → OnFault (¬ P) fault
    → OnStepFault columns InBounds (step_fault_of fault)
ring_fault columns P InBounds ring.TooLarge f h = λ k. h (f k)
ring_fault columns P InBounds ring.Memory f h = tt

-- a fault of the rows comes within the limit of the columns, or is that limit
pub rows_fault : (columns : ℕ) (P InBounds : Type 0) (fault : StepFault) → (columns ≤ 48 → InBounds → P) →
    (fault ≡ TooLarge → AreFewColumns columns)
    → OnStepFault columns P fault → OnStepFault columns InBounds fault
rows_fault columns P InBounds (Limit name counted) f few h = h
rows_fault columns P InBounds TooLarge f few h = λ k. h (f (few_are columns (few refl)) k)
rows_fault columns P InBounds Memory f few h = tt

-- there is one bound
pub at_bound : (o : Ops Meaning) (q b : Meaning) (sides : List Meaning) (P : Option ℕ → Type 0) (bound : Option ℕ)
    → IsDegreeBound o q b sides bound → P bound → (other : Option ℕ) → IsDegreeBound o q b sides other → P other
at_bound o q b sides P bound h p other k = subst P (one_bound o q b sides bound other h k) p

-- what the exit of a `?` returns
pub returned : {R : Type 0} (P : StepFault → Type 0) (r : Result R StepFault) (fault : StepFault) → IsErrAnd r (λ e. e ≡ fault) → P fault → IfErr
    r P
returned P (Ok v) fault e h = tt
returned P (Err d) fault e h = subst P (sym e) h

-- what came from an answer of the ring
pub kept_ok : {T : Type 0} (s : Result T RingFault) (r : Result T StepFault) (x : T) → IfOk s (λ y. r ≡ Ok y)
    → IfErr s (λ f. r ≡ Err (step_fault_of f)) → r ≡ Ok x → s ≡ Ok x
kept_ok {T} (Ok y) r x h k e = let same : ◌≡◌ {A = Result T StepFault} (Ok y) (Ok x) = sym h ∙ e in cc
kept_ok {T} (Err f) r x h k e = let none : ◌≡◌ {A = Result T StepFault} (Err (step_fault_of f)) (Ok x) = sym k ∙ e in cc

pub record Turned {T : Type 0} (s : Result T RingFault) (d : StepFault) : Type 0 where
  pub cause : RingFault
  pub was : s ≡ Err cause
  pub post : d ≡ step_fault_of cause

pub turned_err : {T : Type 0} (s : Result T RingFault) (r : Result T StepFault) (d : StepFault) → IfOk s (λ y. r ≡ Ok y)
    → IfErr s (λ f. r ≡ Err (step_fault_of f)) → r ≡ Err d → Turned s d
turned_err {T} (Ok y) r d h k e = let none : ◌≡◌ {A = Result T StepFault} (Ok y) (Err d) = sym h ∙ e in cc
turned_err {T} (Err f) r d h k e = record {
  cause = f;
  was = refl;
  post = let same : ◌≡◌ {A = Result T StepFault} (Err d) (Err (step_fault_of f)) = sym e ∙ k in cc;
}

-- the bound that was found
pub bound_of : (a : Algebra) (q b : Meaning) (sides : List Meaning) (s : Result (Option ℕ) RingFault) (bound : Option ℕ) → s ≡ Ok bound
    → GivesBound a q b sides s → IsDegreeBound a.ops q b sides bound
bound_of a q b sides s bound e h = subst (GivesBound a q b sides) e h
