-- The entry of one pivot row, from what the calls answer.
use Rattle.std.proofs.Common.{◌≡◌, ℕ, List, map, length, sym, ap, ◌∙◌, subst, refl, Result, Ok, Err, Vec, IsErrAnd}
use Rattle.std.proofs.Math.ListN.{set}
use Rattle.std.proofs.lemmas.List.{length-map, map-set}
use Rattle.ring_laws.specs.Meaning.{Meaning}
use Rattle.ring_laws.specs.Algebra.{Algebra}
use Rattle.ring_laws.specs.Answer.{OnFault, fault_weaker}
use Rattle.ring_laws.specs.declared.faults.RingFault.{RingFault}
use Rattle.kernel_laws.specs.Rows.{entry_at}
use Rattle.kernel_laws.specs.Reduction.{Reduction}
use Rattle.kernel_laws.specs.BackSubstitution.{times_vector, TimesInBounds, Absorbed as IsAbsorbed, quotient, multiple, AbsorbingInBounds, BackStep, BackStepInBounds}
use Rattle.reducing.specs.RowAnswer.{GivesRow}

module _ {T : Type 0} (meaning : T → Meaning) (a : Algebra) (r : Reduction) (DivisionInBounds : Meaning → Meaning → Type 0) (column : ℕ)
    (row vector : List T) where
  abbrev rs : List Meaning
  rs = map meaning row

  abbrev vs : List Meaning
  vs = map meaning vector

  abbrev Made : List Meaning → Type 0
  Made new = BackStep a r (length vector) column rs vs new

  abbrev InBounds : Type 0
  InBounds = BackStepInBounds DivisionInBounds a r (length vector) column rs vs

  pub fault_step : {Z : Type 0} (out : Result (Vec T Z) RingFault) (fault : RingFault) → IsErrAnd out (λ e. e ≡ fault)
      → OnFault (¬ InBounds) fault → GivesRow meaning Made InBounds out
  fault_step (Ok v) fault e h = absurd e
  fault_step (Err d) fault e h = subst (OnFault (¬ InBounds)) (sym e) h

  -- the number that is to be absorbed
  abbrev number : Meaning
  number = a.ops.neg (times_vector a (length vector) rs vs)

  pub times_not : (lent : List T) (fault : RingFault) → lent ≡ vector
      → OnFault (¬ (TimesInBounds a (length lent) rs (map meaning lent))) fault → OnFault (¬ InBounds) fault
  times_not lent fault e h = fault_weaker fault (λ n k. n (subst (λ v. TimesInBounds a (length v) rs (map meaning v)) (sym e) k.times)) h

  pub split_not : (x : Meaning) (fault : RingFault) → x ≡ entry_at a.ops rs column → OnFault (¬ (r.SplitInBounds x)) fault → OnFault (¬ InBounds) fault
  split_not x fault e h = fault_weaker fault (λ n k. n (subst r.SplitInBounds (sym e) k.splitting)) h

  pub number_is : (sum m : Meaning) (lent : List T) → lent ≡ vector → sum ≡ times_vector a (length lent) rs (map meaning lent) → m ≡ a.ops.neg sum
      → m ≡ number
  number_is sum m lent e f g = g ∙ ap a.ops.neg (f ∙ ap (λ v. times_vector a (length v) rs (map meaning v)) e)

  -- ---- the parts of the pivot
  module _ (plain core : Meaning) (s : r.Split (entry_at a.ops rs column) plain core) where
    pub core_not : (m : Meaning) (fault : RingFault) → m ≡ number → OnFault (¬ (AbsorbingInBounds DivisionInBounds a core m vs)) fault
        → OnFault (¬ InBounds) fault
    core_not m fault e h =
        fault_weaker fault (λ n k. n (subst (λ t. AbsorbingInBounds DivisionInBounds a core t vs) (sym e) (k.core plain core s))) h

    pub plain_not : (m rest : Meaning) (middle : List Meaning) (fault : RingFault) → m ≡ number → IsAbsorbed a core m vs rest middle
        → OnFault (¬ (AbsorbingInBounds DivisionInBounds a plain rest middle)) fault → OnFault (¬ InBounds) fault
    plain_not m rest middle fault e q h =
        fault_weaker fault (λ n k. n (k.plain plain core rest middle s (subst (λ t. IsAbsorbed a core t vs rest middle) e q))) h

    pub step_made : {Z : Type 0} (m rest entry : Meaning) (middle last placed : List Meaning) (out : Result (Vec T Z) RingFault) → m ≡ number
        → IsAbsorbed a core m vs rest middle → IsAbsorbed a plain rest middle entry last → placed ≡ set last column entry
        → GivesRow meaning (r.Reduced placed) (r.ReductionInBounds placed) out → GivesRow meaning Made InBounds out
    step_made m rest entry middle last placed (Ok v) e p q f h = record {
      plain = plain;
      core = core;
      split = s;
      rest = rest;
      middle = middle;
      by_core = subst (λ t. IsAbsorbed a core t vs rest middle) e p;
      entry = entry;
      last = last;
      by_plain = q;
      reduced = subst (λ t. r.Reduced t (map meaning v.items)) f h;
    }
    step_made m rest entry middle last placed (Err fault) e p q f h =
        fault_weaker fault (λ n k. n (subst r.ReductionInBounds (sym f)
        (k.reduction plain core rest entry middle last s (subst (λ t. IsAbsorbed a core t vs rest middle) e p) q))) h

-- absorbing keeps the length
pub absorbed_length : (a : Algebra) (t s rest : Meaning) (old new : List Meaning) → IsAbsorbed a t s old rest new → length new ≡ length old
absorbed_length a t s _ old _ (quotient q h) = refl
absorbed_length a t s _ old _ (multiple m) = length-map old (a.ops.product t)

pub placed_is : {T : Type 0} (meaning : T → Meaning) (out new : List T) (column : ℕ) (x : T) → new ≡ set out column x
    → map meaning new ≡ set (map meaning out) column (meaning x)
placed_is meaning out new column x e = ap (map meaning) e ∙ map-set meaning out column x
