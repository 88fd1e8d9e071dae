-- What the calls on a column answer.
use Rattle.std.specs.Prelude.{◌≡◌, ℕ, suc, ◌<◌, List, ◌∷◌, ◌++◌, map, length, IsTrue, Result, Ok, Err, Option, Some, None, All}
use Rattle.std.specs.List.{AllZip}
use Rattle.ring_laws.specs.Meaning.{Meaning}
use Rattle.ring_laws.specs.Algebra.{Algebra}
use Rattle.ring_laws.specs.Answer.{OnFault}
use Rattle.ring_laws.specs.declared.faults.RingFault.{RingFault}
use Rattle.kernel_laws.specs.Rows.{entry_at}
use Rattle.kernel_laws.specs.Pivots.{ArePivotColumns}
use Rattle.kernel_laws.specs.Reduction.{Reduction, IsCoreBy}
use Rattle.kernel_laws.specs.Elimination.{Cleared, ClearingInBounds, entry, ChosenOf, Chosen, IsFree, Ran}
use Rattle.kernel_laws.specs.Answers.{IsFirstFree}
use Rattle.fraction_free.specs.declared.rounds.PivotRow.{PivotRow}
use Rattle.fraction_free.specs.declared.rounds.Eliminated.{Eliminated}
use Rattle.fraction_free.specs.declared.rounds.Round.{Round}
use Rattle.fraction_free.specs.RowAnswers.{rows_meant}

-- the best of the first n rows, or none where each of them has a zero in the column
abbrev pub Best : (a : Algebra) → Reduction → ℕ → List (List Meaning) → ℕ → Option ℕ → Type 0
Best a r column rows n (Some place) = ChosenOf a r column rows n place
Best a r column rows n None = (k : ℕ) → k < n → IsTrue (a.ops.is_nought (entry a rows k column))

-- the place of the pivot row, or none where the column is free
abbrev pub Picks : (a : Algebra) → Reduction → ℕ → List (List Meaning) → Option ℕ → Type 0
Picks a r column rows (Some place) = Chosen a r column rows place
Picks a r column rows None = IsFree a column rows

-- the row at the place is taken out, the others are cleared, and the core is that of its entry
pub record Rounds (a : Algebra) (r : Reduction) (t : Meaning) (column : ℕ) (rows : List (List Meaning)) (place : ℕ)
    (news : List (List Meaning)) (pivot : List Meaning) (core : Meaning) : Type 0 where
  pub before : List (List Meaning)
  pub after : List (List Meaning)
  pub rows_are : rows ≡ before ++ pivot ∷ after
  pub place_is : place ≡ length before
  pub cleared : AllZip (Cleared a r t column pivot) (before ++ after) news
  pub plain : Meaning
  pub split : r.Split (entry_at a.ops pivot column) plain core

-- each step of that is in bounds
abbrev pub RoundInBounds : (Meaning → Meaning → Type 0) → (a : Algebra) → Reduction → Meaning → ℕ → List (List Meaning) → ℕ → Type 0
RoundInBounds InBounds a r t column rows place =
    (before after : List (List Meaning)) (pivot : List Meaning) → rows ≡ before ++ pivot ∷ after → place ≡ length before
    → All (ClearingInBounds InBounds a r t column pivot) (before ++ after) × r.CoreInBounds (entry_at a.ops pivot column)

-- the rows after the round, its pivot row and core; `TooLarge` only where a step isn't in bounds
abbrev pub GivesRound : {T : Type 0} → (T → Meaning) → (a : Algebra) → Reduction → Meaning → ℕ → List (List Meaning) → ℕ → Type 0
    → Result (Round T) RingFault → Type 0
GivesRound meaning a r t column rows place InBounds (Ok round) =
    Rounds a r t column rows place (rows_meant meaning round.open.items) (map meaning round.pivot.items) (meaning round.core)
GivesRound meaning a r t column rows place InBounds (Err fault) = OnFault (¬ InBounds) fault

-- pivot rows as lists of meanings, each with its column
abbrev pub pivots_meant : {T : Type 0} → (T → Meaning) → List (PivotRow T) → List (ℕ × List Meaning)
pivots_meant meaning pivots = map (λ p. (p.column, map meaning p.row.items)) pivots

-- the core that a pivot row has is one of its entry at its column
abbrev pub HasCore : {T : Type 0} → (T → Meaning) → (a : Algebra) → Reduction → PivotRow T → Type 0
HasCore meaning a r p = IsCoreBy r (entry_at a.ops (map meaning p.row.items) p.column) (meaning p.core)

-- elimination went up to the first free column from the first on, or through all columns, of which none is free from the first on
abbrev pub RanTo : (a : Algebra) → Reduction → (columns first : ℕ) → List (List Meaning) → List (ℕ × List Meaning) → Option ℕ → Type 0
RanTo a r columns first rows pivots (Some free) = Ran a r (suc free) rows pivots × IsFirstFree columns first pivots free
RanTo a r columns first rows pivots None = Ran a r columns rows pivots × ArePivotColumns first columns pivots

-- pivot rows and a free column of which P holds; `TooLarge` only where a step is not in bounds
abbrev pub GivesPivots : {T : Type 0} → (T → Meaning) → (List (ℕ × List Meaning) → Option ℕ → Type 0) → Type 0
    → Result (Eliminated T) RingFault → Type 0
GivesPivots meaning P InBounds (Ok found) = P (pivots_meant meaning found.pivots.items) found.free
GivesPivots meaning P InBounds (Err fault) = OnFault (¬ InBounds) fault
