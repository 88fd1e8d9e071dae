-- Elimination without fractions, as a run of steps on rows of meanings.
use Rattle.std.specs.Prelude.{ℕ, suc, ◌<◌, ◌≤◌, List, [], ◌∷◌, ◌++◌, length, get_or, IsFalse, IsTrue, All}
use Rattle.std.specs.List.{AllZip}
use Rattle.ring_laws.specs.Meaning.{Meaning}
use Rattle.ring_laws.specs.Algebra.{Algebra, Passing}
use Rattle.kernel_laws.specs.Rows.{entry_at}
use Rattle.kernel_laws.specs.Pivots.{ArePivotColumns}
use Rattle.kernel_laws.specs.RowSteps.{crossed, CrossingInBounds, Divided, QuotientsInBounds}
use Rattle.kernel_laws.specs.Reduction.{Reduction, bare}

-- p*row - e*pivot, for their entries p and e at the column
abbrev pub crossed_at : (a : Algebra) → (column : ℕ) → (pivot row : List Meaning) → List Meaning
crossed_at a column pivot row = crossed a.ops (entry_at a.ops pivot column) row (entry_at a.ops row column) pivot

-- the new row: p*row - e*pivot, divided by t where that can be, and reduced
pub record ClearedRow (a : Algebra) (r : Reduction) (t : Meaning) (column : ℕ) (pivot row new : List Meaning) : Type 0 where
  pub middle : List (Passing a)
  pub divided : Divided a t (crossed_at a column pivot row) (bare a middle)
  pub reduced : r.Reduced (bare a middle) new

-- a row with a zero in the column stays
pub data Cleared (a : Algebra) (r : Reduction) (t : Meaning) (column : ℕ) (pivot row : List Meaning) : List Meaning → Type 0 where
  stays : IsTrue (a.ops.is_nought (entry_at a.ops row column)) → Cleared a r t column pivot row row
  changes : {new : List Meaning} → IsFalse (a.ops.is_nought (entry_at a.ops row column)) → ClearedRow a r t column pivot row new
      → Cleared a r t column pivot row new

-- each step from a row whose entry isn't zero to its new row is in bounds
pub record RowStepsInBounds (InBounds : Meaning → Meaning → Type 0) (a : Algebra) (r : Reduction) (t : Meaning) (column : ℕ)
    (pivot row : List Meaning) : Type 0 where
  pub crossing : CrossingInBounds a (entry_at a.ops pivot column) row (entry_at a.ops row column) pivot
  pub division : QuotientsInBounds InBounds a t (crossed_at a column pivot row)
  pub reduction : (middle : List Meaning) → Divided a t (crossed_at a column pivot row) middle → r.ReductionInBounds middle

-- a row with a zero in the column takes no step
abbrev pub ClearingInBounds : (Meaning → Meaning → Type 0) → (a : Algebra) → Reduction → Meaning → ℕ → (pivot row : List Meaning) → Type 0
ClearingInBounds InBounds a r t column pivot row =
    IsFalse (a.ops.is_nought (entry_at a.ops row column)) → RowStepsInBounds InBounds a r t column pivot row

-- the entry of a row of the list
abbrev pub entry : Algebra → List (List Meaning) → ℕ → ℕ → Meaning
entry a rows place column = entry_at a.ops (get_or rows place []) column

-- the entry isn't zero
abbrev pub IsCandidate : Algebra → ℕ → List (List Meaning) → ℕ → Type 0
IsCandidate a column rows place = IsFalse (a.ops.is_nought (entry a rows place column))

-- of the first n rows whose entry isn't zero, the one of least weight, and of these the first
pub record ChosenOf (a : Algebra) (r : Reduction) (column : ℕ) (rows : List (List Meaning)) (n place : ℕ) : Type 0 where
  pub within : place < n
  pub candidate : IsCandidate a column rows place
  pub least : (k : ℕ) → k < n → IsCandidate a column rows k → r.weight (entry a rows place column) ≤ r.weight (entry a rows k column)
  pub first : (k : ℕ) → k < place → IsCandidate a column rows k → r.weight (entry a rows place column) < r.weight (entry a rows k column)

-- the row at the place is the best of all rows to clear the column with
abbrev pub Chosen : (a : Algebra) → (r : Reduction) → (column : ℕ) → (rows : List (List Meaning)) → (place : ℕ) → Type 0
Chosen a r column rows place = ChosenOf a r column rows (length rows) place

-- each row has a zero in the column
abbrev pub IsFree : Algebra → ℕ → List (List Meaning) → Type 0
IsFree a column rows = All (λ row. IsTrue (a.ops.is_nought (entry_at a.ops row column))) rows

-- the columns below j are done: the open rows, the pivot rows with their columns, and the divisor
pub data Run (a : Algebra) (r : Reduction) (rows : List (List Meaning)) : ℕ → List (List Meaning) → List (ℕ × List Meaning) → Meaning
    → Type 0 where
  -- every row is reduced first
  begin : {open_rows : List (List Meaning)} → AllZip r.Reduced rows open_rows → Run a r rows 0 open_rows [] a.ops.unit
  -- a column without a pivot row is free
  pass : {j : ℕ} {open_rows : List (List Meaning)} {pivots : List (ℕ × List Meaning)} {t : Meaning} → Run a r rows j open_rows pivots t
      → IsFree a j open_rows → Run a r rows (suc j) open_rows pivots t
  -- a pivot row is taken out, the other open rows are cleared, and the next divisor is the core of the pivot
  climb : {j : ℕ} {pivots : List (ℕ × List Meaning)} {t : Meaning} (before after : List (List Meaning)) (pivot : List Meaning)
      {news : List (List Meaning)} (plain : Meaning) {core : Meaning} → Run a r rows j (before ++ pivot ∷ after) pivots t
      → Chosen a r j (before ++ pivot ∷ after) (length before) → AllZip (Cleared a r t j pivot) (before ++ after) news
      → r.Split (entry_at a.ops pivot j) plain core → Run a r rows (suc j) news (pivots ++ (j, pivot) ∷ []) core

-- a run through so many columns that ends with these pivot rows
pub record Ran (a : Algebra) (r : Reduction) (columns : ℕ) (rows : List (List Meaning)) (pivots : List (ℕ × List Meaning)) : Type 0 where
  pub open_rows : List (List Meaning)
  pub divisor : Meaning
  pub run : Run a r rows columns open_rows pivots divisor

-- each step of every such run is in bounds, up to the first column from the first on that is free
pub record RunInBounds (InBounds : Meaning → Meaning → Type 0) (a : Algebra) (r : Reduction) (columns first : ℕ)
    (rows : List (List Meaning)) : Type 0 where
  pub reduction : All r.ReductionInBounds rows
  pub clearing : (j : ℕ) (before after : List (List Meaning)) (pivot : List Meaning) (pivots : List (ℕ × List Meaning)) (t : Meaning)
      → j < columns → ArePivotColumns first j pivots → Run a r rows j (before ++ pivot ∷ after) pivots t
      → Chosen a r j (before ++ pivot ∷ after) (length before)
      → All (ClearingInBounds InBounds a r t j pivot) (before ++ after) × r.CoreInBounds (entry_at a.ops pivot j)
