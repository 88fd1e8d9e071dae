-- Pivot rows, each with its column.
use Rattle.std.specs.Prelude.{◌≡◌, ℕ, ◌<◌, ◌≤◌, List, [], ◌∷◌, map, length, IsFalse, ◌⊎◌}
use Rattle.ring_laws.specs.Meaning.{Meaning}
use Rattle.ring_laws.specs.Algebra.{Algebra}
use Rattle.kernel_laws.specs.Rows.{entry_at}

-- the rows alone
abbrev pub rows_of : {A : Type 0} → List (ℕ × List A) → List (List A)
rows_of pivots = map (λ p. p.1) pivots

-- a column of one of the pivot rows
abbrev pub IsPivotColumn : {A : Type 0} → ℕ → List (ℕ × List A) → Type 0
IsPivotColumn column [] = ⊥
IsPivotColumn column (p ∷ ps) = (column ≡ p.0) ⊎ IsPivotColumn column ps

-- each column from the first on, before the j-th, is one of a pivot row
abbrev pub ArePivotColumns : {A : Type 0} → (first j : ℕ) → List (ℕ × List A) → Type 0
ArePivotColumns first j pivots = (i : ℕ) → first ≤ i → i < j → IsPivotColumn i pivots

-- a row with an entry at each of n columns, whose entry at its own column, before the j-th, isn't zero
pub record IsPivotRow (a : Algebra) (n j : ℕ) (p : ℕ × List Meaning) : Type 0 where
  pub size : length p.1 ≡ n
  pub before : p.0 < j
  pub not_zero : IsFalse (a.ops.is_nought (entry_at a.ops p.1 p.0))
