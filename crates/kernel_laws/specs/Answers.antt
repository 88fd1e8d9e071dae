-- What elimination answers of the kernel. Its vectors have entries of any size: all meanings that belong to the ring.
use Rattle.std.specs.Prelude.{◌≡◌, ◌≢◌, ℕ, suc, ◌<◌, ◌≤◌, List, map, length, All}
use Rattle.std.specs.List.{AllZip, Contains}
use Rattle.std.specs.List.Sorted.{IsStrictlyIncreasing}
use Rattle.ring_laws.specs.Meaning.{Meaning}
use Rattle.ring_laws.specs.Algebra.{Algebra, Passing}
use Rattle.kernel_laws.specs.Rows.{entry_at, InKernel}
use Rattle.kernel_laws.specs.Kernels.{EndsAt, Counted, combined}
use Rattle.kernel_laws.specs.Pivots.{IsPivotColumn, ArePivotColumns}
use Rattle.kernel_laws.specs.Reduction.{Reduction}
use Rattle.kernel_laws.specs.Elimination.{Ran, RunInBounds}
use Rattle.kernel_laws.specs.BackSubstitution.{BackRun, FreeVectors, BackInBounds}

-- a vector over the ring: an entry at each column, of any size
abbrev pub Vector : Algebra → Type 0
Vector a = ℕ → Passing a

-- entry k of a vector as a meaning
abbrev pub meant : (a : Algebra) → Vector a → ℕ → Meaning
meant a v k = (v k).0

-- no vector of the kernel has its last entry that isn't zero at column j
abbrev pub NoneEnds : Algebra → ℕ → List (List Meaning) → ℕ → Type 0
NoneEnds a columns rows j = (v : Vector a) → InKernel a.ops columns rows (meant a v) → ¬ (EndsAt a.ops columns (meant a v) j)

-- a vector of the kernel, which ends at the least column from the first on at which one ends
pub record FreeVector (a : Algebra) (columns first : ℕ) (rows : List (List Meaning)) (vector : List Meaning) (free : ℕ) : Type 0 where
  pub size : length vector ≡ columns
  pub kernel : InKernel a.ops columns rows (entry_at a.ops vector)
  pub from : first ≤ free
  pub ends : EndsAt a.ops columns (entry_at a.ops vector) free
  pub least : (j : ℕ) → first ≤ j → j < free → NoneEnds a columns rows j

-- each vector of the kernel is zero from the first column on, and the rank counts the columns at which none ends
pub record AllPivots (a : Algebra) (columns first : ℕ) (rows : List (List Meaning)) (rank : ℕ) : Type 0 where
  pub zero : (v : Vector a) → InKernel a.ops columns rows (meant a v) → (k : ℕ) → first ≤ k → k < columns → (v k).0 ≡ a.ops.nought
  pub counted : Counted (NoneEnds a columns rows) columns 0 rank

-- some multiple of w, by a factor that isn't zero, is a sum of multiples of the vectors
pub record Combination (a : Algebra) (columns : ℕ) (vectors : List (List Meaning)) (w : Vector a) : Type 0 where
  pub factor : Passing a
  pub not_zero : ¬ (factor.0 ≡ a.ops.nought)
  pub by : Vector a
  pub is : (k : ℕ) → k < columns → a.ops.product factor.0 (w k).0 ≡ combined a.ops (meant a by) (map (entry_at a.ops) vectors) k

-- a sum of multiples of the vectors is zero at each column only where each is taken by zero
abbrev pub AreIndependent : (a : Algebra) → ℕ → List (List Meaning) → Type 0
AreIndependent a columns vectors =
    (by : Vector a) → ((k : ℕ) → k < columns → combined a.ops (meant a by) (map (entry_at a.ops) vectors) k ≡ a.ops.nought)
    → (i : ℕ) → i < length vectors → (by i).0 ≡ a.ops.nought

-- one vector of the kernel for each column at which one ends, by rising column; they span the kernel, and are independent
pub record Basis (a : Algebra) (columns : ℕ) (rows : List (List Meaning)) (vectors : List (List Meaning)) : Type 0 where
  pub sizes : All (λ v. length v ≡ columns) vectors
  pub kernel : All (λ v. InKernel a.ops columns rows (entry_at a.ops v)) vectors
  pub frees : List ℕ
  pub rising : IsStrictlyIncreasing frees
  pub ends : AllZip (λ v j. EndsAt a.ops columns (entry_at a.ops v) j) vectors frees
  pub others : (j : ℕ) → ¬ (Contains frees j) → NoneEnds a columns rows j
  -- each vector is zero at the columns at which the others end
  pub apart : AllZip (λ v j. (k : ℕ) → Contains frees k → k ≢ j → entry_at a.ops v k ≡ a.ops.nought) vectors frees
  pub spans : (w : Vector a) → InKernel a.ops columns rows (meant a w) → Combination a columns vectors w
  pub independent : AreIndependent a columns vectors

-- the vector that the steps give at a free column: elimination goes up to that column, and back substitution through the pivot rows before it
pub record VectorOf (a : Algebra) (r : Reduction) (columns : ℕ) (rows : List (List Meaning)) (free : ℕ) (vector : List Meaning) : Type
    0 where
  pub pivots : List (ℕ × List Meaning)
  pub ran : Ran a r (suc free) rows pivots
  pub is_free : ¬ (IsPivotColumn free pivots)
  pub back : BackRun a r columns free pivots vector

-- the vectors that they give at the free columns
pub record VectorsOf (a : Algebra) (r : Reduction) (columns : ℕ) (rows : List (List Meaning)) (vectors : List (List Meaning)) : Type 0 where
  pub pivots : List (ℕ × List Meaning)
  pub ran : Ran a r columns rows pivots
  pub frees : List ℕ
  pub back : FreeVectors a r columns pivots columns frees vectors

-- the column is none of a pivot row
pub record IsFreeColumn (columns : ℕ) (pivots : List (ℕ × List Meaning)) (column : ℕ) : Type 0 where
  pub within : column < columns
  pub free : ¬ (IsPivotColumn column pivots)

-- and each column from the first on before it is one
pub record IsFirstFree (columns first : ℕ) (pivots : List (ℕ × List Meaning)) (column : ℕ) : Type 0 where
  pub free : IsFreeColumn columns pivots column
  pub from : first ≤ column
  pub before : ArePivotColumns first column pivots

-- each step of elimination up to the first free column is in bounds, and each of the vector at that column
pub record VectorInBounds (InBounds : Meaning → Meaning → Type 0) (a : Algebra) (r : Reduction) (columns first : ℕ)
    (rows : List (List Meaning)) : Type 0 where
  pub run : RunInBounds InBounds a r columns first rows
  pub vector : (free : ℕ) (pivots : List (ℕ × List Meaning)) → Ran a r (suc free) rows pivots → IsFirstFree columns first pivots free
      → BackInBounds InBounds a r columns free pivots

-- each step of elimination through all columns is in bounds, and each of the vectors at the free columns
pub record BasisInBounds (InBounds : Meaning → Meaning → Type 0) (a : Algebra) (r : Reduction) (columns : ℕ)
    (rows : List (List Meaning)) : Type 0 where
  pub run : RunInBounds InBounds a r columns columns rows
  pub vectors : (column : ℕ) (pivots : List (ℕ × List Meaning)) → Ran a r columns rows pivots → IsFreeColumn columns pivots column
      → BackInBounds InBounds a r columns column pivots
