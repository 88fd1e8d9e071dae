-- The vector of a free column, from the pivot rows, as a run of steps on lists of meanings.
use Rattle.std.specs.Prelude.{◌≡◌, ℕ, zero, suc, ◌<◌, List, [], ◌∷◌, ◌++◌, map, length, ⊤}
use Rattle.std.proofs.Math.ListN.{set}
use Rattle.ring_laws.specs.Meaning.{Meaning}
use Rattle.ring_laws.specs.Algebra.{Ops, Algebra, Passing, ProductInBounds}
use Rattle.kernel_laws.specs.Rows.{entry_at, total, dot}
use Rattle.kernel_laws.specs.Pivots.{IsPivotColumn}
use Rattle.kernel_laws.specs.RowSteps.{HasQuotient}
use Rattle.kernel_laws.specs.Reduction.{Reduction}

-- n zeros
abbrev pub zeros : {A : Type 0} → Ops A → ℕ → List A
zeros o zero = []
zeros o (suc n) = o.nought ∷ zeros o n

-- the vector with a one at the free column and zeros elsewhere
abbrev pub unit_vector : {A : Type 0} → Ops A → ℕ → ℕ → List A
unit_vector o columns free = set (zeros o columns) free o.unit

-- the row times the vector
abbrev pub times_vector : Algebra → ℕ → List Meaning → List Meaning → Meaning
times_vector a columns row vector = dot a.ops columns row (entry_at a.ops vector)

-- the sum of the products of the magnitudes fits
abbrev pub TimesInBounds : Algebra → ℕ → List Meaning → List Meaning → Type 0
TimesInBounds a columns row vector =
    a.ops.Fits (total a.ops columns
    (λ k. a.ops.product (a.ops.magnitude (entry_at a.ops row k)) (a.ops.magnitude (entry_at a.ops vector k))))

-- s is divided by t where that can be; else the vector is multiplied by t
pub data Absorbed (a : Algebra) (t s : Meaning) (vector : List Meaning) : Meaning → List Meaning → Type 0 where
  quotient : (q : Passing a) → a.ops.product q.0 t ≡ s → Absorbed a t s vector q.0 vector
  multiple : ¬ (HasQuotient a t s) → Absorbed a t s vector s (map (a.ops.product t) vector)

-- the division of s by t is in bounds, and where t doesn't divide s so is each product of t with an entry
pub record AbsorbingInBounds (InBounds : Meaning → Meaning → Type 0) (a : Algebra) (t s : Meaning) (vector : List Meaning) : Type 0 where
  pub division : InBounds s t
  pub products : ¬ (HasQuotient a t s) → (k : ℕ) → k < length vector → ProductInBounds a t (entry_at a.ops vector k)

-- the entry at the column of a pivot row: s is minus the row times the vector so far, the core and then the plain part of the pivot
-- are absorbed, what is left of s is the entry, and the whole vector is reduced
pub record BackStep (a : Algebra) (r : Reduction) (columns column : ℕ) (row old new : List Meaning) : Type 0 where
  pub plain : Meaning
  pub core : Meaning
  pub split : r.Split (entry_at a.ops row column) plain core
  pub rest : Meaning
  pub middle : List Meaning
  pub by_core : Absorbed a core (a.ops.neg (times_vector a columns row old)) old rest middle
  pub entry : Meaning
  pub last : List Meaning
  pub by_plain : Absorbed a plain rest middle entry last
  pub reduced : r.Reduced (set last column entry) new

-- each operation of that step is in bounds
pub record BackStepInBounds (InBounds : Meaning → Meaning → Type 0) (a : Algebra) (r : Reduction) (columns column : ℕ)
    (row old : List Meaning) : Type 0 where
  pub times : TimesInBounds a columns row old
  pub splitting : r.SplitInBounds (entry_at a.ops row column)
  pub core : (plain core : Meaning) → r.Split (entry_at a.ops row column) plain core
      → AbsorbingInBounds InBounds a core (a.ops.neg (times_vector a columns row old)) old
  pub plain : (plain core rest : Meaning) (middle : List Meaning) → r.Split (entry_at a.ops row column) plain core
      → Absorbed a core (a.ops.neg (times_vector a columns row old)) old rest middle → AbsorbingInBounds InBounds a plain rest middle
  pub reduction : (plain core rest entry : Meaning) (middle last : List Meaning) → r.Split (entry_at a.ops row column) plain core
      → Absorbed a core (a.ops.neg (times_vector a columns row old)) old rest middle → Absorbed a plain rest middle entry last
      → r.ReductionInBounds (set last column entry)

-- the pivot rows are gone through from the last to the first
pub data BackRun (a : Algebra) (r : Reduction) (columns free : ℕ) : List (ℕ × List Meaning) → List Meaning → Type 0 where
  begin : BackRun a r columns free [] (unit_vector a.ops columns free)
  step : {column : ℕ} {row old new : List Meaning} {pivots : List (ℕ × List Meaning)} → BackRun a r columns free pivots old
      → BackStep a r columns column row old new → BackRun a r columns free ((column, row) ∷ pivots) new

-- each step of every such run is in bounds
abbrev pub BackInBounds : (Meaning → Meaning → Type 0) → (a : Algebra) → Reduction → (columns free : ℕ) → List (ℕ × List Meaning) → Type 0
BackInBounds InBounds a r columns free [] = ⊤
BackInBounds InBounds a r columns free (p ∷ ps) =
    BackInBounds InBounds a r columns free ps
    × ((old : List Meaning) → BackRun a r columns free ps old → BackStepInBounds InBounds a r columns p.0 p.1 old)

-- the vectors of the free columns below j, by rising column
pub data FreeVectors (a : Algebra) (r : Reduction) (columns : ℕ) (pivots : List (ℕ × List Meaning))
    : ℕ → List ℕ → List (List Meaning) → Type 0 where
  none : FreeVectors a r columns pivots 0 [] []
  pivot : {j : ℕ} {frees : List ℕ} {vectors : List (List Meaning)} → IsPivotColumn j pivots
      → FreeVectors a r columns pivots j frees vectors → FreeVectors a r columns pivots (suc j) frees vectors
  free : {j : ℕ} {frees : List ℕ} {vectors : List (List Meaning)} {vector : List Meaning} → ¬ (IsPivotColumn j pivots)
      → BackRun a r columns j pivots vector → FreeVectors a r columns pivots j frees vectors
      → FreeVectors a r columns pivots (suc j) (frees ++ j ∷ []) (vectors ++ vector ∷ [])
