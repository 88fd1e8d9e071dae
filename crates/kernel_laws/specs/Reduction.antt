-- What a domain brings whose rows are reduced, all in terms of meanings, and its laws.
use Rattle.std.specs.Prelude.{◌≡◌, ℕ, List, map, length, IsTrue}
use Rattle.ring_laws.specs.Meaning.{Meaning}
use Rattle.ring_laws.specs.Algebra.{Algebra, Passing}
use Rattle.kernel_laws.specs.Rows.{entry_at}

-- how rows are reduced and entries split into a plain part and a core, and when that is in bounds
pub record Reduction : Type 1 where
  -- of two entries that could be a pivot, the one of less weight is taken
  pub weight : Meaning → ℕ
  -- the second row is the first, reduced
  pub Reduced : List Meaning → List Meaning → Type 0
  -- the second is the plain part of the first, and the third its core
  pub Split : Meaning → Meaning → Meaning → Type 0
  -- each step of reducing the row, of splitting the value, or of finding its core alone, is in bounds
  pub ReductionInBounds : List Meaning → Type 0
  pub SplitInBounds : Meaning → Type 0
  pub CoreInBounds : Meaning → Type 0

-- the core of x, beside some plain part of any size
pub record IsCoreBy (r : Reduction) (x core : Meaning) : Type 0 where
  pub plain : Meaning
  pub split : r.Split x plain core

-- the meanings of a row of values of the ring
abbrev pub bare : (a : Algebra) → List (Passing a) → List Meaning
bare a row = map (λ v. v.0) row

-- something that isn't zero, times the new row, is the old row
pub record Reduces (a : Algebra) (old new : List Meaning) : Type 0 where
  pub size : length new ≡ length old
  -- the new row, whose entries belong to the ring
  pub row : List (Passing a)
  pub row_is : bare a row ≡ new
  pub factor : Passing a
  pub not_zero : ¬ (factor.0 ≡ a.ops.nought)
  pub is : (k : ℕ) → a.ops.product factor.0 (entry_at a.ops new k) ≡ entry_at a.ops old k

-- x is the product of the plain part and the core, which belong to the ring
pub record Splits (a : Algebra) (x plain core : Meaning) : Type 0 where
  pub plain_passes : IsTrue (a.passes plain)
  pub core_passes : IsTrue (a.passes core)
  pub is : a.ops.product plain core ≡ x

-- what each domain proves whose rows are reduced
pub record ReductionLaws (a : Algebra) (r : Reduction) : Type 0 where
  pub reduces : (old new : List Meaning) → r.Reduced old new → Reduces a old new
  -- what a reduction and a split give is fixed by the meanings of what they are given
  pub one_row : (old new other : List Meaning) → r.Reduced old new → r.Reduced old other → new ≡ other
  pub splits : (x plain core : Meaning) → r.Split x plain core → Splits a x plain core
  pub one_split : (x plain core other rest : Meaning) → r.Split x plain core → r.Split x other rest → (plain ≡ other) × (core ≡ rest)
