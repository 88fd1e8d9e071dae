-- Which solution of a key equation is given, of all that there are: the vector that the steps of elimination give, with the sign that makes the
-- lead of the last multiplier that isn't zero positive. b stands for r(k-1).
use Rattle.std.specs.Prelude.{◌≡◌, ℕ, ◌+◌, pos, ◌<ℤ◌, ◌⊎◌, List, map, length, Option}
use Rattle.ring_laws.specs.Meaning.{Meaning}
use Rattle.ring_laws.specs.Algebra.{Algebra, Passing}
use Rattle.kernel_laws.specs.Rows.{entry_at}
use Rattle.kernel_laws.specs.Reduction.{Reduction, bare}
use Rattle.kernel_laws.specs.Answers.{VectorOf, IsFirstFree}
use Rattle.key_laws.specs.DegreeBounds.{IsDegreeBound, coefficient_count}
use Rattle.key_laws.specs.KeyRows.{key_rows, polynomial_of, listing}
use Rattle.form_rings.specs.Forms.{Forms}

-- the vector of the first free column of a multiplier, as elimination and back substitution give it on the rows
pub record IsVectorByTheSteps (a : Algebra) (r : Reduction) (q b : Meaning) (sides : List Meaning) (bound : Option ℕ) (free : ℕ)
    (row : List (Passing a)) : Type 0 where
  pub is_bound : IsDegreeBound a.ops q b sides bound
  pub by_steps : VectorOf a r (coefficient_count bound + length sides) (key_rows a.ops q b (coefficient_count bound) sides) free (bare a row)
  pub first_free : IsFirstFree (coefficient_count bound + length sides) (coefficient_count bound) by_steps.pivots free

-- the row or its negative, whose entry at the column has a positive lead
pub record IsSigned (a : Algebra) (forms : Forms) (row vector : List Meaning) (column : ℕ) : Type 0 where
  pub is : (vector ≡ row) ⊎ (vector ≡ map a.ops.neg row)
  pub positive : pos 0 <ℤ forms.lead (entry_at a.ops vector column)

-- Y and the multipliers are the parts of the row or its negative: the first entries, so many of them, and those that follow
pub record AreParts (a : Algebra) (forms : Forms) (row : List Meaning) (column count others : ℕ) (y : Meaning) (multipliers : List Meaning) : Type
    0 where
  pub vector : List Meaning
  pub signed : IsSigned a forms row vector column
  pub y_is : y ≡ polynomial_of a.ops count (entry_at a.ops vector)
  pub multipliers_are : multipliers ≡ listing others (λ j. entry_at a.ops vector (count + j))

-- Y and the multipliers are the parts of the vector of the steps, with its sign
pub record IsChosen (a : Algebra) (r : Reduction) (forms : Forms) (q b : Meaning) (sides : List Meaning) (y : Meaning)
    (multipliers : List Meaning) : Type 0 where
  pub bound : Option ℕ
  pub free : ℕ
  pub row : List (Passing a)
  pub by_steps : IsVectorByTheSteps a r q b sides bound free row
  pub parts : AreParts a forms (bare a row) free (coefficient_count bound) (length sides) y multipliers
