-- Which of the solutions of a key equation (A=B chapters 5 and 6) is written: the vector that the steps of elimination give, with the sign that makes the last
-- multiplier's leading coefficient positive.
use Rattle.std.specs.Prelude.{◌≡◌, ℕ, ◌+◌, pos, ◌<ℤ◌, ◌⊎◌, List, map, Option}
use Rattle.ring_laws.specs.Meaning.{Meaning}
use Rattle.ring_laws.specs.Algebra.{Passing}
use Rattle.poly_laws.specs.Values.{level}
use Rattle.division_laws.specs.Polynomials.{at_previous}
use Rattle.kernel_laws.specs.Rows.{entry_at}
use Rattle.kernel_laws.specs.Reduction.{bare}
use Rattle.kernel_laws.specs.Answers.{VectorOf, IsFirstFree}
use Rattle.key_laws.specs.DegreeBounds.{IsDegreeBound, coefficient_count}
use Rattle.key_laws.specs.KeyRows.{key_rows, polynomial_of}
use Rattle.reducing.specs.PolynomialRows.{lead_number, polynomial_reduction}
use Rattle.hypergeometric.specs.Products.{list_polynomial}
use Rattle.term_pieces.specs.NormalForm.{Normal}
use Rattle.pole_laws.specs.Orders.{sides_of}

-- q(k) of a normal form
abbrev pub q_of : Normal → Meaning
q_of normal = list_polynomial normal.q

-- r(k-1) of it
abbrev pub b_of : Normal → Meaning
b_of normal = at_previous (level 1).ops (list_polynomial normal.r)

-- the rows of the key equation with so many coefficients of Y
abbrev pub rows_of_key : Normal → List Meaning → ℕ → List (List Meaning)
rows_of_key normal tops n = key_rows (level 1).ops (q_of normal) (b_of normal) n (sides_of normal tops)

-- the vector of the first free column of a multiplier, as the steps of elimination and back substitution give it on the rows
pub record IsVectorByTheSteps (normal : Normal) (tops : List Meaning) (count : ℕ) (bound : Option ℕ) (free : ℕ)
    (row : List (Passing (level 1))) : Type 0 where
  pub is_bound : IsDegreeBound (level 1).ops (q_of normal) (b_of normal) (sides_of normal tops) bound
  pub by_steps : VectorOf (level 1) polynomial_reduction (coefficient_count bound + count)
      (rows_of_key normal tops (coefficient_count bound)) free (bare (level 1) row)
  pub first_free : IsFirstFree (coefficient_count bound + count) (coefficient_count bound) by_steps.pivots free

-- the vector or its negative, whose entry at the column has a positive leading coefficient
pub record IsSigned (row vector : List Meaning) (column : ℕ) : Type 0 where
  pub is : (vector ≡ row) ⊎ (vector ≡ map (level 1).ops.neg row)
  pub positive : pos 0 <ℤ lead_number (entry_at (level 1).ops vector column)

-- the vector of the steps, with its sign
pub record IsChosenVector (normal : Normal) (tops : List Meaning) (count : ℕ) (bound : Option ℕ) (free : ℕ) (vector : List Meaning) : Type 0 where
  pub row : List (Passing (level 1))
  pub by_steps : IsVectorByTheSteps normal tops count bound free row
  pub signed : IsSigned (bare (level 1) row) vector free

-- Y has the first entries of a vector as its coefficients, as many as the bound allows
abbrev pub y_of : Option ℕ → List Meaning → Meaning
y_of bound vector = polynomial_of (level 1).ops (coefficient_count bound) (entry_at (level 1).ops vector)

-- and behind them stand the multipliers
abbrev pub multiplier_of : Option ℕ → List Meaning → ℕ → Meaning
multiplier_of bound vector j = entry_at (level 1).ops vector (coefficient_count bound + j)
