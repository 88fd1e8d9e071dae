-- Common divisors of multipliers and of the coefficients of Y.
use Rattle.std.specs.Prelude.{ℕ, ◌<◌}
use Rattle.ring_laws.specs.Meaning.{Meaning}
use Rattle.ring_laws.specs.Algebra.{Algebra}
use Rattle.kernel_laws.specs.RowSteps.{HasQuotient}
use Rattle.division_laws.specs.Polynomials.{coefficient_of}

-- t divides each multiplier and each coefficient of Y
pub record IsCommonDivisor (a : Algebra) (count : ℕ) (multipliers : ℕ → Meaning) (y t : Meaning) : Type 0 where
  pub of_multipliers : (j : ℕ) → j < count → HasQuotient a t (multipliers j)
  pub of_y : (i : ℕ) → HasQuotient a t (coefficient_of a.ops y i)
