-- A row that no form u*n + v divides, with u from 1 to 4 and no common divisor of u and v above 1.
use Rattle.std.specs.Prelude.{◌≡◌, ℕ, ℤ, pos, List}
use Rattle.ring_laws.specs.Meaning.{Meaning}
use Rattle.poly_divide.specs.Content.{row_sizes, IsContent}
use Rattle.poly_divide.specs.Forms.{linear}
use Rattle.whole_roots.specs.Differences.{polynomials}
use Rattle.whole_roots.specs.LinearFactors.{IsProfileForm}
use Rattle.reducing.specs.TakenOut.{times_row}
use Rattle.reducing.specs.PolynomialRows.{Row}

-- no form of the profile, times a row, is the row
abbrev pub HasNoCommonForm : List Meaning → Type 0
HasNoCommonForm row = (u : ℕ) (v : ℤ) → IsProfileForm u v → (quotients : Row) → ¬ (row ≡ times_row polynomials (linear (pos u) v) quotients)

-- some coefficient isn't zero
abbrev pub IsSomeNonzero : List Meaning → Type 0
IsSomeNonzero row = ¬ (IsContent (row_sizes row) 0)
