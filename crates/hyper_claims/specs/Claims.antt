-- The claims of Hyper, as a document prints them, and what it is for a claim to hold.
use Rattle.std.specs.Prelude.{◌≢◌, ℕ, pos, List}
use Rattle.ring_laws.specs.Meaning.{Meaning}
use Rattle.poly_laws.specs.Values.{level}
use Rattle.hypergeometric.specs.Fraction.{Fraction}
use Rattle.hypergeometric.specs.LinearForm.{Factor}
use Rattle.hyper_laws.specs.PolynomialSolutions.{Solves}
use Rattle.hyper_laws.specs.Cases.{Case, case_equation, IsBarren, HasNoRoot}
use Rattle.hyper_laws.specs.Solutions.{IsSolution}
use Rattle.hyper_laws.specs.FactorProducts.{product_of_factors}

-- one claim, which stands in a document by its number
pub data HyperClaim : Type 0 where
  -- no z of the profile is a root for a and b
  no_root : (a b : List Factor) → HyperClaim
  -- no polynomial but zero solves the case
  barren : (a b : List Factor) (z : Fraction) → HyperClaim
  -- the solution of the case with the polynomial c, from the first n on
  solution : (a b : List Factor) (z : Fraction) (from : ℕ) (c : Meaning) → HyperClaim
  -- a solution with the quotient of the earlier claim
  again : (earlier : ℕ) (a b : List Factor) (z : Fraction) (c : Meaning) → HyperClaim

-- the case of factors and a fraction
abbrev pub case_of : List Factor → List Factor → Fraction → Case
case_of a b z = record { a = product_of_factors a; b = product_of_factors b; z = z }

-- what a claim says of the recurrence
abbrev pub Holds : List Meaning → HyperClaim → Type 0
Holds ps (no_root a b) = HasNoRoot ps (product_of_factors a) (product_of_factors b)
Holds ps (barren a b z) = IsBarren ps (case_of a b z)
Holds ps (solution a b z from c) = IsSolution ps (case_of a b z) c (pos from)
Holds ps (again earlier a b z c) = Solves (case_equation ps (case_of a b z)) c × (c ≢ (level 1).ops.nought)
