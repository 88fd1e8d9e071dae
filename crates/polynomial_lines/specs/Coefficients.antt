-- Lists of coefficients of polynomials.
use Rattle.std.specs.Prelude.{ℕ, IsTrue, List}
use Rattle.ring_laws.specs.Meaning.{Meaning}
use Rattle.poly_laws.specs.Lists.{is_trimmed}
use Rattle.poly_laws.specs.PolyAlgebra.{every_passes}
use Rattle.poly_laws.specs.Values.{level}
use Rattle.std.specs.List.{AllByRecursion}

-- the coefficients, from the power 0 up, of a polynomial whose coefficients have so many letters; there may be any number of them
pub record AreCoefficients (letters : ℕ) (coefficients : List Meaning) : Type 0 where
  pub passes : IsTrue (every_passes (level letters).passes coefficients)
  pub trimmed : IsTrue (is_trimmed (level letters).ops coefficients)
  pub fits : AllByRecursion (level letters).ops.Fits coefficients
