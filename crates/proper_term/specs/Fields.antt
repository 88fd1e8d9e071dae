-- A proper term by its fields, and what its four lists keep besides.
use Rattle.std.specs.Prelude.{◌≡◌, ℤ, pos}
use Rattle.ring_laws.specs.Meaning.{Meaning}
use Rattle.ring_laws.specs.Wholes.{number_of}
use Rattle.poly_fraction.specs.Fractions.{RingFraction}
use Rattle.hypergeometric.specs.Fraction.{Fraction}
use Rattle.hypergeometric.specs.LinearForm.{FactorList}
use Rattle.hypergeometric.specs.ProperTerm.{ProperTerm}

-- the fraction with this top and this bottom
abbrev pub number_fraction : ℤ → ℤ → Fraction
number_fraction top bottom = record { top = top; bottom = bottom }

-- a fraction over the ring of the whole numbers as a fraction of numbers
abbrev pub number_fraction_of : RingFraction → Fraction
number_fraction_of f = number_fraction (number_of f.top) (number_of f.bottom)

-- the term with this polynomial, this scale, these bases, and the forms of these lists
abbrev pub term_with : Meaning → Fraction → Fraction → Fraction → FactorList → FactorList → FactorList → FactorList → ProperTerm
term_with poly scale n_base k_base up down over guard = record {
  poly = poly;
  scale = scale;
  n_base = n_base;
  k_base = k_base;
  up = up.factors;
  down = down.factors;
  over = over.factors;
  guard = guard.factors;
}

-- the numbers before the forms are 1
pub record HaveUnitScales (above below divisors guards : FactorList) : Type 0 where
  pub up : above.scale ≡ pos 1
  pub down : below.scale ≡ pos 1
  pub over : divisors.scale ≡ pos 1
  pub guard : guards.scale ≡ pos 1
