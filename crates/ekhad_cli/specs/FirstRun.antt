-- The terms that are answered today: a small whole number times a polynomial in k alone, of degree at most 4, with small numbers.
use Rattle.std.specs.Prelude.{◌≡◌, ◌≢◌, ◌≤◌, ◌<◌, ◌^◌, ℕ, ℤ, pos, unsigned_abs, All, List, [], length, map}
use Rattle.ring_laws.specs.Meaning.{Meaning, number, listed, items}
use Rattle.ring_laws.specs.Wholes.{whole_algebra}
use Rattle.poly_laws.specs.Lists.{coefficient_at, trimmed}
use Rattle.poly_laws.specs.Values.{level}
use Rattle.hypergeometric.specs.Fraction.{of_whole}
use Rattle.hypergeometric.specs.PlainTerm.{plain_term}
use Rattle.hypergeometric.specs.ProperTerm.{ProperTerm}
use Rattle.cert_text.specs.PolynomialDocument.{in_k}

-- below 10^6 in magnitude
abbrev pub IsSmall : ℤ → Type 0
IsSmall z = unsigned_abs z < 10 ^ 6

-- a polynomial in n that is a small number
abbrev pub IsSmallConstant : Meaning → Type 0
IsSmallConstant c = (z : ℤ) × IsSmall z × (c ≡ (level 1).ops.whole z)

-- a polynomial in k of degree at most 4 whose coefficients are small numbers
pub record HasSmallCoefficients (poly : Meaning) : Type 0 where
  pub degree : length (items poly) ≤ 5
  pub constants : (power : ℕ) → IsSmallConstant (coefficient_at (level 1).ops (items poly) power)

-- no powers, no factorials, no denominators, and nothing that was cancelled
pub record IsScaledPolynomial (f : ProperTerm) : Type 0 where
  pub n_base : f.n_base ≡ of_whole (pos 1)
  pub k_base : f.k_base ≡ of_whole (pos 1)
  pub up : f.up ≡ []
  pub down : f.down ≡ []
  pub over : f.over ≡ []
  pub guard : f.guard ≡ []

-- a scaled polynomial whose scale is a small whole number, and whose coefficients are small numbers
pub record IsFirstRunTerm (f : ProperTerm) : Type 0 where
  pub scaled_polynomial : IsScaledPolynomial f
  pub whole_scale : f.scale.bottom ≡ pos 1
  pub small_scale : IsSmall f.scale.top
  pub poly : HasSmallCoefficients f.poly

-- the polynomial in one variable with these coefficients, from the power 0 up
abbrev pub polynomial_of : List ℤ → Meaning
polynomial_of cs = listed (trimmed whole_algebra.ops (map number cs))

-- the term is the scale times the polynomial in k with these coefficients; all numbers are small, and neither factor is 0
pub record HasNumbers (f : ProperTerm) (coefficients : List ℤ) (scale : ℤ) : Type 0 where
  pub term : f ≡ plain_term scale (in_k (polynomial_of coefficients))
  pub few : length coefficients ≤ 5
  pub small : All IsSmall coefficients
  pub small_scale : IsSmall scale
  pub some : items (polynomial_of coefficients) ≢ []
  pub scale_not_zero : scale ≢ pos 0
