-- Proper hypergeometric terms, where they are defined, and their values (A=B 4.4):
--   scale * P(n,k) * n_base^n * k_base^k * prod A! * prod 1/U! / prod L, over A in up, U in down and L in over.
-- guard has the forms whose factorials stood above and below and were cancelled: the term is defined only where they are at least 0.
use Rattle.std.specs.Prelude.{◌≢◌, ℤ, pos, ◌≤ℤ◌, List, [], ◌∷◌}
use Rattle.ring_laws.specs.Meaning.{Meaning}
use Rattle.poly_laws.specs.Values.{value_at}
use Rattle.hypergeometric.specs.Point.{Point, values, values_in_n}
use Rattle.hypergeometric.specs.Fraction.{Fraction, of_whole, fraction_product, fraction_inverse, whole_power}
use Rattle.hypergeometric.specs.LinearForm.{Factor, form_value, product_over, factorial_value, inverse_factorial_value}

-- poly is a polynomial in k whose coefficients are polynomials in n
pub record ProperTerm : Type 0 where
  pub poly : Meaning
  pub scale : Fraction
  pub n_base : Fraction
  pub k_base : Fraction
  pub up : List Factor
  pub down : List Factor
  pub over : List Factor
  pub guard : List Factor

-- the value of a polynomial in k and n
abbrev pub poly_value : Meaning → Point → ℤ
poly_value poly p = value_at (values p) poly

-- the value of a polynomial in n
abbrev pub value_in_n : Meaning → Point → ℤ
value_in_n poly p = value_at (values_in_n p) poly

-- no form of the list is negative at the point
abbrev pub NoneNegative : List Factor → Point → Type 0
NoneNegative [] p = Unit {0}
NoneNegative (x ∷ xs) p = (pos 0 ≤ℤ form_value x.form p) × NoneNegative xs p

-- no form of the list is 0 at the point
abbrev pub NoneZero : List Factor → Point → Type 0
NoneZero [] p = Unit {0}
NoneZero (x ∷ xs) p = (form_value x.form p ≢ pos 0) × NoneZero xs p

-- the term is defined at a point
pub record IsDefinedAt (f : ProperTerm) (p : Point) : Type 0 where
  pub up : NoneNegative f.up p
  pub guard : NoneNegative f.guard p
  pub over : NoneZero f.over p

-- the value of a proper term at a point where the term is defined; the guard plays no part in it (A=B 4.4)
abbrev pub proper_value : ProperTerm → Point → Fraction
proper_value f p =
    fraction_product f.scale (fraction_product (of_whole (poly_value f.poly p))
    (fraction_product (whole_power f.n_base p.n) (fraction_product (whole_power f.k_base p.k)
    (fraction_product (product_over factorial_value f.up p) (fraction_product (product_over inverse_factorial_value f.down p)
    (product_over (λ z. fraction_inverse (of_whole z)) f.over p))))))

-- defined and not 0
pub record IsNonzero (f : Fraction) : Type 0 where
  pub top : f.top ≢ pos 0
  pub bottom : f.bottom ≢ pos 0

-- The scale and the bases are fractions other than 0. Then the value is a fraction wherever the term is defined.
pub record HasFractions (f : ProperTerm) : Type 0 where
  pub scale : IsNonzero f.scale
  pub n_base : IsNonzero f.n_base
  pub k_base : IsNonzero f.k_base
