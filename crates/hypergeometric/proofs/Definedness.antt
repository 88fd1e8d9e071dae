-- Where a proper term is defined, its value is a fraction.
use Rattle.std.proofs.Common.{ℕ, zero, suc, ◌<◌, arith, List, [], ◌∷◌}
use Rattle.std.proofs.lemmas.Int.{ints}
use Rattle.std.specs.Prelude.{ℤ, pos, negsuc, ◌≤ℤ◌}
use Rattle.hypergeometric.specs.Point.{Point}
use Rattle.hypergeometric.specs.Fraction.{Fraction, IsDefined, of_whole, fraction_inverse, natural_power, whole_power}
use Rattle.hypergeometric.specs.LinearForm.{Factor, form_value, factorial, factorial_value, inverse_factorial_value, product_over}
use Rattle.hypergeometric.specs.ProperTerm.{ProperTerm, NoneNegative, NoneZero, IsDefinedAt, proper_value, IsNonzero, HasFractions}
use Rattle.hypergeometric.proofs.FractionLaws.{one_not_zero, product_not_zero}

pub natural_power_defined : (f : Fraction) (n : ℕ) → IsDefined f → IsDefined (natural_power f n)
natural_power_defined f zero d = one_not_zero
natural_power_defined f (suc n) d = product_not_zero _ _ d (natural_power_defined f n d)

pub inverse_defined : (f : Fraction) → IsNonzero f → IsDefined (fraction_inverse f)
inverse_defined f h = product_not_zero f.top f.bottom h.top h.bottom

pub whole_power_defined : (f : Fraction) (z : ℤ) → IsNonzero f → IsDefined (whole_power f z)
whole_power_defined f (pos n) h = natural_power_defined f n h.bottom
whole_power_defined f (negsuc n) h = natural_power_defined (fraction_inverse f) (suc n) (inverse_defined f h)

factorial_positive : (m : ℕ) → 0 < factorial m
factorial_positive zero = omega arith
factorial_positive (suc m) = grind (arith, factorial_positive m)

pub factorial_value_defined : (z : ℤ) → pos 0 ≤ℤ z → IsDefined (factorial_value z)
factorial_value_defined (pos m) h = one_not_zero
factorial_value_defined (negsuc m) h = omega (arith, ints, h)

pub inverse_factorial_value_defined : (z : ℤ) → IsDefined (inverse_factorial_value z)
inverse_factorial_value_defined (pos m) = λ e. omega (arith, ints, e, factorial_positive m)
inverse_factorial_value_defined (negsuc m) = one_not_zero

up_defined : (xs : List Factor) (p : Point) → NoneNegative xs p → IsDefined (product_over factorial_value xs p)
up_defined [] p h = one_not_zero
up_defined (x ∷ xs) p h =
    product_not_zero _ _ (natural_power_defined _ x.power (factorial_value_defined _ h.0)) (up_defined xs p h.1)

down_defined : (xs : List Factor) (p : Point) → IsDefined (product_over inverse_factorial_value xs p)
down_defined [] p = one_not_zero
down_defined (x ∷ xs) p =
    product_not_zero _ _ (natural_power_defined _ x.power (inverse_factorial_value_defined _)) (down_defined xs p)

over_defined : (xs : List Factor) (p : Point) → NoneZero xs p → IsDefined (product_over (λ z. fraction_inverse (of_whole z)) xs p)
over_defined [] p h = one_not_zero
over_defined (x ∷ xs) p h =
    product_not_zero _ _
    (natural_power_defined (fraction_inverse (of_whole (form_value x.form p))) x.power (product_not_zero _ _ h.0 one_not_zero))
    (over_defined xs p h.1)

pub proper_value_defined : (f : ProperTerm) (p : Point) → HasFractions f → IsDefinedAt f p → IsDefined (proper_value f p)
proper_value_defined f p t d =
    product_not_zero _ _ t.scale.bottom (product_not_zero _ _ one_not_zero
    (product_not_zero _ _ (whole_power_defined f.n_base p.n t.n_base)
    (product_not_zero _ _ (whole_power_defined f.k_base p.k t.k_base)
    (product_not_zero _ _ (up_defined f.up p d.up)
    (product_not_zero _ _ (down_defined f.down p) (over_defined f.over p d.over))))))
