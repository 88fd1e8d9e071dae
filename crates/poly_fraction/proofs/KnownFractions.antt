-- Fractions and bounds that are known from elsewhere, so that a wrong rule in specs/ does not check.
use Rattle.std.specs.Prelude.{◌≡◌, ◌<◌, ◌-◌, ◌^◌, ℤ, pos, negsuc, List, [], ◌∷◌, map, refl}
use Rattle.std.proofs.Common.{arith, lit<}
use Rattle.std.proofs.lemmas.Int.{ints}
use Rattle.std.proofs.lemmas.Nat.Gcd.{dvd_of_mod-eq-zero}
use Rattle.ring_laws.specs.Meaning.{number, listed}
use Rattle.ring_laws.specs.Wholes.{whole_algebra}
use Rattle.poly_laws.specs.PolyAlgebra.{poly_algebra}
use Rattle.poly_fraction.specs.Fractions.{RingFraction, sum_of_fractions, difference_of_fractions, product_of_fractions, AreSame, FractionSumInBounds, FractionProductInBounds, CrossProductsInBounds}
use Rattle.poly_fraction.specs.FractionAnswer.{ProductsInBounds}
use Rattle.poly_fraction.specs.LowestTerms.{IsInLowestTerms}

abbrev of_numbers : ℤ → ℤ → RingFraction
of_numbers top bottom = record { top = number top; bottom = number bottom }

abbrev of_lists : List ℤ → List ℤ → RingFraction
of_lists top bottom = record { top = listed (map number top); bottom = listed (map number bottom) }

-- 1/2 + 1/3 = 5/6, 1/2 - 1/3 = 1/6, 1/3 - 1/2 = -1/6, 1/2 * 2/3 = 2/6
known_results :
    (sum_of_fractions whole_algebra.ops (of_numbers (pos 1) (pos 2)) (of_numbers (pos 1) (pos 3)) ≡ of_numbers (pos 5) (pos 6))
    × (difference_of_fractions whole_algebra.ops (of_numbers (pos 1) (pos 2)) (of_numbers (pos 1) (pos 3)) ≡ of_numbers (pos 1) (pos 6))
    × (difference_of_fractions whole_algebra.ops (of_numbers (pos 1) (pos 3)) (of_numbers (pos 1) (pos 2)) ≡ of_numbers (negsuc 0) (pos 6))
    × (product_of_fractions whole_algebra.ops (of_numbers (pos 1) (pos 2)) (of_numbers (pos 2) (pos 3)) ≡ of_numbers (pos 2) (pos 6))
known_results = (refl, refl, refl, refl)

-- 5/6 and 10/12 are the same
known_same : AreSame whole_algebra.ops (of_numbers (pos 5) (pos 6)) (of_numbers (pos 10) (pos 12))
known_same = refl

-- 1/n - 1/(n + 1) = 1/(n^2 + n)
known_polynomials : difference_of_fractions (poly_algebra whole_algebra).ops
    (of_lists (pos 1 ∷ []) (pos 0 ∷ pos 1 ∷ []))
    (of_lists (pos 1 ∷ []) (pos 1 ∷ pos 1 ∷ []))
    ≡ of_lists (pos 1 ∷ []) (pos 0 ∷ pos 1 ∷ pos 1 ∷ [])
known_polynomials = refl

-- the counterpart of 1/3 - 1/2 on magnitudes is 5 over 6
known_bounds : FractionSumInBounds whole_algebra (of_numbers (pos 1) (pos 3)) (of_numbers (negsuc 0) (pos 2)) → (5 < 2 ^ 127) × (6 < 2 ^ 127)
known_bounds b = (b.top, b.bottom)

too_large : ¬ (2 ^ 127 < 2 ^ 127)
too_large h = omega (arith, h)

-- so it is in bounds; 2^126 + 2^126 and 1/2^64 + 1/2^63 aren't
sum_in : FractionSumInBounds whole_algebra (of_numbers (pos 1) (pos 3)) (of_numbers (negsuc 0) (pos 2))
sum_in = record { top = lit< tt; bottom = lit< tt }

sum_out : ¬ (FractionSumInBounds whole_algebra (of_numbers (pos (2 ^ 126)) (pos 1)) (of_numbers (pos (2 ^ 126)) (pos 1)))
sum_out b = too_large b.top

bottom_out : ¬ (FractionSumInBounds whole_algebra (of_numbers (pos 1) (pos (2 ^ 64))) (of_numbers (pos 1) (pos (2 ^ 63))))
bottom_out b = too_large b.bottom

-- 1/2 * 2/3, and 2^64 * 2^63
product_in : FractionProductInBounds whole_algebra (of_numbers (pos 1) (pos 2)) (of_numbers (pos 2) (pos 3))
product_in = record { top = lit< tt; bottom = lit< tt }

product_out : ¬ (FractionProductInBounds whole_algebra (of_numbers (pos (2 ^ 64)) (pos 1)) (of_numbers (pos (2 ^ 63)) (pos 1)))
product_out b = too_large b.top

-- 5/6 beside 10/12, and 2^126 beside 1/2
cross_in : CrossProductsInBounds whole_algebra (of_numbers (pos 5) (pos 6)) (of_numbers (pos 10) (pos 12))
cross_in = record { left = lit< tt; right = lit< tt }

cross_out : ¬ (CrossProductsInBounds whole_algebra (of_numbers (pos (2 ^ 126)) (pos 1)) (of_numbers (pos 1) (pos 2)))
cross_out b = too_large b.left

-- 2*3 - 4*5, and 2^126 + 2^126, of which one number is negative
products_in : ProductsInBounds whole_algebra (number (pos 2)) (number (pos 3)) (number (negsuc 3)) (number (pos 5))
products_in = lit< tt

products_out : ¬ (ProductsInBounds whole_algebra (number (pos (2 ^ 126))) (number (pos 1)) (number (negsuc (2 ^ 126 - 1))) (number (pos 1)))
products_out b = too_large b

-- 2/6 and -1/-3 aren't in lowest terms
known_common_divisor : ¬ IsInLowestTerms (of_numbers (pos 2) (pos 6))
known_common_divisor h = let e : 2 ≡ 1 = h.coprime 2 (dvd_of_mod-eq-zero 2 refl) (dvd_of_mod-eq-zero 2 refl) in omega (arith, e)

known_negative_bottom : ¬ IsInLowestTerms (of_numbers (negsuc 0) (negsuc 2))
known_negative_bottom h = omega (arith, ints, h.positive)
