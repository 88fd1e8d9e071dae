-- Divisors and degrees that are known from elsewhere, so that a wrong rule in specs/ does not check.
use Rattle.std.specs.Prelude.{ℕ, zero, suc, ◌<◌, pos, negsuc, List, [], ◌∷◌, refl}
use Rattle.std.proofs.Common.{◌≡◌, arith}
use Rattle.ring_laws.specs.Meaning.{Meaning, number, listed}
use Rattle.ring_laws.specs.Wholes.{whole_algebra}
use Rattle.division_laws.specs.Polynomials.{Polynomial, at_next, at_previous, coefficient_of, coefficient_before, constant}
use Rattle.division_laws.specs.Divisors.{HasDegree, Divides}

abbrev n : ℕ → Meaning
n m = number (pos m)

abbrev minus : ℕ → Meaning
minus m = number (negsuc m)

abbrev polynomial_with : List Meaning → Meaning
polynomial_with numbers = listed numbers

-- 2, k - 1, 2k + 2 and k^2 - 1
abbrev two : Polynomial whole_algebra
two = (polynomial_with (n 2 ∷ []), refl)

abbrev before_k : Polynomial whole_algebra
before_k = (polynomial_with (minus 0 ∷ n 1 ∷ []), refl)

abbrev twice_next : Polynomial whole_algebra
twice_next = (polynomial_with (n 2 ∷ n 2 ∷ []), refl)

abbrev square_less_one : Polynomial whole_algebra
square_less_one = (polynomial_with (minus 0 ∷ n 0 ∷ n 1 ∷ []), refl)

two_is_free : HasDegree whole_algebra two 0
two_is_free = record { lead = λ e. cc; above = none }
  where
    none : (i : ℕ) → 0 < i → coefficient_of whole_algebra.ops (polynomial_with (n 2 ∷ [])) i ≡ n 0
    none zero b = absurd (omega (arith, b))
    none (suc i) b = refl

-- 2k + 2 divides k^2 - 1 up to the factor 2: 2 (k^2 - 1) = (2k + 2)(k - 1)
known_divisor : Divides whole_algebra twice_next square_less_one
known_divisor = record { factor = two; free = two_is_free; quotient = before_k; is = refl }

-- k^2 at k + 1 and at k - 1, the coefficients of k - 1 at k^1 and before it, and a number as a polynomial
known_shifts : (at_next whole_algebra.ops (polynomial_with (n 0 ∷ n 0 ∷ n 1 ∷ [])) ≡ polynomial_with (n 1 ∷ n 2 ∷ n 1 ∷ []))
    × (at_previous whole_algebra.ops (polynomial_with (n 0 ∷ n 0 ∷ n 1 ∷ [])) ≡ polynomial_with (n 1 ∷ minus 1 ∷ n 1 ∷ []))
known_shifts = (refl, refl)

known_coefficients : (coefficient_of whole_algebra.ops before_k.0 1 ≡ n 1) × (coefficient_before whole_algebra.ops before_k.0 1 ≡ minus 0)
    × (coefficient_before whole_algebra.ops before_k.0 0 ≡ n 0) × (constant whole_algebra.ops (n 0) ≡ listed [])
known_coefficients = (refl, refl, refl, refl)
