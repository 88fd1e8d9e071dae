-- Texts of polynomials that are known, so that a wrong rule of spelling does not check.
use Rattle.std.specs.Prelude.{◌≡◌, ◌^◌, ℤ, codes, pos, negsuc, [], ◌∷◌}
use Rattle.std.specs.Fmt.{digits}
use Rattle.std.proofs.Common.{refl, arith, lit<, lit≤}
use Rattle.ring_laws.specs.Meaning.{Meaning, number, listed}
use Rattle.poly_laws.specs.Values.{level}
use Rattle.hypergeometric.specs.TermFacts.{IsPolynomial}
use Rattle.polynomial_sums.specs.PolynomialSums.{letter_n, letter_k, letter_x, in_n, in_n_k, in_n_k_x, polynomials, times, IsFree, AreDistinct, HasLetters}
use Rattle.polynomial_sums.proofs.Levels.{whole_has_letters, poly_has_letters, is_polynomial}

-- a number as a coefficient in n
abbrev c : ℤ → Meaning
c z = listed (number z ∷ [])

abbrev nought : Meaning
nought = listed []

known_nought : (polynomials in_n_k).text nought ≡ codes "0"
known_nought = refl

-- the sum of the squares below k, six times
known_in_k : (polynomials in_n_k).text (listed (nought ∷ c (pos 1) ∷ c (negsuc 2) ∷ c (pos 2) ∷ [])) ≡ codes "2*k^3-3*k^2+k"
unfolding digits
known_in_k = refl

-- by the power of k first, then of n
known_in_n_k : (polynomials in_n_k).text (listed (listed (number (negsuc 2) ∷ []) ∷ listed (number (pos 8) ∷ number (negsuc 0) ∷ number (pos 4) ∷ [])
    ∷ nought ∷ listed (number (pos 0) ∷ number (pos 1) ∷ []) ∷ [])) ≡ codes "n*k^3+4*n^2*k-n*k+8*k-3"
unfolding digits
known_in_n_k = refl

-- (k - x)*(n + x)
known_in_n_k_x : (polynomials in_n_k_x).text (listed (
    listed (listed (number (pos 0) ∷ number (pos 0) ∷ number (negsuc 0) ∷ []) ∷ listed (number (pos 0) ∷ number (negsuc 0) ∷ []) ∷ [])
    ∷ listed (listed (number (pos 0) ∷ number (pos 1) ∷ []) ∷ listed (number (pos 1) ∷ []) ∷ [])
    ∷ [])) ≡ codes "n*k+k*x-n*x-x^2"
unfolding digits
known_in_n_k_x = refl

known_in_n : (polynomials in_n).text (listed (number (pos 1) ∷ number (negsuc 2) ∷ number (pos 1) ∷ [])) ≡ codes "n^2-3*n+1"
unfolding digits
known_in_n = refl

-- 0 is a polynomial in n and k; a number isn't one, and 2^127 isn't one without letters
known_polynomial : IsPolynomial 2 nought
known_polynomial = is_polynomial 2 (level 2) letters_of_level_2 nought refl (lit≤ tt, λ k. (lit≤ tt, λ j. lit< tt))
  where
    letters_of_level_2 : HasLetters 2 (level 2)
    letters_of_level_2 = poly_has_letters 1 (level 1) (poly_has_letters 0 (level 0) whole_has_letters)

known_number : ¬ IsPolynomial 2 (number (pos 0))
known_number h = let e = h.passes in cc

known_too_large : ¬ IsPolynomial 0 (number (pos (2 ^ 127)))
known_too_large h = omega (arith, h.fits)

-- a ring has one number of letters
known_letters : ¬ HasLetters 0 (level 1)
known_letters h = let e = h.passes (number (pos 0)) in cc

-- 7*k^3 times n^2*x
known_times : times (record { coefficient = pos 1; n_power = 2; k_power = 0; x_power = 1 })
    (record { coefficient = pos 7; n_power = 0; k_power = 3; x_power = 0 }) ≡ record { coefficient = pos 7; n_power = 2; k_power = 3; x_power = 1 }
known_times = refl

-- k^3 has no n and x, and has k; k and k are not distinct
known_free : IsFree (letter_n ∷ letter_x ∷ []) (record { coefficient = pos 7; n_power = 0; k_power = 3; x_power = 0 })
known_free = (refl, (refl, tt))

known_not_free : ¬ IsFree (letter_k ∷ []) (record { coefficient = pos 7; n_power = 0; k_power = 3; x_power = 0 })
known_not_free h = omega (arith, h.0)

known_not_distinct : ¬ AreDistinct (letter_k ∷ letter_k ∷ [])
known_not_distinct h = h.0.0 refl
