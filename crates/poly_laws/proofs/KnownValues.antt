-- Values and products of polynomials that are known from elsewhere, so that a wrong rule in specs/ does not check.
use Rattle.std.specs.Prelude.{◌≡◌, pos, negsuc, [], ◌∷◌, refl}
use Rattle.ring_laws.specs.Meaning.{Meaning, number, listed}
use Rattle.ring_laws.specs.Wholes.{whole_algebra}
use Rattle.poly_laws.specs.PolyAlgebra.{poly_algebra}
use Rattle.poly_laws.specs.Values.{value_at}
use Rattle.poly_laws.specs.Shift.{poly_shift, inner_shift}

-- n^2 + 1
abbrev square_and_one : Meaning
square_and_one = listed (number (pos 1) ∷ number (pos 0) ∷ number (pos 1) ∷ [])

-- 2*k^3 - 3*k^2 + k
abbrev cubic : Meaning
cubic = listed (number (pos 0) ∷ number (pos 1) ∷ number (negsuc 2) ∷ number (pos 2) ∷ [])

-- k^2 + n, where k is the outermost variable
abbrev square_and_n : Meaning
square_and_n = listed (listed (number (pos 0) ∷ number (pos 1) ∷ []) ∷ listed [] ∷ listed (number (pos 1) ∷ []) ∷ [])

-- c + n
abbrev line : Meaning → Meaning
line c = listed (c ∷ number (pos 1) ∷ [])

-- 3^2 + 1 = 10
square_at_3 : value_at (pos 3 ∷ []) square_and_one ≡ pos 10
square_at_3 = refl

-- 16 - 12 + 2 = 6, -2 - 3 - 1 = -6, and a number of 19 digits
cubic_at_2 : value_at (pos 2 ∷ []) cubic ≡ pos 6
cubic_at_2 = refl

cubic_at_minus_1 : value_at (negsuc 0 ∷ []) cubic ≡ negsuc 5
cubic_at_minus_1 = refl

cubic_at_a_million : value_at (pos 1000000 ∷ []) cubic ≡ pos 1999997000001000000
cubic_at_a_million = refl

-- the first value is that of k: 2^2 + 5 = 9 and 5^2 + 2 = 27
square_and_n_at : (value_at (pos 2 ∷ pos 5 ∷ []) square_and_n ≡ pos 9) × (value_at (pos 5 ∷ pos 2 ∷ []) square_and_n ≡ pos 27)
square_and_n_at = (refl, refl)

-- (n + 1)*(n - 1) = n^2 - 1
difference_of_squares :
    (poly_algebra whole_algebra).ops.product (line (number (pos 1))) (line (number (negsuc 0)))
    ≡ listed (number (negsuc 0) ∷ number (pos 0) ∷ number (pos 1) ∷ [])
difference_of_squares = refl

-- (n + 1) - (n - 1) = 2, a list of one number
cancelled :
    (poly_algebra whole_algebra).ops.sum (line (number (pos 1))) ((poly_algebra whole_algebra).ops.neg (line (number (negsuc 0))))
    ≡ listed (number (pos 2) ∷ [])
cancelled = refl

-- |n - 1| = n + 1
magnitude_of_a_line : (poly_algebra whole_algebra).ops.magnitude (line (number (negsuc 0))) ≡ line (number (pos 1))
magnitude_of_a_line = refl

-- (n + 1)^2 = n^2 + 2*n + 1
square_shifted :
    poly_shift whole_algebra.ops (pos 1) (listed (number (pos 0) ∷ number (pos 0) ∷ number (pos 1) ∷ []))
    ≡ listed (number (pos 1) ∷ number (pos 2) ∷ number (pos 1) ∷ [])
square_shifted = refl

-- k^2 + n at n + 3 is k^2 + n + 3
inner_shifted :
    inner_shift whole_algebra.ops (pos 3) square_and_n
    ≡ listed (listed (number (pos 3) ∷ number (pos 1) ∷ []) ∷ listed [] ∷ listed (number (pos 1) ∷ []) ∷ [])
inner_shifted = refl
