-- Sums, products and bounds of whole numbers that are known from elsewhere, so that a wrong rule in specs/ does not check.
use Rattle.std.specs.Prelude.{◌≡◌, ◌<◌, ◌^◌, pos, negsuc, [], ◌∷◌, false, true, refl}
use Rattle.ring_laws.specs.Meaning.{number, listed, items}
use Rattle.ring_laws.specs.Wholes.{whole_algebra}

-- -3 + 5 = 2, -3 * 5 = -15, |-3| = 3
known_results :
    (whole_algebra.ops.sum (number (negsuc 2)) (number (pos 5)) ≡ number (pos 2))
    × (whole_algebra.ops.product (number (negsuc 2)) (number (pos 5)) ≡ number (negsuc 14))
    × (whole_algebra.ops.magnitude (number (negsuc 2)) ≡ number (pos 3))
known_results = (refl, refl, refl)

-- what fits is below 2^127 in magnitude, and -2^126 and 2^126 have magnitudes of sum 2^127
known_bounds :
    (whole_algebra.ops.Fits (number (pos 7)) ≡ (7 < 2 ^ 127))
    × (whole_algebra.ops.Fits (whole_algebra.ops.sum (number (pos (2 ^ 126))) (number (pos (2 ^ 126)))) ≡ (2 ^ 127 < 2 ^ 127))
known_bounds = (refl, refl)

-- a number belongs to the whole numbers, and a list doesn't
known_meanings : (whole_algebra.passes (number (negsuc 2)) ≡ true) × (whole_algebra.passes (listed (number (pos 1) ∷ [])) ≡ false)
known_meanings = (refl, refl)

-- the items of a list of meanings are that list
known_items : items (listed (number (pos 1) ∷ number (pos 2) ∷ [])) ≡ number (pos 1) ∷ number (pos 2) ∷ []
known_items = refl
