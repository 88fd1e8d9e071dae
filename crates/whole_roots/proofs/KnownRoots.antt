-- Signs, values, differences and roots that are known from elsewhere, so that a wrong rule in specs/ does not check.
use Rattle.std.specs.Prelude.{◌≡◌, zero, suc, pos, negsuc, ◌^◌, ◌-◌, ◌+◌, ◌<◌, [], ◌∷◌, refl}
use Rattle.std.proofs.Common.{arith, lit<}
use Rattle.ring_laws.specs.Meaning.{Meaning, number, listed}
use Rattle.ring_laws.specs.declared.wholes.Sign.TheVariants.{Negative, Zero, Positive}
use Rattle.whole_roots.specs.Signs.{sign_of, value}
use Rattle.whole_roots.specs.Differences.{difference, iterated_difference, DifferenceInBounds, DifferencesInBounds}
use Rattle.whole_roots.specs.Roots.{IsRoot}
use Rattle.whole_roots.specs.Turns.{greatest, least}

known_signs : (sign_of (negsuc 4) ≡ Negative) × ((sign_of (pos 0) ≡ Zero) × (sign_of (pos 3) ≡ Positive))
known_signs = (refl, (refl, refl))

-- n^2 - 3*n + 2
abbrev square : Meaning
square = listed (number (pos 2) ∷ number (negsuc 2) ∷ number (pos 1) ∷ [])

-- its roots are 1 and 2; at 0 and 3 it is 2
known_values : (IsRoot square (pos 1) ≡ (pos 0 ≡ pos 0))
    × ((IsRoot square (pos 2) ≡ (pos 0 ≡ pos 0)) × ((value square (pos 0) ≡ pos 2) × (value square (pos 3) ≡ pos 2)))
known_values = (refl, (refl, (refl, refl)))

-- its difference is 2*n - 2, and the next one 2
known_differences : (difference square ≡ listed (number (negsuc 1) ∷ number (pos 2) ∷ []))
    × (iterated_difference 2 square ≡ listed (number (pos 2) ∷ []))
known_differences = (refl, refl)

-- the counterpart of its difference is 2*n^2 + 8*n + 8, and that of the next one 4*n + 6
difference_in : DifferenceInBounds square
difference_in zero = lit< tt
difference_in (suc zero) = lit< tt
difference_in (suc (suc zero)) = lit< tt
difference_in (suc (suc (suc k))) = lit< tt

differences_in : DifferencesInBounds square
differences_in zero below k = difference_in k
differences_in (suc zero) below zero = lit< tt
differences_in (suc zero) below (suc zero) = lit< tt
differences_in (suc zero) below (suc (suc k)) = lit< tt
differences_in (suc (suc j)) below k = absurd (omega (arith, below))

-- n - 2^126
abbrev wide : Meaning
wide = listed (number (negsuc (2 ^ 126 - 1)) ∷ number (pos 1) ∷ [])

-- the counterpart of its difference has the constant 1 + 2^126 + 2^126, which passes 127 bits
difference_out : ¬ (DifferenceInBounds wide)
difference_out h = let passed : 2 ^ 127 + 1 < 2 ^ 127 = h 0 in omega (arith, passed)

differences_out : ¬ (DifferencesInBounds wide)
differences_out h = difference_out (h 0 (omega arith))

-- the greatest number and the least
known_ends : (greatest ≡ pos (2 ^ 127 - 1)) × (least ≡ negsuc (2 ^ 127 - 2))
known_ends = (refl, refl)
