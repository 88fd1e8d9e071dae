-- Rows of polynomials that are known from elsewhere, so that a wrong rule in specs/ does not check.
use Rattle.std.specs.Prelude.{◌≡◌, ℕ, zero, suc, ◌<◌, ◌≤◌, pos, negsuc, List, [], ◌∷◌, refl}
use Rattle.std.proofs.Common.{arith}
use Rattle.ring_laws.specs.Meaning.{Meaning, number, listed}
use Rattle.poly_divide.specs.Forms.{linear}
use Rattle.whole_roots.specs.Differences.{polynomials}
use Rattle.reducing.specs.TakenOut.{raised_to, times_row}
use Rattle.reducing.specs.PolynomialRows.{Row, degree, degree_at, IsNonzeroAt, IsLeast, forms, lead_number, polynomial_reduction}

-- n + 1, 1 and 2*n - 2
abbrev form : Meaning
form = linear (pos 1) (pos 1)

abbrev row : Row
row = (listed (number (pos 1) ∷ []), refl) ∷ (listed (number (negsuc 1) ∷ number (pos 2) ∷ []), refl) ∷ []

-- (n + 1)^2 = n^2 + 2*n + 1
known_power : raised_to polynomials.ops form 2 ≡ listed (number (pos 1) ∷ number (pos 2) ∷ number (pos 1) ∷ [])
known_power = refl

-- times 2 and n + 1 the row is 2*n + 2, 4*n^2 - 4
known_row : times_row polynomials (polynomials.ops.product (polynomials.ops.whole (pos 2)) form) row
    ≡ listed (number (pos 2) ∷ number (pos 2) ∷ []) ∷ listed (number (negsuc 3) ∷ number (pos 0) ∷ number (pos 4) ∷ []) ∷ []
known_row = refl

-- n + 1 once and 2*n - 3 twice are two forms
known_forms : forms (((1, pos 1), 1) ∷ ((2, negsuc 2), 2) ∷ []) ≡ form ∷ linear (pos 2) (negsuc 2) ∷ []
known_forms = refl

-- -3*n^2 + 5, 7 and 0
abbrev square : Meaning
square = listed (number (pos 5) ∷ number (pos 0) ∷ number (negsuc 2) ∷ [])

known_degrees : (degree square ≡ 2) × ((degree (listed (number (pos 7) ∷ [])) ≡ 0) × (polynomial_reduction.weight (listed []) ≡ 0))
known_degrees = (refl, (refl, refl))

known_leads : (lead_number square ≡ negsuc 2) × (lead_number (listed []) ≡ pos 0)
known_leads = (refl, refl)

-- of -3*n^2 + 5, 0, n + 1 and 2*n - 3 the third is the first of least degree
abbrev entries : List Meaning
entries = square ∷ listed [] ∷ form ∷ linear (pos 2) (negsuc 2) ∷ []

known_least : IsLeast entries 2
known_least = record { within = omega arith; nonzero = refl; least = least_of; first = first_of }
  where
    least_of : (k : ℕ) → k < 4 → IsNonzeroAt entries k → degree_at entries 2 ≤ degree_at entries k
    least_of zero b h = omega arith
    least_of (suc zero) b h = cc
    least_of (suc (suc zero)) b h = omega arith
    least_of (suc (suc (suc zero))) b h = omega arith
    least_of (suc (suc (suc (suc k)))) b h = absurd (omega (arith, b))

    first_of : (k : ℕ) → k < 2 → IsNonzeroAt entries k → degree_at entries 2 < degree_at entries k
    first_of zero b h = omega arith
    first_of (suc zero) b h = cc
    first_of (suc (suc k)) b h = absurd (omega (arith, b))
