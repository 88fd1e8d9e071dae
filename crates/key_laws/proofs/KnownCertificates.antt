-- Certificates of terms that are known from elsewhere, so that a wrong identity or wrong rows in specs/ do not check.
use Rattle.std.specs.Prelude.{◌≡◌, ℕ, pos, negsuc, List, [], ◌∷◌, None, refl}
use Rattle.std.proofs.Common.{arith}
use Rattle.ring_laws.specs.Meaning.{Meaning, number, listed}
use Rattle.poly_laws.specs.Values.{level}
use Rattle.poly_laws.proofs.Equal.{level_laws}
use Rattle.kernel_laws.specs.Rows.{entry_at}
use Rattle.division_laws.specs.Polynomials.{Polynomial}
use Rattle.key_laws.specs.KeyEquation.{KeyEquation}
use Rattle.key_laws.specs.DegreeBounds.{IsDegreeBound}
use Rattle.key_laws.specs.KeyRows.{key_rows}
use Rattle.key_laws.specs.Certificates.{CertificateIdentity}
use Rattle.key_laws.proofs.Degrees.{greatest_degree}
use Rattle.key_laws.proofs.FindingBounds.{bound_by_degrees}
use Rattle.key_laws.proofs.OneBound.{one_degree}

-- polynomials in n: a number, two numbers c_0 + c_1 n
abbrev in_n : ℕ → Meaning
in_n m = listed (number (pos m) ∷ [])

abbrev minus : ℕ → Meaning
minus m = listed (number (negsuc m) ∷ [])

abbrev after_n : Meaning
after_n = listed (number (pos 1) ∷ number (pos 1) ∷ [])

-- polynomials in k over those in n
abbrev one : Meaning
one = listed (in_n 1 ∷ [])

abbrev k : Meaning
k = listed (listed [] ∷ in_n 1 ∷ [])

abbrev multipliers_of : List Meaning → ℕ → Meaning
multipliers_of list j = entry_at (level 1).ops list j

-- binomial(n,k) at the order 1: q0 = n - k + 1, r0 = k + 1, p_0 = n - k + 1, p_1 = n + 1; -2 F(n,k) + F(n+1,k) with Y = -1 and no poles
abbrev falling : Meaning
falling = listed (after_n ∷ minus 0 ∷ [])

abbrev rising : Meaning
rising = listed (in_n 1 ∷ in_n 1 ∷ [])

abbrev tops : List Meaning
tops = falling ∷ listed (after_n ∷ []) ∷ []

known_equation : KeyEquation (level 1).ops falling rising tops (listed (minus 0 ∷ [])) (multipliers_of (minus 1 ∷ in_n 1 ∷ []))
known_equation = refl

known_sum : CertificateIdentity (level 1).ops falling rising tops (listed (minus 0 ∷ [])) (multipliers_of (minus 1 ∷ in_n 1 ∷ [])) one
known_sum = refl

-- 1/(k(k+1)): q0 = k(k+1), r0 = (k+1)(k+2), q = k, r = k + 2, and with a = 1 and Y = -1 the pole k is left: the sum is -1/k
known_pole : CertificateIdentity (level 1).ops (listed (listed [] ∷ in_n 1 ∷ in_n 1 ∷ [])) (listed (in_n 2 ∷ in_n 3 ∷ in_n 1 ∷ [])) (one ∷ [])
    (listed (minus 0 ∷ [])) (λ j. in_n 1) k
known_pole = refl

known_reduced : KeyEquation (level 1).ops k (listed (in_n 2 ∷ in_n 1 ∷ [])) (one ∷ []) (listed (minus 0 ∷ [])) (λ j. in_n 1)
known_reduced = refl

-- binomial(n,k)^2 at the order 1, with the squares of all these: (-4n - 2) F(n,k) + (n + 1) F(n+1,k) with Y = 2k - 3n - 3
known_squares : CertificateIdentity (level 1).ops
    (listed (listed (number (pos 1) ∷ number (pos 2) ∷ number (pos 1) ∷ []) ∷ listed (number (negsuc 1) ∷ number (negsuc 1) ∷ []) ∷ in_n 1 ∷ []))
    (listed (in_n 1 ∷ in_n 2 ∷ in_n 1 ∷ []))
    (listed (listed (number (pos 1) ∷ number (pos 2) ∷ number (pos 1) ∷ []) ∷ listed (number (negsuc 1) ∷ number (negsuc 1) ∷ []) ∷ in_n 1 ∷ [])
    ∷ listed (listed (number (pos 1) ∷ number (pos 2) ∷ number (pos 1) ∷ []) ∷ []) ∷ [])
    (listed (listed (number (negsuc 2) ∷ number (negsuc 2) ∷ []) ∷ in_n 2 ∷ []))
    (multipliers_of (listed (number (negsuc 1) ∷ number (negsuc 3) ∷ []) ∷ after_n ∷ [])) one
known_squares = refl

-- binomial(n,k)/(k+1) at the order 1, with two multipliers and a pole: q0 = (n - k + 1)(k + 1), r0 = (k + 1)(k + 2), p_0 and p_1 as above;
-- (-2n - 2) F(n,k) + (n + 2) F(n+1,k) with Y = -n - 1 over k
known_two_over_a_pole : CertificateIdentity (level 1).ops
    (listed (after_n ∷ listed (number (pos 0) ∷ number (pos 1) ∷ []) ∷ minus 0 ∷ []))
    (listed (in_n 2 ∷ in_n 3 ∷ in_n 1 ∷ [])) tops
    (listed (listed (number (negsuc 0) ∷ number (negsuc 0) ∷ []) ∷ []))
    (multipliers_of (listed (number (negsuc 1) ∷ number (negsuc 1) ∷ []) ∷ listed (number (pos 2) ∷ number (pos 1) ∷ []) ∷ [])) k
known_two_over_a_pole = refl

-- binomial(n,k)^3 at the order 0: q = (n - k)^3, r(k-1) = k^3 and the one side 1. The leading coefficients -1 and 1 differ, so there is no bound,
-- Y has no coefficient, and the one row is that of the multiplier
abbrev cube : Meaning
cube = listed (listed (number (pos 0) ∷ number (pos 0) ∷ number (pos 0) ∷ number (pos 1) ∷ [])
    ∷ listed (number (pos 0) ∷ number (pos 0) ∷ number (negsuc 2) ∷ []) ∷ listed (number (pos 0) ∷ number (pos 3) ∷ []) ∷ minus 0 ∷ [])

abbrev k_cubed : Meaning
k_cubed = listed (listed [] ∷ listed [] ∷ listed [] ∷ in_n 1 ∷ [])

known_franel_rows : key_rows (level 1).ops cube k_cubed 0 (one ∷ []) ≡ (minus 0 ∷ []) ∷ []
known_franel_rows = refl

abbrev cube_in : Polynomial (level 1)
cube_in = (cube, refl)

abbrev k_cubed_in : Polynomial (level 1)
k_cubed_in = (k_cubed, refl)

abbrev one_in : Polynomial (level 1)
one_in = (one, refl)

known_franel_bound : IsDegreeBound (level 1).ops cube k_cubed (one ∷ []) None
known_franel_bound = record {
  degree = 3;
  is_degree = greatest_degree (level 1) (level_laws 1) (cube_in ∷ k_cubed_in ∷ []) 3 refl;
  bounds = bound_by_degrees (level 1).ops cube k_cubed (one ∷ []) 3 (λ e. cc) None
      (λ d e g p. omega (arith, p, one_degree (level 1).ops (one ∷ []) d 0 g (greatest_degree (level 1) (level_laws 1) (one_in ∷ []) 0 refl)));
}

-- with one coefficient of Y, a row for each power of k from k^3 down: n^3 - 3n^2 k + 3n k^2 - 2k^3, and the side in the last
known_franel_column : key_rows (level 1).ops cube k_cubed 1 (one ∷ [])
    ≡ (minus 1 ∷ listed [] ∷ []) ∷ (listed (number (pos 0) ∷ number (pos 3) ∷ []) ∷ listed [] ∷ [])
    ∷ (listed (number (pos 0) ∷ number (pos 0) ∷ number (negsuc 2) ∷ []) ∷ listed [] ∷ [])
    ∷ (listed (number (pos 0) ∷ number (pos 0) ∷ number (pos 0) ∷ number (pos 1) ∷ []) ∷ minus 0 ∷ []) ∷ []
known_franel_column = refl
