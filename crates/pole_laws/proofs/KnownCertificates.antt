-- Certificates at points that are known from elsewhere, so that a wrong rule in specs/ does not check.
use Rattle.std.specs.Prelude.{◌≡◌, ℕ, zero, suc, pos, negsuc, List, [], ◌∷◌, refl}
use Rattle.ring_laws.specs.Meaning.{Meaning, number, listed}
use Rattle.poly_laws.specs.Values.{level}
use Rattle.kernel_laws.specs.Rows.{entry_at}
use Rattle.hypergeometric.specs.Point.{point}
use Rattle.hypergeometric.specs.LinearForm.{FactorList}
use Rattle.hypergeometric.specs.ProperTerm.{ProperTerm}
use Rattle.hypergeometric.specs.FactorLists.{factor_with}
use Rattle.hypergeometric.specs.Forms.{form_with}
use Rattle.term_pieces.specs.Pieces.{Top}
use Rattle.pole_laws.specs.Orders.{tops_of, pair_top}
use Rattle.pole_laws.specs.CertificateValues.{HoldsAt}

-- a number and n + 1, and polynomials in k over those in n
abbrev in_n : ℕ → Meaning
in_n m = listed (number (pos m) ∷ [])

abbrev after_n : Meaning
after_n = listed (number (pos 1) ∷ number (pos 1) ∷ [])

-- n - k + 1 and n + 1
abbrev tops : List Meaning
tops = listed (after_n ∷ listed (number (negsuc 0) ∷ []) ∷ []) ∷ listed (after_n ∷ []) ∷ []

-- binomial(n,k) at the order 1, at n = 5 and k = 2: 4*(-1) - 2*(-1) = -2*4 + 6
known_point : HoldsAt (listed (after_n ∷ listed (number (negsuc 0) ∷ []) ∷ [])) (listed (in_n 1 ∷ in_n 1 ∷ [])) tops
    (listed (listed (number (negsuc 0) ∷ []) ∷ [])) (λ j. entry_at (level 1).ops (listed (number (negsuc 1) ∷ []) ∷ in_n 1 ∷ []) j)
    (listed (in_n 1 ∷ [])) (point (pos 5) (pos 2))
known_point = refl

-- binomial(n,k)/(k+1) at the order 1, with two multipliers and a pole, at n = 4 and k = 2: 9*(-5)*2 - 6*(-5)*3 = (-10*3 + 6*5)*2*3
known_point_over_a_pole : HoldsAt (listed (after_n ∷ listed (number (pos 0) ∷ number (pos 1) ∷ []) ∷ listed (number (negsuc 0) ∷ []) ∷ []))
    (listed (in_n 2 ∷ in_n 3 ∷ in_n 1 ∷ [])) tops (listed (listed (number (negsuc 0) ∷ number (negsuc 0) ∷ []) ∷ []))
    (λ j. entry_at (level 1).ops (listed (number (negsuc 1) ∷ number (negsuc 1) ∷ []) ∷ listed (number (pos 2) ∷ number (pos 1) ∷ []) ∷ []) j)
    (listed (listed [] ∷ in_n 1 ∷ [])) (point (pos 4) (pos 2))
known_point_over_a_pole = refl

-- the one polynomial of a pair of n!/(k! (n-k)!): p_1 - p_0 = (n + 1) - (n - k + 1) = k
abbrev top : ℕ → Top
top zero = record {
  poly = listed (in_n 1 ∷ []);
  factors = record { scale = negsuc 0; factors = factor_with (form_with (negsuc 0) (pos 1) (negsuc 0)) 1 ∷ [] };
}
top (suc j) = record {
  poly = listed (in_n 1 ∷ []);
  factors = record { scale = pos 1; factors = factor_with (form_with (pos 1) (pos 0) (pos 1)) 1 ∷ [] };
}

-- the two polynomials of the order 1
known_tops : (carrier : ProperTerm) (q0 r0 : FactorList)
    → tops_of (record { tops = top 0 ∷ top 1 ∷ []; q0 = q0; r0 = r0; carrier = carrier }) 1 ≡ tops
known_tops carrier q0 r0 = refl

known_pair : (carrier : ProperTerm) (q0 r0 : FactorList)
    → pair_top (record { tops = top 0 ∷ top 1 ∷ []; q0 = q0; r0 = r0; carrier = carrier }) ≡ listed (listed [] ∷ in_n 1 ∷ []) ∷ []
known_pair carrier q0 r0 = refl
