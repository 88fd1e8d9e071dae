-- Claims that are known from elsewhere, so that a wrong identity does not check. First F = n!/(k! (n-k)!), whose sum over k doubles,
--   -2 F(n,k) + F(n+1,k) = G(n,k+1) - G(n,k) with G = -K.
use Rattle.std.proofs.Common.{◌≡◌, ℕ, zero, suc, [], ◌∷◌, refl}
use Rattle.std.specs.Prelude.{ℤ, pos, negsuc, ◌*ℤ◌}
use Rattle.ring_laws.specs.Meaning.{Meaning, number, listed}
use Rattle.hypergeometric.specs.Point.{point}
use Rattle.hypergeometric.specs.Fraction.{Fraction, of_whole, fraction_difference}
use Rattle.hypergeometric.specs.LinearForm.{LinearForm, Factor, FactorList}
use Rattle.hypergeometric.specs.ProperTerm.{ProperTerm, proper_value}
use Rattle.hypergeometric.specs.Claim.{Claim, certificate, left_side}
use Rattle.hypergeometric.specs.FactorLists.{factor_with}
use Rattle.hypergeometric.specs.Forms.{form_with}
use Rattle.term_pieces.specs.Pieces.{Top, Pieces, carrier_of}
use Rattle.claim_laws.specs.Identity.{sum_of_tops, list_at_k_plus, HasIdentity}

abbrev form_k : LinearForm
form_k = form_with (pos 0) (pos 1) (pos 0)

abbrev one : Meaning
one = listed (listed (number (pos 1) ∷ []) ∷ [])

-- n!/(k! (n-k)!)
abbrev binomial : ProperTerm
binomial = record {
  poly = one;
  scale = of_whole (pos 1);
  n_base = of_whole (pos 1);
  k_base = of_whole (pos 1);
  up = factor_with (form_with (pos 1) (pos 0) (pos 0)) 1 ∷ [];
  down = factor_with form_k 1 ∷ factor_with (form_with (pos 1) (negsuc 0) (pos 0)) 1 ∷ [];
  over = [];
  guard = [];
}

abbrev list_with : ℤ → Factor → FactorList
list_with scale factor = record { scale = scale; factors = factor ∷ [] }

-- k - n - 1
abbrev falling : Factor
falling = factor_with (form_with (negsuc 0) (pos 1) (negsuc 0)) 1

-- p_0 = n - k + 1 and p_1 = n + 1
abbrev top : ℕ → Top
top zero = record { poly = one; factors = list_with (negsuc 0) falling }
top (suc j) = record { poly = one; factors = list_with (pos 1) (factor_with (form_with (pos 1) (pos 0) (pos 1)) 1) }

-- q0 = n - k + 1 and r0 = k + 1
abbrev pieces : Pieces
pieces = record {
  tops = top 0 ∷ top 1 ∷ [];
  q0 = list_with (negsuc 0) falling;
  r0 = list_with (pos 1) (factor_with (form_with (pos 0) (pos 1) (pos 1)) 1);
  carrier = carrier_of binomial 1;
}

abbrev claim : Claim
claim = record {
  multipliers = listed (number (negsuc 1) ∷ []) ∷ listed (number (pos 1) ∷ []) ∷ [];
  carrier = carrier_of binomial 1;
  y = listed (listed (number (negsuc 0) ∷ []) ∷ []);
  poles = [];
  ratio_top = list_with (pos 1) (factor_with form_k 1);
  ratio_bottom = list_with (negsuc 0) falling;
}

-- the identity, as polynomials
pub identity : HasIdentity pieces claim (sum_of_tops top claim.multipliers 0)
identity = refl

-- r0(k - 1) is k
pub ratio : list_at_k_plus (negsuc 0) pieces.r0 ≡ claim.ratio_top
ratio = refl

-- F = n!/(k! (n-k)! (k+1)), a claim with two multipliers and a pole: (-2n - 2) F(n,k) + (n + 2) F(n+1,k) with Y = -n - 1 over k
abbrev divided : ProperTerm
divided = record binomial { over = factor_with (form_with (pos 0) (pos 1) (pos 1)) 1 ∷ [] }

-- q0 = (n - k + 1)(k + 1) and r0 = (k + 1)(k + 2); the tops are those above
abbrev divided_pieces : Pieces
divided_pieces = record {
  tops = top 0 ∷ top 1 ∷ [];
  q0 = record { scale = negsuc 0; factors = falling ∷ factor_with (form_with (pos 0) (pos 1) (pos 1)) 1 ∷ [] };
  r0 = record {
    scale = pos 1;
    factors = factor_with (form_with (pos 0) (pos 1) (pos 1)) 1 ∷ factor_with (form_with (pos 0) (pos 1) (pos 2)) 1 ∷ [];
  };
  carrier = carrier_of divided 1;
}

abbrev over_a_pole : Claim
over_a_pole = record {
  multipliers = listed (number (negsuc 1) ∷ number (negsuc 1) ∷ []) ∷ listed (number (pos 2) ∷ number (pos 1) ∷ []) ∷ [];
  carrier = carrier_of divided 1;
  y = listed (listed (number (negsuc 0) ∷ number (negsuc 0) ∷ []) ∷ []);
  poles = factor_with form_k 1 ∷ [];
  ratio_top = record { scale = pos 1; factors = factor_with form_k 1 ∷ factor_with (form_with (pos 0) (pos 1) (pos 1)) 1 ∷ [] };
  ratio_bottom = list_with (negsuc 0) falling;
}

pub identity_over_a_pole : HasIdentity divided_pieces over_a_pole (sum_of_tops top over_a_pole.multipliers 0)
identity_over_a_pole = refl

-- r0(k - 1) is k (k + 1)
pub ratio_over_a_pole : list_at_k_plus (negsuc 0) divided_pieces.r0 ≡ over_a_pole.ratio_top
ratio_over_a_pole = refl

-- the carrier has no denominator left: n!/((k-1)! (n-k+1)!)
pub carrier_over_a_pole : carrier_of divided 1 ≡ carrier_of binomial 1
unfolding lib.IntN.pow lib.IntN.one
carrier_over_a_pole = refl

-- at n = 3 and k = 1 the left side is -8 * 3/2 + 5 * 2 = -2, and G(3,2) - G(3,1) = -6 + 4
abbrev left_at : Fraction
left_at = left_side (proper_value divided) over_a_pole (point (pos 3) (pos 1))

abbrev right_at : Fraction
right_at = fraction_difference (certificate over_a_pole (point (pos 3) (pos 2))) (certificate over_a_pole (point (pos 3) (pos 1)))

pub telescopes_over_a_pole : (left_at.top ≡ negsuc 1 *ℤ left_at.bottom) × (right_at.top ≡ negsuc 1 *ℤ right_at.bottom)
unfolding lib.IntN.pow lib.IntN.one
telescopes_over_a_pole = (refl, refl)
