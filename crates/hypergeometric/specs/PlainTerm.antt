-- Terms without factorials, denominators and bases: a whole scale times a polynomial, and their claims with one multiplier.
use Rattle.std.specs.Prelude.{ℤ, pos, [], ◌∷◌}
use Rattle.ring_laws.specs.Meaning.{Meaning}
use Rattle.poly_laws.specs.Values.{level}
use Rattle.hypergeometric.specs.Fraction.{of_whole}
use Rattle.hypergeometric.specs.LinearForm.{FactorList}
use Rattle.hypergeometric.specs.ProperTerm.{ProperTerm}
use Rattle.hypergeometric.specs.Claim.{Claim}

-- the proper term that is a whole scale times a polynomial in k over those in n
abbrev pub plain_term : ℤ → Meaning → ProperTerm
plain_term scale poly = record {
  poly = poly;
  scale = of_whole scale;
  n_base = of_whole (pos 1);
  k_base = of_whole (pos 1);
  up = [];
  down = [];
  over = [];
  guard = [];
}

-- the number 1 as a list of factors
abbrev pub unit_list : FactorList
unit_list = record { scale = pos 1; factors = [] }

-- a * F(n,k) = G(n,k+1) - G(n,k) with G = scale * Y
abbrev pub plain_claim : ℤ → ℤ → Meaning → Claim
plain_claim a scale y = record {
  multipliers = (level 1).ops.whole a ∷ [];
  carrier = plain_term scale (level 2).ops.unit;
  y = y;
  poles = [];
  ratio_top = unit_list;
  ratio_bottom = unit_list;
}
