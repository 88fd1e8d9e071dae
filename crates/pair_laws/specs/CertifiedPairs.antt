-- The claim of a pair that goes with the pieces of a term at the order 1: one multiplier a, and the identity with S = a (p_1 - p_0).
use Rattle.std.specs.Prelude.{◌≡◌, ℕ, [], ◌∷◌}
use Rattle.ring_laws.specs.Meaning.{Meaning}
use Rattle.hypergeometric.specs.Claim.{Claim}
use Rattle.term_pieces.specs.Pieces.{Top, Pieces, top_at}
use Rattle.poly_laws.specs.Values.{level}
use Rattle.division_laws.specs.Polynomials.{constant}
use Rattle.claim_laws.specs.Identity.{poly_difference, poly_product, HasIdentity}
use Rattle.term_pieces.specs.Tops.{top_polynomial}
use Rattle.claim_laws.specs.Certified.{HasPieces}

-- a (p_1 - p_0)
abbrev pub pair_of_tops : (ℕ → Top) → Meaning → Meaning
pair_of_tops top a = poly_product (constant (level 1).ops a) (poly_difference (top_polynomial (top 1)) (top_polynomial (top 0)))

-- the claim has the one multiplier a, goes with the pieces, and meets the identity of a pair
pub record IsCertifiedPair (c : Claim) (a : Meaning) (pieces : Pieces) : Type 0 where
  pub multipliers : c.multipliers ≡ a ∷ []
  pub goes_with : HasPieces c pieces
  pub identity : HasIdentity pieces c (pair_of_tops (top_at pieces) a)
