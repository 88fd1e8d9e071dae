-- A claim that goes with the pieces of a term at an order: a multiplier for each of n, .., n + J, the pieces' carrier, the ratio of the pieces,
-- and the identity of polynomials.
use Rattle.std.specs.Prelude.{◌≡◌, ℕ, suc, negsuc, length}
use Rattle.hypergeometric.specs.Claim.{Claim}
use Rattle.term_pieces.specs.Pieces.{Pieces, top_at}
use Rattle.claim_laws.specs.Identity.{list_at_k_plus, sum_of_tops, HasIdentity}

-- the carrier of the pieces, and the ratio R = G / F: above the list of r0(k-1), below that of p_0, without the polynomial of the term
pub record HasPieces (c : Claim) (pieces : Pieces) : Type 0 where
  pub carrier : c.carrier ≡ pieces.carrier
  pub ratio_top : c.ratio_top ≡ list_at_k_plus (negsuc 0) pieces.r0
  pub ratio_bottom : c.ratio_bottom ≡ (top_at pieces 0).factors

-- the claim has a multiplier for each of n, .., n + J, goes with the pieces, and meets the identity
pub record IsCertified (c : Claim) (pieces : Pieces) (order : ℕ) : Type 0 where
  pub count : length c.multipliers ≡ suc order
  pub goes_with : HasPieces c pieces
  pub identity : HasIdentity pieces c (sum_of_tops (top_at pieces) c.multipliers 0)
