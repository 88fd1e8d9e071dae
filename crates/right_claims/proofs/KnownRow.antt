-- A worked row, whole: `zeil 4` on the binomial coefficient lists the order 0 as empty, and then the claim of the order 1.
use Rattle.std.specs.Prelude.{[], ◌∷◌, pos, negsuc}
use Rattle.right_claims.specs.Claims.{found, empty}
use Rattle.right_claims.specs.RightClaims.{ends, goes_on, zeil, AreRightClaims}
use Rattle.right_claims.proofs.KnownEmpty.{empty_at_zero}
use Rattle.right_claims.proofs.KnownFound.{claim, range, found_at_one}
use Rattle.right_claims.proofs.KnownSettings.{binomial, form}

-- with k - n, and then with k - n - 1, in q
known_row : AreRightClaims (zeil 4) binomial (empty 0 (form (pos 0)) ∷ found 1 (form (negsuc 0)) claim range ∷ [])
known_row = goes_on empty_at_zero (ends found_at_one)
