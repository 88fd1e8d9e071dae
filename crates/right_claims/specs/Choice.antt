-- What the choice among the solutions is good for: the last multiplier that isn't zero stands as early as it can, nothing common is left in the
-- multipliers and Y, and no pole goes with Y.
use Rattle.std.specs.Prelude.{ℕ, ◌<◌, ◌≤◌, ℤ, pos, ◌<ℤ◌, List, length, ⊤}
use Rattle.std.specs.List.{AllByRecursion}
use Rattle.ring_laws.specs.Meaning.{Meaning}
use Rattle.poly_laws.specs.Values.{level}
use Rattle.kernel_laws.specs.Rows.{entry_at}
use Rattle.kernel_laws.specs.Kernels.{EndsAt}
use Rattle.key_laws.specs.CommonDivisors.{IsCommonDivisor}
use Rattle.key_laws.specs.Solutions.{NoSolutionEnds}
use Rattle.poly_divide.specs.Forms.{linear}
use Rattle.whole_roots.specs.LinearFactors.{IsProfileForm}
use Rattle.reducing.specs.PolynomialRows.{lead_number}
use Rattle.hypergeometric.specs.LinearForm.{LinearForm}
use Rattle.hypergeometric.specs.ProperTerm.{ProperTerm}
use Rattle.hypergeometric.specs.Claim.{Claim}
use Rattle.hypergeometric.specs.FactorLists.{power_of}
use Rattle.term_pieces.specs.Pieces.{Pieces, ArePiecesOf}
use Rattle.term_pieces.specs.NormalForm.{Normal, IsNormalFormOf}
use Rattle.pole_laws.specs.Orders.{sides_of, tops_of, pair_top}
use Rattle.right_claims.specs.Claims.{TermClaim, found, empty, pair, no_pair}
use Rattle.right_claims.specs.Cancelling.{Divides}
use Rattle.right_claims.specs.KeySolutions.{q_of, b_of}

-- no whole number above 1 and no form u*n + v, with u from 1 to 4 and prime to v, divides each multiplier and each coefficient of Y
pub record IsReduced (count : ℕ) (multipliers : ℕ → Meaning) (y : Meaning) : Type 0 where
  pub numbers : (c : ℕ) → 1 < c → ¬ (IsCommonDivisor (level 1) count multipliers y ((level 1).ops.whole (pos c)))
  pub forms : (u : ℕ) (v : ℤ) → IsProfileForm u v → ¬ (IsCommonDivisor (level 1) count multipliers y (linear (pos u) v))

-- the last multiplier that isn't zero has a positive leading coefficient, and no solution of the key equation has it earlier
pub record IsLeastMultiplier (normal : Normal) (tops : List Meaning) (c : Claim) (last : ℕ) : Type 0 where
  pub ends : EndsAt (level 1).ops (length c.multipliers) (entry_at (level 1).ops c.multipliers) last
  pub positive : pos 0 <ℤ lead_number (entry_at (level 1).ops c.multipliers last)
  pub least : (j : ℕ) → j < last → NoSolutionEnds (level 1) (q_of normal) (b_of normal) (sides_of normal tops) j

-- Besides, no pole divides Y, each form stands among the poles at most as often as among the chains, and nothing common is left.
pub record IsBestClaim (normal : Normal) (tops : List Meaning) (c : Claim) : Type 0 where
  pub last : ℕ
  pub least : IsLeastMultiplier normal tops c last
  pub no_pole_divides : AllByRecursion (λ x. ¬ (Divides x.form c.y)) c.poles
  pub within_chains : (s : LinearForm) → power_of s c.poles ≤ power_of s normal.poles.factors
  pub reduced : IsReduced (length c.multipliers) (entry_at (level 1).ops c.multipliers) c.y

-- so is what a claim finds, whatever the pieces of the term at its order and their normal form are called
abbrev pub IsWellChosen : ProperTerm → TermClaim → Type 0
IsWellChosen f (found order form c range) = (pieces : Pieces) (normal : Normal) → ArePiecesOf pieces f order → IsNormalFormOf normal pieces.q0 pieces.r0
    → IsBestClaim normal (tops_of pieces order) c
IsWellChosen f (empty order form) = ⊤
IsWellChosen f (pair form c range) = (pieces : Pieces) (normal : Normal) → ArePiecesOf pieces f 1 → IsNormalFormOf normal pieces.q0 pieces.r0
    → IsBestClaim normal (pair_top pieces) c
IsWellChosen f (no_pair form) = ⊤
