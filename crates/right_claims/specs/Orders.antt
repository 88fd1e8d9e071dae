-- What is right to say of a term at an order (A=B chapter 6; at the order 0 chapter 5), and of its pairs (A=B chapter 7).
use Rattle.std.specs.Prelude.{◌≡◌, ℕ, suc, List, Option}
use Rattle.ring_laws.specs.Meaning.{Meaning}
use Rattle.key_laws.specs.KeyRows.{listing}
use Rattle.hypergeometric.specs.ProperTerm.{ProperTerm}
use Rattle.hypergeometric.specs.Claim.{Claim}
use Rattle.hypergeometric.specs.NaturalRange.{natural_range}
use Rattle.term_pieces.specs.Pieces.{Pieces, ArePiecesOf}
use Rattle.term_pieces.specs.NormalForm.{Normal, IsNormalFormOf}
use Rattle.pole_laws.specs.Orders.{tops_of, IsInsolubleOrder, IsInsolublePair, pair_top}
use Rattle.claim_laws.specs.Certified.{HasPieces}
use Rattle.right_claims.specs.Claims.{PrintedForm, printed, Range}
use Rattle.right_claims.specs.Cancelling.{LeavesInOrder}
use Rattle.right_claims.specs.KeySolutions.{IsChosenVector, y_of, multiplier_of}

-- the pieces of a term at an order, and their normal form, whose matches, q and r are printed
pub record IsSetting (f : ProperTerm) (order : ℕ) (pieces : Pieces) (normal : Normal) (form : PrintedForm) : Type 0 where
  pub are_pieces : ArePiecesOf pieces f order
  pub is_normal : IsNormalFormOf normal pieces.q0 pieces.r0
  pub form_is : form ≡ printed normal

-- A claim of so many multipliers is what the chosen vector leaves: the pieces' carrier and ratio, the multipliers, and what is left of Y and of the
-- chains.
pub record IsLeftBy (pieces : Pieces) (normal : Normal) (tops : List Meaning) (count : ℕ) (c : Claim) : Type 0 where
  pub bound : Option ℕ
  pub free : ℕ
  pub vector : List Meaning
  pub chosen : IsChosenVector normal tops count bound free vector
  pub goes_with : HasPieces c pieces
  pub multipliers_are : c.multipliers ≡ listing count (multiplier_of bound vector)
  pub leaves : LeavesInOrder normal.poles.factors (y_of bound vector) c.y c.poles

-- the found claim of a term at an order
pub record IsFoundOrder (f : ProperTerm) (order : ℕ) (form : PrintedForm) (c : Claim) (range : Range) : Type 0 where
  pub pieces : Pieces
  pub normal : Normal
  pub setting : IsSetting f order pieces normal form
  pub left_by : IsLeftBy pieces normal (tops_of pieces order) (suc order) c
  pub range_is : range ≡ natural_range f.down

-- the order has no solution, of any degree, with a multiplier that isn't zero
pub record IsEmptyOrder (f : ProperTerm) (order : ℕ) (form : PrintedForm) : Type 0 where
  pub pieces : Pieces
  pub normal : Normal
  pub setting : IsSetting f order pieces normal form
  pub insoluble : IsInsolubleOrder pieces normal order

-- the pair of a term: the one side is g times p_1 - p_0 at the order 1, and there is one multiplier
pub record IsPairOrder (f : ProperTerm) (form : PrintedForm) (c : Claim) (range : Range) : Type 0 where
  pub pieces : Pieces
  pub normal : Normal
  pub setting : IsSetting f 1 pieces normal form
  pub left_by : IsLeftBy pieces normal (pair_top pieces) 1 c
  pub range_is : range ≡ natural_range f.down

-- there is no pair
pub record IsNoPairOrder (f : ProperTerm) (form : PrintedForm) : Type 0 where
  pub pieces : Pieces
  pub normal : Normal
  pub setting : IsSetting f 1 pieces normal form
  pub insoluble : IsInsolublePair pieces normal
