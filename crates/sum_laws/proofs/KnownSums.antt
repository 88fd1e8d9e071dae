-- Natural sums that are known from elsewhere, so that a wrong definition does not check: those of n!/(k! (n-k)!) from k = 0 to n double with n.
use Rattle.std.proofs.Common.{◌≡◌, Some, [], ◌∷◌, refl}
use Rattle.std.specs.Prelude.{ℤ, pos, negsuc, ◌*ℤ◌}
use Rattle.ring_solver.specs.Ranges.{over}
use Rattle.ring_laws.specs.Meaning.{number, listed}
use Rattle.poly_laws.specs.Values.{level}
use Rattle.hypergeometric.specs.Point.{Point, point}
use Rattle.hypergeometric.specs.Fraction.{Fraction, of_whole}
use Rattle.hypergeometric.specs.LinearForm.{LinearForm}
use Rattle.hypergeometric.specs.ProperTerm.{ProperTerm, proper_value}
use Rattle.hypergeometric.specs.Claim.{Claim}
use Rattle.hypergeometric.specs.PlainTerm.{plain_term, plain_claim}
use Rattle.hypergeometric.specs.FactorLists.{factor_with}
use Rattle.hypergeometric.specs.NaturalRange.{natural_range}
use Rattle.hypergeometric.specs.Forms.{form_with}
use Rattle.sum_laws.specs.NaturalSums.{ends_of, natural_sum, left_side_of_sums}

-- n!/(k! (n-k)!)
abbrev binomial : ProperTerm
binomial = record (plain_term (pos 1) (level 2).ops.unit) {
  up = factor_with (form_with (pos 1) (pos 0) (pos 0)) 1 ∷ [];
  down = factor_with (form_with (pos 0) (pos 1) (pos 0)) 1 ∷ factor_with (form_with (pos 1) (negsuc 0) (pos 0)) 1 ∷ [];
}

-- from k = 0 to k = n
abbrev ends : LinearForm × LinearForm
ends = (form_with (pos 0) (pos 0) (pos 0), form_with (pos 1) (pos 0) (pos 0))

pub range : natural_range binomial.down ≡ Some ends
range = refl

abbrev sum_at : ℤ → Fraction
sum_at n = natural_sum (proper_value binomial) (ends_of ends) (point n (pos 0))

-- the k of the point doesn't count
pub without_k : (value : Point → Fraction) (forms : LinearForm × LinearForm) (p : Point) (k : ℤ)
    → natural_sum value (ends_of forms) (record p { k = k }) ≡ natural_sum value (ends_of forms) p
without_k value forms p k = refl

-- at n = 3 it is 8, and at n = -2 it is empty
pub three : (sum_at (pos 3)).top ≡ pos 8 *ℤ (sum_at (pos 3)).bottom
unfolding over
three = refl

pub nothing_summed : sum_at (negsuc 1) ≡ of_whole (pos 0)
unfolding over
nothing_summed = refl

-- -2 S(3) + S(4) = 0; of the claim only its multipliers count
abbrev claim : Claim
claim = record (plain_claim (pos 0) (pos 1) (level 2).ops.unit) {
  multipliers = listed (number (negsuc 1) ∷ []) ∷ listed (number (pos 1) ∷ []) ∷ [];
}

pub doubles : (left_side_of_sums (proper_value binomial) (ends_of ends) claim (point (pos 3) (pos 0))).top ≡ pos 0
unfolding over
doubles = refl
