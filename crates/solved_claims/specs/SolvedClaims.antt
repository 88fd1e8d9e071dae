-- The claim that a solution of the key equation of a term's normal form gives: what is left of Y and of the poles.
use Rattle.std.specs.Prelude.{◌≡◌, ◌⊎◌, List, []}
use Rattle.ring_laws.specs.Meaning.{Meaning}
use Rattle.poly_laws.specs.Values.{level}
use Rattle.division_laws.specs.Polynomials.{Polynomial}
use Rattle.kernel_laws.specs.Answers.{Vector, meant}
use Rattle.key_laws.specs.KeyEquation.{KeyEquation}
use Rattle.hypergeometric.specs.LinearForm.{Factor}
use Rattle.hypergeometric.specs.Claim.{Claim}
use Rattle.hypergeometric.specs.Products.{list_polynomial}
use Rattle.term_pieces.specs.Pieces.{Pieces}
use Rattle.term_pieces.specs.NormalForm.{Normal, IsNormalFormOf}
use Rattle.pole_laws.specs.Cancelled.{of_forms, IsCancelled}
use Rattle.pole_laws.specs.Orders.{sides_of}

-- Y and the multipliers solve the key equation with the sides g times the tops
pub record Solves (pieces : Pieces) (normal : Normal) (tops : List Meaning) (y : Polynomial (level 1)) (multipliers : Vector (level 1)) : Type 0 where
  pub normal_form : IsNormalFormOf normal pieces.q0 pieces.r0
  pub equation : KeyEquation (level 1).ops (list_polynomial normal.q) (list_polynomial normal.r) (sides_of normal tops) y.0
      (meant (level 1) multipliers)

-- where Y isn't zero, the claim has what is left of Y and of the poles, as pole forms were divided out of both
pub record LeavesSome (normal : Normal) (y : Polynomial (level 1)) (c : Claim) : Type 0 where
  pub some : ¬ (y.0 ≡ (level 2).ops.nought)
  pub left : Polynomial (level 1)
  pub gone : List Factor
  pub cancelled : IsCancelled normal.poles (of_forms c.poles) y.0 left.0 gone
  pub y_is : c.y ≡ left.0

-- where it is zero, it has no poles
pub record LeavesNone (y : Polynomial (level 1)) (c : Claim) : Type 0 where
  pub zero : y.0 ≡ (level 2).ops.nought
  pub y_is : c.y ≡ (level 2).ops.nought
  pub poles : c.poles ≡ []

-- what the claim has where Y is zero, and where it is not
abbrev pub Leaves : Normal → Polynomial (level 1) → Claim → Type 0
Leaves normal y c = LeavesSome normal y c ⊎ LeavesNone y c
