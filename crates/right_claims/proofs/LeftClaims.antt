-- A claim that the chosen vector leaves has what is left of a solution of the key equation, and of the first poles.
use Rattle.std.proofs.Common.{◌≡◌, ℕ, ◌-◌, List, [], length, refl, ap, sym, ◌∙◌, subst, inl, inr}
use Rattle.std.specs.Prelude.{◌⊎◌}
use Rattle.ring_laws.specs.Meaning.{Meaning}
use Rattle.poly_laws.specs.Values.{level}
use Rattle.division_laws.specs.Polynomials.{Polynomial}
use Rattle.kernel_laws.specs.Answers.{Vector, meant}
use Rattle.key_laws.specs.KeyEquation.{InsolubleWith}
use Rattle.key_laws.specs.KeyRows.{listing}
use Rattle.key_laws.specs.Solutions.{IsLeastSolution}
use Rattle.key_laws.specs.DegreeBounds.{coefficient_count}
use Rattle.hypergeometric.specs.LinearForm.{Factor}
use Rattle.hypergeometric.specs.FormOrder.{IsSorted}
use Rattle.hypergeometric.specs.ProperTerm.{ProperTerm}
use Rattle.hypergeometric.specs.Claim.{Claim}
use Rattle.term_pieces.specs.Pieces.{Pieces, ArePiecesOf}
use Rattle.term_pieces.specs.NormalForm.{Normal, IsNormalFormOf}
use Rattle.pole_laws.specs.Orders.{sides_of}
use Rattle.solved_claims.specs.SolvedClaims.{Leaves}
use Rattle.solved_claims.proofs.PoleScales.{poles_scale}
use Rattle.right_claims.specs.Cancelling.{LeavesInOrder, of_zero, of_nonzero}
use Rattle.right_claims.specs.KeySolutions.{q_of, b_of, y_of, multiplier_of}
use Rattle.right_claims.specs.Orders.{IsLeftBy}
use Rattle.right_claims.proofs.LeastSolutions.{y_value, y_value_is, multiplier_values, multiplier_values_are, least_solution}
use Rattle.right_claims.proofs.WhatIsLeft.{Outcome, outcome}

-- what is left of a polynomial that isn't zero, or of zero
pub record OfZero (y : Polynomial (level 1)) (left : Meaning) (poles : List Factor) : Type 0 where
  pub zero : y.0 ≡ (level 2).ops.nought
  pub left_is : left ≡ y.0
  pub poles_are : poles ≡ []

pub record OfSome (chains : List Factor) (y : Polynomial (level 1)) (left : Meaning) (poles : List Factor) : Type 0 where
  pub some : ¬ (y.0 ≡ (level 2).ops.nought)
  pub outcome : Outcome chains y left poles

pub left_over : (chains : List Factor) (y : Polynomial (level 1)) (left : Meaning) (poles : List Factor) → IsSorted chains
    → LeavesInOrder chains y.0 left poles → OfSome chains y left poles ⊎ OfZero y left poles
left_over chains y _ _ sorted (of_zero z) = inr (record { zero = z; left_is = refl; poles_are = refl })
left_over chains y _ _ sorted (of_nonzero {left} {poles} s h) = inl (record { some = s; outcome = outcome chains y left poles sorted h })

module _ (pieces : Pieces) (normal : Normal) (tops : List Meaning) (count : ℕ) (c : Claim) (size : length tops ≡ count)
    (h : IsLeftBy pieces normal tops count c) where
  -- Y and the multipliers
  abbrev pub y : Polynomial (level 1)
  y = y_value normal tops count size h.bound h.free h.vector h.chosen

  abbrev pub multipliers : Vector (level 1)
  multipliers = multiplier_values normal tops count size h.bound h.free h.vector h.chosen

  y_is : y.0 ≡ y_of h.bound h.vector
  y_is = y_value_is normal tops count size h.bound h.free h.vector h.chosen

  multipliers_meant : meant (level 1) multipliers ≡ multiplier_of h.bound h.vector
  multipliers_meant = multiplier_values_are normal tops count size h.bound h.free h.vector h.chosen

  pub least : IsLeastSolution (level 1) (q_of normal) (b_of normal) (sides_of normal tops)
      (y_value normal tops count size h.bound h.free h.vector h.chosen).0
      (meant (level 1) (multiplier_values normal tops count size h.bound h.free h.vector h.chosen)) (h.free - coefficient_count h.bound)
  least =
      subst (λ t. IsLeastSolution (level 1) (q_of normal) (b_of normal) (sides_of normal tops) t (meant (level 1) multipliers)
      (h.free - coefficient_count h.bound)) (sym y_is)
      (subst (λ (m : ℕ → Meaning). IsLeastSolution (level 1) (q_of normal) (b_of normal) (sides_of normal tops) (y_of h.bound h.vector) m
      (h.free - coefficient_count h.bound)) (sym multipliers_meant)
      (least_solution normal tops count size h.bound h.free h.vector h.chosen))

  pub multipliers_listed : c.multipliers
      ≡ listing count (meant (level 1) (multiplier_values normal tops count size h.bound h.free h.vector h.chosen))
  multipliers_listed = h.multipliers_are ∙ ap (λ (m : ℕ → Meaning). listing count m) (sym multipliers_meant)

  -- so the equation isn't insoluble
  pub soluble : ¬ (InsolubleWith (level 1) (q_of normal) (b_of normal) (sides_of normal tops))
  soluble insoluble = least.ends.here (insoluble y multipliers least.solves (h.free - coefficient_count h.bound) least.ends.within)

  abbrev Y : Polynomial (level 1)
  Y = y_value normal tops count size h.bound h.free h.vector h.chosen

  pub over : IsSorted normal.poles.factors
      → OfSome normal.poles.factors (y_value normal tops count size h.bound h.free h.vector h.chosen) c.y c.poles
      ⊎ OfZero (y_value normal tops count size h.bound h.free h.vector h.chosen) c.y c.poles
  over sorted = left_over normal.poles.factors Y c.y c.poles sorted
      (subst (λ t. LeavesInOrder normal.poles.factors t c.y c.poles) (sym y_is) h.leaves)

  -- what is left is what is left of a solution and of the first poles
  pub leaves : (f : ProperTerm) (order : ℕ) → ArePiecesOf pieces f order → IsNormalFormOf normal pieces.q0 pieces.r0
      → Leaves normal (y_value normal tops count size h.bound h.free h.vector h.chosen) c
  leaves f order are is = by (over is.poles.sorted)
    where
      by : OfSome normal.poles.factors Y c.y c.poles ⊎ OfZero Y c.y c.poles → Leaves normal Y c
      by (inl s) = inl (record {
        some = s.some;
        left = s.outcome.value;
        gone = s.outcome.gone;
        cancelled = record {
          of_poles = record {
            scale = sym (poles_scale f pieces order normal are is);
            sorted = s.outcome.sorted;
            some = s.outcome.some;
            powers = s.outcome.powers;
          };
          of_y = ap (λ (t : Polynomial (level 1)). t.0) s.outcome.of_y;
        };
        y_is = s.outcome.value_is;
      })
      by (inr z) = inr (record { zero = z.zero; y_is = z.left_is ∙ z.zero; poles = z.poles_are })
