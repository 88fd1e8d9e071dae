-- The steps of an order, as far as they are done today: the pieces of a term, and Gosper's normal form of their quotient.
use Rattle.std.specs.Prelude.{ℕ}
use Rattle.hypergeometric.specs.ProperTerm.{ProperTerm}
use Rattle.term_pieces.specs.Pieces.{Pieces, ArePiecesOf}
use Rattle.term_pieces.specs.NormalForm.{Normal, IsNormalFormOf}
use Rattle.steps.specs.Steps.{◌then◌}
use Rattle.steps.specs.StepFaults.{EngineSteps}
use Rattle.gosper_form.specs.PieceSteps.{pieces_steps}
use Rattle.gosper_form.specs.NormalShifts.{normal_steps}

-- the normal form of the quotient of a term's pieces at an order; a term has one
pub record IsNormalAt (normal : Normal) (f : ProperTerm) (order : ℕ) : Type 0 where
  pub pieces : Pieces
  pub are_pieces : ArePiecesOf pieces f order
  pub is_normal : IsNormalFormOf normal pieces.q0 pieces.r0

-- The degrees of q0, r0, p_0, .., p_J are tested, then the pieces are made, and then the sum of the shifts is tested after each match.
abbrev pub order_steps : ProperTerm → ℕ → Normal → EngineSteps Normal
order_steps f order normal = pieces_steps f order then (λ _. normal_steps normal)
