use Rattle.proper_term.specs.TermOf.{term_of}
use Rattle.steps.specs.StepFaults.{step_cause}
use Rattle.steps.proofs.AnswerLaws.{fault_answer, first_cause}
use Rattle.gosper_form.specs.PieceSteps.{pieces_steps}
use Rattle.gosper_form.specs.NormalShifts.{normal_steps}
use Rattle.gosper_form.specs.NormalView.{normal_of}
use Rattle.gosper_form.specs.PiecesOf.{pieces_held}
use Rattle.ekhad_cli.specs.OrderSteps.{order_steps}
use Rattle.ekhad_cli.proofs.OrderAnswers.{normal_of_pieces, shifts_refused, all_passed}
use Rattle.ekhad_cli.proofs.orders.test_order.Goals as goal

-- a degree above the limit, or an operation out of bounds
pub returns-in_err-pieces : goal.returns-in_err-pieces
returns-in_err-pieces c = record {
  steps = λ normal at.
      let f = term_of c.args.term.now in
      fault_answer step_cause (λ _. normal) (order_steps f c.args.order normal) c.from_residual.result c.in_err-pieces.field-0.0
      c.from_residual.ensures.1
      (first_cause (pieces_steps f c.args.order) (λ _. normal_steps normal) (step_cause c.in_err-pieces.field-0.0) c.in_err-pieces.ensures.answers);
}

-- the shifts above theirs
pub returns-in_err-_normal : goal.returns-in_err-_normal
returns-in_err-_normal c = record {
  steps = λ normal at.
      let f = term_of c.args.term.now in
      let pieces = pieces_held c.in_ok-pieces.pieces in
      let are = c.in_ok-pieces.ensures.pieces in
      fault_answer step_cause (λ _. normal) (order_steps f c.args.order normal) c.from_residual-in_err-_normal.result c.in_err-_normal.field-0.0
      c.from_residual-in_err-_normal.ensures.1
      (shifts_refused f c.args.order pieces are normal at c.in_err-_normal.field-0.0 c.in_ok-pieces.ensures.answers
      (c.in_err-_normal.ensures.steps normal (normal_of_pieces f c.args.order pieces are normal at)));
}

-- or neither
pub returns : goal.returns
returns c = record {
  steps = λ normal at.
      let f = term_of c.args.term.now in
      let pieces = pieces_held c.in_ok-pieces.pieces in
      let are = c.in_ok-pieces.ensures.pieces in
      all_passed f c.args.order pieces are normal at (normal_of c.in_ok-_normal._normal) c.in_ok-pieces.ensures.answers c.in_ok-_normal.ensures.normal
      (c.in_ok-_normal.ensures.steps normal (normal_of_pieces f c.args.order pieces are normal at));
}
