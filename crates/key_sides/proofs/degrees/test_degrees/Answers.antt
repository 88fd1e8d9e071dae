use Rattle.std.proofs.Common.{◌+◌, ◌∙◌, refl, arith}
use Rattle.std.specs.Prelude.{ℕ}
use Rattle.term_pieces.specs.Pieces.{Top}
use Rattle.steps.specs.Limits.{capped}
use Rattle.steps.specs.StepFaults.{step_cause}
use Rattle.steps.proofs.AnswerLaws.{fault_answer}
use Rattle.gosper_form.specs.PieceSteps.{each_within}
use Rattle.gosper_form.specs.PiecesOf.{pieces_held}
use Rattle.gosper_form.specs.NormalView.{normal_of}
use Rattle.key_sides.specs.Sides.{side_degree, side_degrees}
use Rattle.key_sides.proofs.CappedDegrees.{test_next, test_fault, test_all}
use Rattle.key_sides.proofs.degrees.test_degrees.Goals as goal

pub loop-j-init : goal.loop-j-init
loop-j-init c = refl

-- the first degree that is above the limit
pub returns-in_err-test_degree : goal.returns-in_err-test_degree
returns-in_err-test_degree c =
    let degree : Top → ℕ = side_degree (normal_of c.args.normal.now).g in
    record {
      answers = fault_answer step_cause (λ _. tt {0}) (each_within (side_degrees (normal_of c.args.normal.now) (pieces_held c.args.pieces.now)))
          c.from_residual.result c.in_err-test_degree.field-0.0 c.from_residual.ensures.1
          (test_fault degree (pieces_held c.args.pieces.now).tops c.loop-j.j c.in-Some.ensures.top.0 c.loop-j.invariant c.in_err-test_degree.field-0.0
          (c.in_err-test_degree.ensures.answers _ (c.degree_of_side.ensures.degree
          ∙ (λ i. capped (side_degree (c.g.ensures.g i) (c.in-Some.ensures.top.1 i))))));
    }

-- one more degree is within the limit
pub loop-j-preserved : goal.loop-j-preserved
loop-j-preserved c =
    test_next (side_degree (normal_of c.args.normal.now).g) (pieces_held c.args.pieces.now).tops c.loop-j.j c.in-Some.ensures.top.0 c.loop-j.invariant
    (c.in_ok-test_degree.ensures.answers _ (c.degree_of_side.ensures.degree
    ∙ (λ i. capped (side_degree (c.g.ensures.g i) (c.in-Some.ensures.top.1 i)))))

pub returns : goal.returns
returns c = record {
  answers = test_all (side_degree (normal_of c.args.normal.now).g) (pieces_held c.args.pieces.now).tops c.loop-j.j
      (omega (arith, c.loop-j-test.false, c.order-j-end.ensures.order)) c.loop-j.invariant;
}

-- the last degree is within the limit
pub returns-in_ok-test_degree : goal.returns-in_ok-test_degree
returns-in_ok-test_degree c = record {
  answers = test_all (side_degree (normal_of c.args.normal.now).g) (pieces_held c.args.pieces.now).tops (c.loop-j.j + 1)
      (omega (arith, c.if-j-j-end.false, c.order-j-end.ensures.order))
      (test_next (side_degree (normal_of c.args.normal.now).g) (pieces_held c.args.pieces.now).tops c.loop-j.j c.in-Some.ensures.top.0 c.loop-j.invariant
      (c.in_ok-test_degree.ensures.answers _ (c.degree_of_side.ensures.degree
      ∙ (λ i. capped (side_degree (c.g.ensures.g i) (c.in-Some.ensures.top.1 i))))));
}
