use Rattle.std.proofs.Common.{suc, ap, arith}
use Rattle.proper_term.specs.TermOf.{term_of}
use Rattle.steps.specs.StepFaults.{step_cause}
use Rattle.steps.proofs.AnswerLaws.{fault_answer}
use Rattle.gosper_form.specs.PieceSteps.{top_degree, each_from, each_within}
use Rattle.gosper_form.proofs.DegreeSteps.{each_start, test_next, test_fault, test_end}
use Rattle.gosper_form.proofs.degrees.test_tops.Goals as goal

pub loop-j-init : goal.loop-j-init
loop-j-init c = ap each_within (each_start (top_degree (term_of c.args.term.now) c.args.order) (suc c.args.order))

-- the first degree that is above the limit
pub returns-in_err-test_counted : goal.returns-in_err-test_counted
returns-in_err-test_counted c = record {
  answers = fault_answer step_cause (λ _. tt {0}) (each_within (each_from (top_degree (term_of c.args.term.now) c.args.order) 0 (suc c.args.order)))
      c.from_residual.result c.in_err-test_counted.field-0.0 c.from_residual.ensures.1
      (test_fault (top_degree (term_of c.args.term.now) c.args.order) c.loop-j.j (suc c.args.order) (omega (arith, c.loop-j-test.true)) c.loop-j.invariant
      c.in_err-test_counted.field-0.0 (c.in_err-test_counted.ensures.answers _ c.degree_of_top.ensures.makes));
}

-- one more degree is within the limit
pub loop-j-preserved : goal.loop-j-preserved
loop-j-preserved c =
    test_next (top_degree (term_of c.args.term.now) c.args.order) c.loop-j.j (suc c.args.order) (omega (arith, c.loop-j-test.true)) c.loop-j.invariant
    (c.in_ok-test_counted.ensures.answers _ c.degree_of_top.ensures.makes)

pub returns : goal.returns
returns c = record {
  answers = test_end (top_degree (term_of c.args.term.now) c.args.order) c.loop-j.j (suc c.args.order) (omega (arith, c.loop-j-test.false)) c.loop-j.invariant;
}
