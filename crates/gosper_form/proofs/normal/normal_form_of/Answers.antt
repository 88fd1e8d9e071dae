use Rattle.steps.specs.StepFaults.{step_cause}
use Rattle.steps.proofs.AnswerLaws.{fault_answer}
use Rattle.term_pieces.proofs.NoMatches.{no_match}
use Rattle.lin_form.specs.ListOf.{list_of}
use Rattle.gosper_form.specs.NormalShifts.{normal_steps}
use Rattle.gosper_form.specs.NormalView.{normal_of}
use Rattle.gosper_form.proofs.NormalForms.{steps_give}
use Rattle.gosper_form.proofs.normal.normal_form_of.Goals as goal

-- the limit that is passed
pub returns-in_err-taken-clause-steps : goal.returns-in_err-taken-clause-steps
returns-in_err-taken-clause-steps c = λ normal is.
    fault_answer step_cause normal_of (normal_steps normal) c.from_residual-in_err-taken.result c.in_err-taken.field-0.0
    c.from_residual-in_err-taken.ensures.1 (c.in_err-taken.ensures.limit normal is)

-- the normal form is the only one
pub returns-in-Ok-clause-steps : goal.returns-in-Ok-clause-steps
returns-in-Ok-clause-steps c = λ normal is.
    steps_give (list_of c.args.q0.now) (list_of c.args.r0.now) normal (normal_of c.in-Ok.normal) is c.in-Ok.ensures.normal c.in-Ok.ensures.few_shifts

pub returns-in-Ok-clause-no_match : goal.returns-in-Ok-clause-no_match
returns-in-Ok-clause-no_match c =
    no_match (normal_of c.in-Ok.normal) (list_of c.args.q0.now) (list_of c.args.r0.now) c.in-Ok.ensures.normal
