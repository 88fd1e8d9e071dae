use Rattle.std.proofs.Common.{map, sym, subst}
use Rattle.std.specs.Prelude.{Ok}
use Rattle.proper_term.specs.TermOf.{term_of}
use Rattle.steps.specs.Answers.{HasCause}
use Rattle.steps.specs.StepFaults.{step_cause}
use Rattle.steps.proofs.AnswerLaws.{fault_answer, first_cause}
use Rattle.gosper_form.specs.PieceSteps.{degrees, each_within, operation_of, piece_sizes, pieces_steps}
use Rattle.gosper_form.proofs.CarrierFacts.{carrier_total}
use Rattle.gosper_form.proofs.DegreeSteps.{all_within}
use Rattle.gosper_form.proofs.PieceOperations.{pieces_fault}
use Rattle.gosper_form.proofs.made_pieces.pieces_of.Goals as goal

-- a degree above the limit
pub returns-in_err-test_degrees-clause-answers : goal.returns-in_err-test_degrees-clause-answers
returns-in_err-test_degrees-clause-answers c =
    fault_answer step_cause (λ _. tt {0}) (pieces_steps (term_of c.args.term.now) c.args.order) c.from_residual.result
    c.in_err-test_degrees.field-0.0 c.from_residual.ensures.1
    (first_cause (each_within (degrees (term_of c.args.term.now) c.args.order))
    (λ _. record { outcome = Ok (tt {0}); operations = map operation_of (piece_sizes (term_of c.args.term.now) c.args.order) })
    (step_cause c.in_err-test_degrees.field-0.0) c.in_err-test_degrees.ensures.answers)

pub returns-in-Ok-clause-degrees : goal.returns-in-Ok-clause-degrees
returns-in-Ok-clause-degrees c = all_within (degrees (term_of c.args.term.now) c.args.order) c.in_ok-test_degrees.ensures.answers

pub returns-in-Ok-clause-carrier_powers : goal.returns-in-Ok-clause-carrier_powers
returns-in-Ok-clause-carrier_powers c =
    carrier_total (term_of c.args.term.now) (term_of c.in-Ok.pieces.carrier) c.args.order c.requires.low c.requires.plain c.in-Ok.ensures.pieces.carrier

-- an operation out of bounds
pub returns-in-Err-clause-answers : goal.returns-in-Err-clause-answers
returns-in-Err-clause-answers c =
    subst (λ fault. HasCause (pieces_steps (term_of c.args.term.now) c.args.order) (step_cause fault)) (sym c.step_fault.ensures.fault)
    (pieces_fault (term_of c.args.term.now) c.args.order c.in-Err.fault c.in_ok-test_degrees.ensures.answers c.in-Err.ensures.too_large)
