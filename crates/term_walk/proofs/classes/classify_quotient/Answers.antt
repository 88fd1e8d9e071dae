use Rattle.term_text.specs.View.{tree_of}
use Rattle.proper_term.specs.TermOf.{term_of}
use Rattle.term_classes.specs.Walk.{class_of_quotient}
use Rattle.steps.proofs.AnswerLaws.{fault_answer}
use Rattle.steps.specs.Answers.{Answers}
use Rattle.steps.specs.TermFaults.{term_cause}
use Rattle.term_walk.specs.Views.{gathered_of}
use Rattle.term_walk.proofs.ClassAnswers.{walked_from_unit, fault_from_unit, top_fault, bottom_fault, quotient_answer, quotient_plain, quotient_valued}
use Rattle.term_walk.proofs.classes.classify_quotient.Goals as goal

-- a fault of the first walk
pub returns-in_err-above-clause-class : goal.returns-in_err-above-clause-class
returns-in_err-above-clause-class c =
    let a = tree_of c.args.top.now in
    let b = tree_of c.args.bottom.now in
    let fault = c.in_err-above.field-0.0 in
    fault_answer term_cause term_of (class_of_quotient a b) c.from_residual-in_err-above.result fault c.from_residual-in_err-above.ensures.1
    (top_fault a b fault (fault_from_unit a (gathered_of c.in_ok-nothing.nothing) c.in_ok-nothing.ensures.answers fault
    c.in_err-above.ensures.answers))

-- a fault of the second walk
pub returns-in_err-gathered-clause-class : goal.returns-in_err-gathered-clause-class
returns-in_err-gathered-clause-class c =
    let a = tree_of c.args.top.now in
    let b = tree_of c.args.bottom.now in
    let fault = c.in_err-gathered.field-0.0 in
    fault_answer term_cause term_of (class_of_quotient a b) c.from_residual-in_err-gathered.result fault c.from_residual-in_err-gathered.ensures.1
    (bottom_fault a b (gathered_of c.in_ok-above.above)
    (walked_from_unit (tree_of c.args.top.now) (gathered_of c.in_ok-nothing.nothing)
    c.in_ok-nothing.ensures.answers (gathered_of c.in_ok-above.above) c.in_ok-above.ensures.answers) fault c.in_err-gathered.ensures.answers)

-- what was gathered
pub cancelled_term-requires : goal.cancelled_term-requires
cancelled_term-requires c = record {
  plain = quotient_plain (tree_of c.args.top.now) (tree_of c.args.bottom.now) (gathered_of c.in_ok-above.above)
      (walked_from_unit (tree_of c.args.top.now) (gathered_of c.in_ok-nothing.nothing)
      c.in_ok-nothing.ensures.answers (gathered_of c.in_ok-above.above) c.in_ok-above.ensures.answers)
      (gathered_of c.in_ok-gathered.gathered) c.in_ok-gathered.ensures.answers;
}

cancelled_class : (c : goal.After-cancelled_term)
    → Answers term_cause term_of (class_of_quotient (tree_of c.args.top.now) (tree_of c.args.bottom.now)) c.cancelled_term.result
cancelled_class c = quotient_answer (tree_of c.args.top.now) (tree_of c.args.bottom.now) (gathered_of c.in_ok-above.above)
    (walked_from_unit (tree_of c.args.top.now) (gathered_of c.in_ok-nothing.nothing)
    c.in_ok-nothing.ensures.answers (gathered_of c.in_ok-above.above) c.in_ok-above.ensures.answers)
    (gathered_of c.in_ok-gathered.gathered) c.cancelled_term.result c.in_ok-gathered.ensures.answers c.cancelled_term.ensures.answers

pub returns-clause-class : goal.returns-clause-class
returns-clause-class c = cancelled_class c

pub returns-clause-value : goal.returns-clause-value
returns-clause-value c = quotient_valued (tree_of c.args.top.now) (tree_of c.args.bottom.now) c.cancelled_term.result (cancelled_class c)
