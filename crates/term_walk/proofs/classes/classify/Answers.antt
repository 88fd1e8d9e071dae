use Rattle.term_text.specs.View.{tree_of}
use Rattle.proper_term.specs.TermOf.{term_of}
use Rattle.term_classes.specs.Walk.{class_of}
use Rattle.steps.proofs.AnswerLaws.{fault_answer}
use Rattle.steps.specs.Answers.{Answers}
use Rattle.steps.specs.TermFaults.{term_cause}
use Rattle.term_walk.specs.Views.{gathered_of}
use Rattle.term_walk.proofs.ClassAnswers.{walked_from_unit, fault_from_unit, class_fault, class_answer, class_plain, class_valued}
use Rattle.term_walk.proofs.classes.classify.Goals as goal

-- a fault of the walk
pub returns-in_err-gathered-clause-class : goal.returns-in_err-gathered-clause-class
returns-in_err-gathered-clause-class c =
    let t = tree_of c.args.tree.now in
    let fault = c.in_err-gathered.field-0.0 in
    fault_answer term_cause term_of (class_of t) c.from_residual-in_err-gathered.result fault c.from_residual-in_err-gathered.ensures.1
    (class_fault t fault (fault_from_unit t (gathered_of c.in_ok-nothing.nothing) c.in_ok-nothing.ensures.answers fault
    c.in_err-gathered.ensures.answers))

-- what was gathered
pub cancelled_term-requires : goal.cancelled_term-requires
cancelled_term-requires c =
    let t = tree_of c.args.tree.now in
    let f = gathered_of c.in_ok-gathered.gathered in record {
      plain = class_plain t f (walked_from_unit t (gathered_of c.in_ok-nothing.nothing) c.in_ok-nothing.ensures.answers f
          c.in_ok-gathered.ensures.answers);
    }

cancelled_class : (c : goal.After-cancelled_term) → Answers term_cause term_of (class_of (tree_of c.args.tree.now)) c.cancelled_term.result
cancelled_class c =
    let t = tree_of c.args.tree.now in
    let f = gathered_of c.in_ok-gathered.gathered in
    class_answer t f c.cancelled_term.result (walked_from_unit t (gathered_of c.in_ok-nothing.nothing) c.in_ok-nothing.ensures.answers f
    c.in_ok-gathered.ensures.answers) c.cancelled_term.ensures.answers

pub returns-clause-class : goal.returns-clause-class
returns-clause-class c = cancelled_class c

pub returns-clause-value : goal.returns-clause-value
returns-clause-value c = class_valued (tree_of c.args.tree.now) c.cancelled_term.result (cancelled_class c)
