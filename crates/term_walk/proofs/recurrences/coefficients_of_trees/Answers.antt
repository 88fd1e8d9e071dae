use Rattle.std.proofs.Common.{◌+◌, sym, subst, map}
use Rattle.term_text.specs.View.{tree_of}
use Rattle.term_classes.specs.Recurrence.{find_coefficients}
use Rattle.steps.proofs.AnswerLaws.{fault_answer}
use Rattle.steps.specs.TermFaults.{term_cause}
use Rattle.term_walk.proofs.RecurrenceLaws.{coefficient_fault, leads_more, leads_last, LeadsOn}
use Rattle.term_walk.proofs.recurrences.coefficients_of_trees.Goals as goal

pub returns-in_err-coefficient-clause-answers : goal.returns-in_err-coefficient-clause-answers
returns-in_err-coefficient-clause-answers c =
    let fault = c.in_err-coefficient.field-0.0 in
    fault_answer term_cause _ (find_coefficients (map tree_of c.args.trees.now)) c.from_residual.result fault c.from_residual.ensures.1
    (coefficient_fault c.args.trees.now c.loop-tree.tree-index c.tree-item.result c.loop-tree-test.true c.tree-item.is
    c.loop-tree.coefficients.items c.loop-tree.invariant fault c.in_err-coefficient.ensures.answers)

pub loop-tree-preserved : goal.loop-tree-preserved
loop-tree-preserved c =
    subst (LeadsOn c.args.trees.now (c.loop-tree.tree-index + 1)) (sym c.in-Ok.ensures.items)
    (leads_more c.args.trees.now c.loop-tree.tree-index c.tree-item.result c.loop-tree-test.true c.tree-item.is
    c.loop-tree.coefficients.items c.loop-tree.invariant c.in_ok-coefficient.coefficient c.in_ok-coefficient.ensures.answers)

pub returns-clause-answers : goal.returns-clause-answers
returns-clause-answers c =
    leads_last c.args.trees.now c.loop-tree.tree-index c.loop-tree.coefficients.items c.loop-tree-test.false c.loop-tree.invariant
