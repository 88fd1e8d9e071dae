use Rattle.std.proofs.Common.{◌≡◌, map, arith}
use Rattle.std.proofs.lemmas.List.{length-map}
use Rattle.term_text.specs.View.{tree_of}
use Rattle.term_classes.specs.Recurrence.{find_recurrence}
use Rattle.steps.proofs.AnswerLaws.{fault_answer}
use Rattle.steps.specs.TermFaults.{term_cause}
use Rattle.term_walk.proofs.FirstAndLast.{coefficients_fault, last_refused, both_kept}
use Rattle.term_walk.proofs.recurrences.polynomials.Goals as goal

-- few trees
pub returns-in_err-coefficients : goal.returns-in_err-coefficients
returns-in_err-coefficients c =
    let ts = map tree_of c.args.trees.now in
    let fault = c.in_err-coefficients.field-0.0 in
    let limit : c.greatest_count.result ≡ 6 = c.greatest_count.ensures.greatest in record {
      answers = fault_answer term_cause _ (find_recurrence ts) c.from_residual.result fault c.from_residual.ensures.1
          (coefficients_fault ts (omega (arith, length-map c.args.trees.now tree_of, limit, c.if-counted-greatest_count.false)) fault
          c.in_err-coefficients.ensures.answers);
    }

-- the last polynomial is 0
pub returns-in_err-not_zero-2 : goal.returns-in_err-not_zero-2
returns-in_err-not_zero-2 c =
    let trees = c.args.trees.now in
    let coefficients = c.in_ok-coefficients.coefficients.items in
    let fault = c.in_err-not_zero-2.field-0.0 in
    let limit : c.greatest_count.result ≡ 6 = c.greatest_count.ensures.greatest in record {
      answers = fault_answer term_cause _ (find_recurrence (map tree_of trees)) c.from_residual-in_err-not_zero-2.result fault
          c.from_residual-in_err-not_zero-2.ensures.1
          (last_refused trees coefficients c.requires.two (omega (arith, limit, c.if-counted-greatest_count.false)) c.in_ok-coefficients.ensures.as_many
          c.in_ok-coefficients.ensures.answers c.index-trees-0.result c.index.result.now c.index-trees-0.is c.index.ensures
          c.in_ok-not_zero.ensures.answers c.index-trees-order.result c.index-2.result.now c.index-trees-order.is c.index-2.ensures fault
          c.in_err-not_zero-2.ensures.answers);
    }

-- neither the first nor the last is
pub returns : goal.returns
returns c =
    let limit : c.greatest_count.result ≡ 6 = c.greatest_count.ensures.greatest in record {
      answers = both_kept c.args.trees.now c.in_ok-coefficients.coefficients.items c.requires.two
          (omega (arith, limit, c.if-counted-greatest_count.false)) c.in_ok-coefficients.ensures.as_many c.in_ok-coefficients.ensures.answers c.index-trees-0.result c.index.result.now c.index-trees-0.is
          c.index.ensures c.in_ok-not_zero.ensures.answers c.index-trees-order.result c.index-2.result.now c.index-trees-order.is c.index-2.ensures
          c.in_ok-not_zero-2.ensures.answers;
    }
