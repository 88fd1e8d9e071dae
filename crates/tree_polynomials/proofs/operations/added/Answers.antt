use Rattle.std.proofs.Common.{ap, sym}
use Rattle.lin_form.proofs.Items.{each_of}
use Rattle.steps.proofs.AnswerLaws.{made_answer}
use Rattle.steps.specs.Operations.{of_polynomial}
use Rattle.steps.specs.TermFaults.{term_cause}
use Rattle.term_classes.specs.Finding.{sizes_added, sum_of_polynomials}
use Rattle.tree_polynomials.proofs.PolynomialMeanings.{meaning_of}
use Rattle.tree_polynomials.proofs.operations.added.Goals as goal

pub returns-in-Some : goal.returns-in-Some
returns-in-Some c = record {
  answers = made_answer term_cause c.answer_at.result c.args.summands c.in-Some.summands (each_of c.deref.result.now meaning_of)
      (λ list. each_of list.items meaning_of) meaning_of c.args.at (λ ps. of_polynomial (sizes_added ps)) sum_of_polynomials c.in-Some.is
      (ap (λ xs. each_of xs meaning_of) (sym c.deref.ensures.value))
      (c.answer_at.ensures.made _ _ c.sum_of.ensures.sum c.sum_of.ensures.too_large);
}
