use Rattle.std.proofs.Common.{refl}
use Rattle.poly_laws.specs.TwoVariables.{poly_power}
use Rattle.steps.specs.Operations.{of_polynomial}
use Rattle.steps.specs.TermFaults.{term_cause}
use Rattle.steps.proofs.AnswerLaws.{made_answer}
use Rattle.term_classes.specs.Finding.{size_raised}
use Rattle.tree_polynomials.proofs.PolynomialMeanings.{meaning_of}
use Rattle.tree_polynomials.proofs.operations.raised.Goals as goal

pub returns-in-Some : goal.returns-in-Some
returns-in-Some c = record {
  answers = made_answer term_cause c.answer_at.result c.args.base c.in-Some.base (meaning_of c.in-Some.base) meaning_of meaning_of c.args.at
      (λ p. of_polynomial (size_raised p c.args.power)) (λ p. poly_power p c.args.power) c.in-Some.is refl
      (c.answer_at.ensures.made _ _ c.power_of.ensures.power c.power_of.ensures.too_large);
}
