use Rattle.std.proofs.Common.{sym, ◌∙◌}
use Rattle.std.specs.Prelude.{pos}
use Rattle.hypergeometric.specs.Fraction.{of_whole}
use Rattle.poly_fraction.specs.FractionOf.{fraction_of}
use Rattle.steps.proofs.AnswerLaws.{fault_answer}
use Rattle.steps.specs.Steps.{gives}
use Rattle.steps.specs.TermFaults.{term_cause}
use Rattle.term_classes.specs.Walk.{unit_term}
use Rattle.term_walk.specs.Views.{gathered_of}
use Rattle.term_walk.proofs.LowestFields.{is_lowest, one_terms}
use Rattle.term_walk.proofs.UnitTerms.{unit_given}
use Rattle.term_classes.proofs.PassingPolynomials.{unit_not_nought}
use Rattle.term_walk.proofs.gathered_polynomials.nothing_gathered.Goals as goal

pub returns-in_err-factors : goal.returns-in_err-factors
returns-in_err-factors c = record {
  answers = fault_answer term_cause gathered_of (gives unit_term) c.from_residual.result c.in_err-factors.field-0.0 c.from_residual.ensures.1
      (c.in_err-factors.ensures.answers unit_term);
}

pub invariant_of-result : goal.invariant_of-result
invariant_of-result c = record {
  not_zero = λ z. unit_not_nought (sym c.in-Ok.ensures.gives ∙ z);
  lowest = is_lowest (fraction_of c.number_fraction.result) (of_whole (pos 1)) c.number_fraction.ensures.value one_terms;
}

pub returns : goal.returns
returns c = record {
  answers = unit_given _ _ _ _ _ (c.in_ok-factors.ensures.answers unit_term) c.in-Ok.ensures.gives c.number_fraction.ensures.value
      c.number_fraction-2.ensures.value c.number_fraction-3.ensures.value;
}
