use Rattle.std.proofs.Common.{sym, subst, drop, ◌+◌}
use Rattle.std.specs.Result.{is_ok}
use Rattle.lin_form.proofs.Items.{each_of}
use Rattle.term_text.specs.View.{tree_of, parts_of}
use Rattle.term_classes.specs.Finding.{find_polynomial, find_summands, find_factors}
use Rattle.steps.proofs.AnswerLaws.{fault_answer}
use Rattle.steps.proofs.FindingParts.{Continues}
use Rattle.steps.specs.Found.{found}
use Rattle.steps.specs.TermFaults.{term_cause}
use Rattle.tree_polynomials.proofs.FindingNodes.{same_answer, find_literal, find_n, find_k, sum_answer, product_answer, some_found, none_found}
use Rattle.tree_polynomials.proofs.PolynomialMeanings.{meaning_of}
use Rattle.tree_polynomials.proofs.PolynomialParts.{summand_done, summand_none, summand_fault, factor_done, factor_none, factor_fault, summands_done, factors_done, pushed}
use Rattle.tree_polynomials.proofs.FindingPowers.{constant_exponent, exponent_fault, exponent_none, base_fault, base_raised}
use Rattle.tree_polynomials.proofs.polynomials.+seek.Goals as goal

-- leaves
pub polynomial_of_tree-returns-in-Literal : goal.polynomial_of_tree-returns-in-Literal
polynomial_of_tree-returns-in-Literal t c = record {
  answers = same_answer c.answer_at.result (found meaning_of) _ _
      (find_literal c.args.tree.now c.in-Literal.number c.in-Literal.is) (c.answer_at.ensures.leaf _ c.whole.ensures.gives);
}

pub polynomial_of_tree-returns-in-N : goal.polynomial_of_tree-returns-in-N
polynomial_of_tree-returns-in-N t c = record {
  answers = same_answer c.answer_at-in-N.result (found meaning_of) _ _ (find_n c.args.tree.now c.in-N.is)
      (c.answer_at-in-N.ensures.leaf _ c.variable_n.ensures.gives);
}

pub polynomial_of_tree-returns-in-K : goal.polynomial_of_tree-returns-in-K
polynomial_of_tree-returns-in-K t c = record {
  answers = same_answer c.answer_at-in-K.result (found meaning_of) _ _ (find_k c.args.tree.now c.in-K.is)
      (c.answer_at-in-K.ensures.leaf _ c.variable_k.ensures.gives);
}

-- sums and products
pub polynomial_of_tree-returns-in_ok-summands-in-Sum : goal.polynomial_of_tree-returns-in_ok-summands-in-Sum
polynomial_of_tree-returns-in_ok-summands-in-Sum t c = record {
  answers = sum_answer c.added.result c.in_ok-summands-in-Sum.summands c.args.tree.now c.in-Sum.parts c.as_slice.result.now
      meaning_of (λ list. each_of list.items meaning_of) c.in-Sum.is c.as_slice.ensures
      c.in_ok-summands-in-Sum.ensures.answers c.added.ensures.answers;
}

pub polynomial_of_tree-returns-in_ok-factors-in-Product : goal.polynomial_of_tree-returns-in_ok-factors-in-Product
polynomial_of_tree-returns-in_ok-factors-in-Product t c = record {
  answers = product_answer c.multiplied.result c.in_ok-factors-in-Product.factors c.args.tree.now c.in-Product.parts c.as_slice-in-Product.result.now
      meaning_of (λ list. each_of list.items meaning_of) c.in-Product.is c.as_slice-in-Product.ensures
      c.in_ok-factors-in-Product.ensures.answers c.multiplied.ensures.answers;
}

-- a power
pub polynomial_of_tree-returns-in_err-power-in-Pow : goal.polynomial_of_tree-returns-in_err-power-in-Pow
polynomial_of_tree-returns-in_err-power-in-Pow t c = record {
  answers = fault_answer term_cause (found meaning_of) (find_polynomial (tree_of c.args.tree.now)) c.from_residual-in_err-power-in-Pow.result
      c.in_err-power-in-Pow.field-0.0 c.from_residual-in_err-power-in-Pow.ensures.1
      (exponent_fault c.args.tree.now c.in-Pow.base c.in-Pow.exponent c.in-Pow.is c.get.result.now c.get.ensures c.in_err-power-in-Pow.field-0.0
      c.in_err-power-in-Pow.ensures.exponent);
}

pub polynomial_of_tree-returns-in_default : goal.polynomial_of_tree-returns-in_default
polynomial_of_tree-returns-in_default t c = record {
  answers = exponent_none c.args.tree.now c.in-Pow.base c.in-Pow.exponent c.in-Pow.is c.get.result.now c.get.ensures c.in_ok-power-in-Pow.field-0
      c.in_ok-power-in-Pow.ensures.exponent c.in_default.is;
}

pub polynomial_of_tree-returns-in_err-base-in-Pow : goal.polynomial_of_tree-returns-in_err-base-in-Pow
polynomial_of_tree-returns-in_err-base-in-Pow t c = record {
  answers = fault_answer term_cause (found meaning_of) (find_polynomial (tree_of c.args.tree.now)) c.from_residual-in_err-base-in-Pow.result
      c.in_err-base-in-Pow.field-0.0 c.from_residual-in_err-base-in-Pow.ensures.1
      (base_fault c.args.tree.now c.in-Pow.base c.in-Pow.exponent c.in-Pow.is c.get.result.now c.get.ensures c.in_ok-power-in-Pow.field-0
      c.in-Some.power
      c.in_ok-power-in-Pow.ensures.exponent c.in-Some.is c.get-in-Pow.result.now c.get-in-Pow.ensures c.in_err-base-in-Pow.field-0.0
      c.in_err-base-in-Pow.ensures.answers);
}

pub polynomial_of_tree-returns-in_ok-base-in-Pow : goal.polynomial_of_tree-returns-in_ok-base-in-Pow
polynomial_of_tree-returns-in_ok-base-in-Pow t c = record {
  answers = base_raised c.args.tree.now c.in-Pow.base c.in-Pow.exponent c.in-Pow.is c.get.result.now c.get.ensures c.in_ok-power-in-Pow.field-0
      c.in-Some.power c.in_ok-power-in-Pow.ensures.exponent c.in-Some.is c.get-in-Pow.result.now c.get-in-Pow.ensures c.raised.result
      c.in_ok-base-in-Pow.base meaning_of c.in_ok-base-in-Pow.ensures.answers c.raised.ensures.answers;
}

pub exponent_of-returns : goal.exponent_of-returns
exponent_of-returns t c = record {
  exponent = constant_exponent c.in_ok-polynomial.field-0 c.in-Some.polynomial meaning_of c.args.tree.now
      c.in-Some-constant_of.constant.value c.natural_exponent.result c.in_ok-polynomial.ensures.answers c.in-Some.is
      c.in-Some-constant_of.ensures.constant c.natural_exponent.ensures.exponent;
}

-- the parts of a sum
pub summands_of-returns-in_err-polynomial : goal.summands_of-returns-in_err-polynomial
summands_of-returns-in_err-polynomial t c = record {
  answers = fault_answer term_cause (found (λ list. each_of list.items meaning_of))
      (find_summands (parts_of c.args.parts.now)) c.from_residual.result
      c.in_err-polynomial.field-0.0 c.from_residual.ensures.1
      (summand_fault c.args.parts.now c.loop-part.part-index c.part-item.result _ c.loop-part-test.true c.part-item.is c.loop-part.invariant
      c.in_err-polynomial.field-0.0 c.in_err-polynomial.ensures.answers);
}

pub summands_of-returns-in_default : goal.summands_of-returns-in_default
summands_of-returns-in_default t c = record {
  answers = summand_none c.args.parts.now c.loop-part.part-index c.part-item.result _ c.loop-part-test.true c.part-item.is c.loop-part.invariant
      (none_found c.in_ok-polynomial.field-0 meaning_of (find_polynomial (tree_of c.part-item.result.ast))
      c.in_ok-polynomial.ensures.answers c.in_default.is);
}

pub summands_of-loop-part-preserved : goal.summands_of-loop-part-preserved
summands_of-loop-part-preserved t c =
    subst
    (Continues (find_summands (parts_of c.args.parts.now)) (find_summands (parts_of (drop (c.loop-part.part-index + 1) c.args.parts.now))))
    (sym (pushed c.push.new.self.items c.loop-part.summands.items c.in-Ok.summand (is_ok c.push.result) c.is_err.result
    meaning_of c.push.ensures.items c.is_err.ensures.negation c.if-is_err.false))
    (summand_done c.args.parts.now c.loop-part.part-index c.part-item.result _ c.loop-part-test.true c.part-item.is c.loop-part.invariant _ _
    (some_found c.in_ok-polynomial.field-0 c.in-Some.polynomial meaning_of
    (find_polynomial (tree_of c.part-item.result.ast)) c.in_ok-polynomial.ensures.answers c.in-Some.is) c.in-Ok.ensures.gives)

pub summands_of-returns : goal.summands_of-returns
summands_of-returns t c = record { answers = summands_done c.args.parts.now c.loop-part.part-index _ c.loop-part-test.false c.loop-part.invariant }

-- those of a product
pub factors_of-returns-in_err-factor : goal.factors_of-returns-in_err-factor
factors_of-returns-in_err-factor t c = record {
  answers = fault_answer term_cause (found (λ list. each_of list.items meaning_of))
      (find_factors (parts_of c.args.parts.now)) c.from_residual.result
      c.in_err-factor.field-0.0 c.from_residual.ensures.1
      (factor_fault c.args.parts.now c.loop-part.part-index c.part-item.result _ c.loop-part-test.true c.part-item.is c.loop-part.invariant
      c.in_err-factor.field-0.0 c.if-part.false c.in_err-factor.ensures.answers);
}

pub factors_of-returns-in_default : goal.factors_of-returns-in_default
factors_of-returns-in_default t c = record {
  answers = factor_none c.args.parts.now c.loop-part.part-index c.part-item.result _ c.loop-part-test.true c.part-item.is c.loop-part.invariant
      c.if-part.false (none_found c.in_ok-factor.field-0 meaning_of
      (find_polynomial (tree_of c.part-item.result.ast)) c.in_ok-factor.ensures.answers c.in_default.is);
}

pub factors_of-loop-part-preserved : goal.factors_of-loop-part-preserved
factors_of-loop-part-preserved t c =
    subst (Continues (find_factors (parts_of c.args.parts.now)) (find_factors (parts_of (drop (c.loop-part.part-index + 1) c.args.parts.now))))
    (sym (pushed c.push.new.self.items c.loop-part.factors.items c.in-Some.factor (is_ok c.push.result) c.is_err.result
    meaning_of c.push.ensures.items c.is_err.ensures.negation c.if-is_err.false))
    (factor_done c.args.parts.now c.loop-part.part-index c.part-item.result _ c.loop-part-test.true c.part-item.is c.loop-part.invariant _
    c.if-part.false (some_found c.in_ok-factor.field-0 c.in-Some.factor meaning_of
    (find_polynomial (tree_of c.part-item.result.ast)) c.in_ok-factor.ensures.answers c.in-Some.is))

pub factors_of-returns : goal.factors_of-returns
factors_of-returns t c = record { answers = factors_done c.args.parts.now c.loop-part.part-index _ c.loop-part-test.false c.loop-part.invariant }
