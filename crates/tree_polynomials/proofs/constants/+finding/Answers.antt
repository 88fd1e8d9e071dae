use Rattle.std.proofs.Common.{◌≡◌, ◌+◌, ap, sym, ◌∙◌, subst, List, [], ◌∷◌, Ok, Some, None, true, false, refl, arith}
use Rattle.std.proofs.lemmas.List.{map-append}
use Rattle.steps.specs.Answers.{HasCause, Answers}
use Rattle.steps.specs.Found.{where_some, found}
use Rattle.steps.specs.Steps.{gives, ◌then◌}
use Rattle.steps.specs.TermFaults.{term_cause}
use Rattle.steps.proofs.AnswerLaws.{first_cause, later_answer, fault_answer}
use Rattle.steps.proofs.StepLaws.{then_outcome}
use Rattle.hypergeometric.specs.Fraction.{Fraction}
use Rattle.grammar.specs.Tree as d
use Rattle.term_classes.specs.Finding.{negative_of, power_made, product_made, find_constant, find_constants}
use Rattle.term_text.specs.View.{tree_of, node_of, parts_of}
use Rattle.term_text.specs.declared.ast.Ast.{Ast}
use Rattle.term_text.specs.declared.ast.Part.{Part}
use Rattle.term_text.proofs.Views.{node_of-sum, node_of-product, node_of-pow}
use Rattle.tree_polynomials.specs.ConstantCases.{find_exponent, find_power, find_negative}
use Rattle.tree_polynomials.specs.Factors.{factor_of, factors_of}
use Rattle.tree_polynomials.specs.Views.{fraction_value}
use Rattle.tree_polynomials.specs.declared.factors.Factor.{Factor}
use Rattle.tree_polynomials.proofs.ConstantNodes.{other_answer, only_part, several_parts, negated_answer, FoundBefore, constant_done, constant_none, constant_fault, all_found}
use Rattle.tree_polynomials.proofs.ConstantSteps.{power_case, sum_case}
use Rattle.tree_polynomials.proofs.constants.+finding.Goals as goal

-- a power, after its base
pub constant_of_power-returns : goal.constant_of_power-returns
constant_of_power-returns t c = record {
  answers = later_answer term_cause (found fraction_value) (find_constant (tree_of c.args.base.now))
      (λ f. where_some f (power_made c.args.at c.args.power.value))
      (Some (fraction_value c.in-Some.base)) c.constant_power.result (rw c.in-Some.is at c.in_ok-base.ensures.answers)
      c.constant_power.ensures.answers;
}

-- a product, after its parts
pub constant_of_product-returns-in_err-factors : goal.constant_of_product-returns-in_err-factors
constant_of_product-returns-in_err-factors t c =
    let parts = parts_of c.args.parts.now in
    record {
      answers = fault_answer term_cause (found fraction_value) (find_constants parts then product_made c.args.at) c.from_residual.result
          c.in_err-factors.field-0.0
          c.from_residual.ensures.1
          (first_cause (find_constants parts) (product_made c.args.at) (term_cause c.in_err-factors.field-0.0) c.in_err-factors.ensures.answers);
    }

pub constant_of_product-returns : goal.constant_of_product-returns
constant_of_product-returns t c = record {
  answers = later_answer term_cause (found fraction_value) (find_constants (parts_of c.args.parts.now)) (product_made c.args.at)
      (Some (factors_of c.in-Some.factors)) c.product_in_lowest_terms.result (rw c.in-Some.is at c.in_ok-factors.ensures.answers)
      (subst (λ (xs : List Factor). Answers term_cause (found fraction_value)
      (product_made c.args.at (Some (factors_of xs))) c.product_in_lowest_terms.result)
      c.as_slice.ensures c.product_in_lowest_terms.ensures.answers);
}

-- a sum of several parts, or of one that isn't negated
pub constant_of_sum-returns-in_default-3 : goal.constant_of_sum-returns-in_default-3
constant_of_sum-returns-in_default-3 t c = record { answers = several_parts c.args.parts.now c.in_default.len_at_least }

pub constant_of_sum-returns-then-not-part : goal.constant_of_sum-returns-then-not-part
constant_of_sum-returns-then-not-part t c = record {
  answers = ap (λ ps. (find_negative ps).outcome) (only_part c.args.parts.now c.part-item.result false c.in-len1.len_at_least c.in-len1.len_below
      c.part-item.is c.if-not-part.true);
}

-- one part behind a minus
pub constant_of_sum-returns-in_err-constant : goal.constant_of_sum-returns-in_err-constant
constant_of_sum-returns-in_err-constant t c =
    let p = c.part-item.result in
    let one = only_part c.args.parts.now p true c.in-len1.len_at_least c.in-len1.len_below c.part-item.is c.if-not-part.false in
    let part = find_constant (tree_of p.ast) in
    let fault = c.in_err-constant.field-0.0 in
    record {
      answers = negated_answer (found fraction_value) c.args.parts.now p c.from_residual.result one
          (fault_answer term_cause (found fraction_value) (part then (λ f. gives
          (negative_of f))) c.from_residual.result fault c.from_residual.ensures.1
          (first_cause part (λ f. gives (negative_of f)) (term_cause fault) c.in_err-constant.ensures.answers));
    }

pub constant_of_sum-returns-in_default-2 : goal.constant_of_sum-returns-in_default-2
constant_of_sum-returns-in_default-2 t c =
    let p = c.part-item.result in
    let one = only_part c.args.parts.now p true c.in-len1.len_at_least c.in-len1.len_below c.part-item.is c.if-not-part.false in
    record {
      answers = ap (λ ps. (find_negative ps).outcome) one
          ∙ then_outcome (find_constant (tree_of p.ast)) (λ f. gives (negative_of f)) None
          (rw c.in_default-2.is at c.in_ok-constant.ensures.answers);
    }

pub constant_of_sum-returns : goal.constant_of_sum-returns
constant_of_sum-returns t c =
    let p = c.part-item.result in
    let one = only_part c.args.parts.now p true c.in-len1.len_at_least c.in-len1.len_below c.part-item.is c.if-not-part.false in
    record {
      answers = negated_answer (found fraction_value) c.args.parts.now p (Ok (Some c.negative.result)) one
          (then_outcome (find_constant (tree_of p.ast)) (λ f. gives (negative_of f)) (Some (fraction_value c.in-Some.constant))
          (rw c.in-Some.is at c.in_ok-constant.ensures.answers)
          ∙ ap (λ (f : Fraction). Ok (Some f)) (sym c.negative.ensures.negative));
    }

-- the nodes that may have a constant where they have no polynomial
pub constant_of_tree-returns-in-Sum : goal.constant_of_tree-returns-in-Sum
constant_of_tree-returns-in-Sum t c =
    let ps = c.in-Sum.parts in
    record {
      answers = other_answer (found fraction_value) c.args.tree.now (d.sum_of (parts_of ps)) (find_negative (parts_of ps)) c.constant_of_sum.result
          (ap node_of c.in-Sum.is ∙ node_of-sum ps) (sum_case c.args.tree.now.at (parts_of ps))
          (rw c.in_default.is at c.in_ok-polynomial.ensures.answers)
          (subst (λ (ps : List Part). Answers term_cause (found fraction_value)
          (find_negative (parts_of ps)) c.constant_of_sum.result) c.as_slice.ensures
          c.constant_of_sum.ensures.answers);
    }

pub constant_of_tree-returns-in-Product : goal.constant_of_tree-returns-in-Product
constant_of_tree-returns-in-Product t c =
    let ps = c.in-Product.parts in
    let at = c.args.tree.now.at in
    record {
      answers = other_answer (found fraction_value) c.args.tree.now (d.product_of (parts_of ps)) (find_constants (parts_of ps) then product_made at)
          c.constant_of_product.result (ap node_of c.in-Product.is ∙ node_of-product ps) refl
          (rw c.in_default.is at c.in_ok-polynomial.ensures.answers)
          (subst (λ (ps : List Part). Answers term_cause (found fraction_value)
          (find_constants (parts_of ps) then product_made at) c.constant_of_product.result)
          c.as_slice-in-Product.ensures c.constant_of_product.ensures.answers);
    }

pub constant_of_tree-returns-in_err-power-in-Pow : goal.constant_of_tree-returns-in_err-power-in-Pow
constant_of_tree-returns-in_err-power-in-Pow t c =
    let at = c.args.tree.now.at in
    let base = tree_of c.in-Pow.base in
    let e = tree_of c.in-Pow.exponent in
    let fault = c.in_err-power-in-Pow.field-0.0 in
    record {
      answers = other_answer (found fraction_value) c.args.tree.now (d.power_of base e)
          (find_exponent e then (λ x. where_some x (find_power at base)))
          c.from_residual-in_err-power-in-Pow.result (ap node_of c.in-Pow.is ∙ node_of-pow c.in-Pow.base c.in-Pow.exponent) (power_case at base e)
          (rw c.in_default.is at c.in_ok-polynomial.ensures.answers)
          (fault_answer term_cause (found fraction_value) (find_exponent e then (λ x. where_some x (find_power at base)))
          c.from_residual-in_err-power-in-Pow.result fault c.from_residual-in_err-power-in-Pow.ensures.1
          (first_cause (find_exponent e) (λ x. where_some x (find_power at base)) (term_cause fault)
          (subst (λ (a : Ast). HasCause (find_exponent (tree_of a)) (term_cause fault)) c.get.ensures c.in_err-power-in-Pow.ensures.answers)));
    }

pub constant_of_tree-returns-in-Some-2 : goal.constant_of_tree-returns-in-Some-2
constant_of_tree-returns-in-Some-2 t c =
    let at = c.args.tree.now.at in
    let base = tree_of c.in-Pow.base in
    let e = tree_of c.in-Pow.exponent in
    let result = c.constant_of_power.result in
    record {
      answers = other_answer (found fraction_value) c.args.tree.now (d.power_of base e)
          (find_exponent e then (λ x. where_some x (find_power at base)))
          result (ap node_of c.in-Pow.is ∙ node_of-pow c.in-Pow.base c.in-Pow.exponent) (power_case at base e)
          (rw c.in_default.is at c.in_ok-polynomial.ensures.answers)
          (later_answer term_cause (found fraction_value) (find_exponent e) (λ x. where_some x (find_power at base))
          (Some c.in-Some-2.power.value) result
          (subst (λ (a : Ast). (find_exponent (tree_of a)).outcome ≡ Ok (Some c.in-Some-2.power.value)) c.get.ensures
          (rw c.in-Some-2.is at c.in_ok-power-in-Pow.ensures.answers))
          (subst (λ (a : Ast). Answers term_cause (found fraction_value)
          (find_power at (tree_of a) c.in-Some-2.power.value) result) c.get-in-Pow.ensures
          c.constant_of_power.ensures.answers));
    }

-- one more part of a product
pub constants_of-returns-in_err-fraction : goal.constants_of-returns-in_err-fraction
constants_of-returns-in_err-fraction t c =
    let fault = c.in_err-fraction.field-0.0 in
    record {
      answers = fault_answer term_cause (found factors_of) (find_constants
          (parts_of c.args.parts.now)) c.from_residual.result fault c.from_residual.ensures.1
          (constant_fault c.args.parts.now c.loop-part.part-index c.part-item.result (factors_of c.loop-part.factors) c.loop-part-test.true
          c.part-item.is c.loop-part.invariant fault c.in_err-fraction.ensures.answers);
    }

pub constants_of-returns-in_default : goal.constants_of-returns-in_default
constants_of-returns-in_default t c = record {
  answers = constant_none c.args.parts.now c.loop-part.part-index c.part-item.result (factors_of c.loop-part.factors) c.loop-part-test.true
      c.part-item.is c.loop-part.invariant (rw c.in_default.is at c.in_ok-fraction.ensures.answers);
}

pub constants_of-loop-part-preserved : goal.constants_of-loop-part-preserved
constants_of-loop-part-preserved t c =
    let factor : Factor = record { turned = c.part-item.result.turned; fraction = c.in-Some.fraction } in
    subst (FoundBefore c.args.parts.now (c.loop-part.part-index + 1))
    (sym (ap factors_of c.in-Ok.ensures.ok ∙ map-append factor_of c.loop-part.factors (factor ∷ [])))
    (constant_done c.args.parts.now c.loop-part.part-index c.part-item.result (factors_of c.loop-part.factors) c.loop-part-test.true
    c.part-item.is c.loop-part.invariant (fraction_value c.in-Some.fraction) (rw c.in-Some.is at c.in_ok-fraction.ensures.answers))

-- all parts
pub constants_of-returns : goal.constants_of-returns
constants_of-returns t c = record {
  answers = all_found c.args.parts.now c.loop-part.part-index (factors_of c.loop-part.factors) (omega (arith, c.loop-part-test.false))
      c.loop-part.invariant;
}
