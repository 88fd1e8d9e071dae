use Rattle.std.proofs.Common.{◌+◌, ◌*◌, drop, subst}
use Rattle.steps.specs.Operations.{of_fraction}
use Rattle.steps.specs.Steps.{makes}
use Rattle.steps.specs.TermFaults.{term_cause}
use Rattle.steps.proofs.AnswerLaws.{fault_answer}
use Rattle.steps.proofs.LargerCounterparts.{larger_cause}
use Rattle.steps.proofs.StepLaws.{same_Ok}
use Rattle.hypergeometric.specs.Fraction.{Fraction, fraction_product}
use Rattle.hypergeometric.specs.Divisors.{size_of_top, size_of_bottom}
use Rattle.term_classes.specs.Finding.{factor_fraction, product_of_fractions, top_sizes, bottom_sizes}
use Rattle.tree_polynomials.specs.Factors.{factor_of, factors_of}
use Rattle.tree_polynomials.specs.Views.{fraction_value}
use Rattle.tree_polynomials.proofs.FactorProducts.{IsLeft, left_at, one_less, next_in_bounds}
use Rattle.tree_polynomials.proofs.factors.product_of.Goals as goal

-- one more factor
pub loop-factor-preserved : goal.loop-factor-preserved
loop-factor-preserved c =
    let done = fraction_value c.loop-factor.product in
    let all = factors_of c.args.factors.now in
    let rest = factors_of (drop (c.loop-factor.factor-index + 1) c.args.factors.now) in
    let x = factor_of c.factor-item.result in
    let left = left_at done c.args.factors.now c.loop-factor.factor-index c.factor-item.result c.loop-factor-test.true c.factor-item.is
    c.loop-factor.invariant in
    subst (λ (f : Fraction). IsLeft f rest all)
    (same_Ok (fraction_product done (factor_fraction x)) (fraction_value c.in_ok-product.product) c.in_ok-product.ensures.answers)
    (one_less done x rest all left)

-- a product out of bounds shows that the whole is
pub returns-in_err-product : goal.returns-in_err-product
returns-in_err-product c =
    let done = fraction_value c.loop-factor.product in
    let all = factors_of c.args.factors.now in
    let rest = factors_of (drop (c.loop-factor.factor-index + 1) c.args.factors.now) in
    let x = factor_of c.factor-item.result in
    let left = left_at done c.args.factors.now c.loop-factor.factor-index c.factor-item.result c.loop-factor-test.true c.factor-item.is
    c.loop-factor.invariant in
    record {
      answers = fault_answer term_cause fraction_value (makes c.args.at (of_fraction (top_sizes all) (bottom_sizes all)) (product_of_fractions all))
          c.from_residual.result c.in_err-product.field-0.0 c.from_residual.ensures.1
          (larger_cause c.args.at
          (of_fraction (size_of_top done * size_of_top (factor_fraction x)) (size_of_bottom done * size_of_bottom (factor_fraction x)))
          (of_fraction (top_sizes all) (bottom_sizes all)) (fraction_product done (factor_fraction x)) (product_of_fractions all)
          (term_cause c.in_err-product.field-0.0) (next_in_bounds done x rest all left) c.in_err-product.ensures.answers);
    }
