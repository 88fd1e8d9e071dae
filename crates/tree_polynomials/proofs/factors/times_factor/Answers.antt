use Rattle.std.proofs.Common.{◌*◌, sym, subst}
use Rattle.steps.specs.Answers.{HasCause}
use Rattle.steps.specs.Operations.{of_fraction}
use Rattle.steps.specs.Steps.{makes}
use Rattle.steps.specs.TermFaults.{fault_of, term_cause}
use Rattle.steps.specs.declared.faults.TermFault.{TermFault}
use Rattle.poly_fraction.specs.FractionOf.{fraction_of}
use Rattle.hypergeometric.specs.Fraction.{Fraction, fraction_product}
use Rattle.hypergeometric.specs.Divisors.{size_of_top, size_of_bottom}
use Rattle.term_classes.specs.Finding.{factor_fraction}
use Rattle.tree_polynomials.specs.Factors.{factor_of}
use Rattle.tree_polynomials.specs.Views.{fraction_value}
use Rattle.tree_polynomials.proofs.FactorProducts.{product_fault}
use Rattle.tree_polynomials.proofs.factors.times_factor.Goals as goal

-- the product is out of bounds
pub returns-in-Err : goal.returns-in-Err
returns-in-Err c =
    let f = fraction_value c.args.product.now in
    let cause : Fraction → TermFault → Type 0 =
    λ g fault. HasCause (makes c.args.at (of_fraction (size_of_top f * size_of_top g) (size_of_bottom f * size_of_bottom g))
    (fraction_product f g)) (term_cause fault) in
    record {
      answers = subst (cause (factor_fraction (factor_of c.args.factor.now))) (sym c.fault_at.ensures.fault)
          (subst (λ (g : Fraction). cause g (fault_of c.args.at c.in-Err.fault)) c.multiplier-multiplier.ensures.fraction
          (product_fault c.args.at (fraction_of c.args.product.now) (fraction_of c.multiplier-multiplier.result) c.in-Err.fault
          c.in-Err.ensures.gives));
    }
