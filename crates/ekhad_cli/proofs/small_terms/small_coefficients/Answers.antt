use Rattle.proper_term.proofs.FieldPolynomials.{coefficient}
use Rattle.ekhad_cli.proofs.SmallTerms.{too_many, large_coefficient, coefficients_found}
use Rattle.ekhad_cli.proofs.small_terms.small_coefficients.Goals as goal

pub returns-then-coefficients-gt5-clause-none : goal.returns-then-coefficients-gt5-clause-none
returns-then-coefficients-gt5-clause-none c = λ _.
    too_many coefficient c.coefficients-coefficients.result.now _ c.coefficients-coefficients.ensures.coefficients c.if-coefficients-gt5.true

pub returns-in_err-numbers-clause-none : goal.returns-in_err-numbers-clause-none
returns-in_err-numbers-clause-none c = λ _.
    large_coefficient coefficient c.coefficients-coefficients.result.now _ c.loop-power.power c.index-coefficients-power.result
    c.coefficients-coefficients.ensures.coefficients c.loop-power-test.true c.index-coefficients-power.is c.in_err-numbers.ensures.constant

pub returns-clause-coefficients : goal.returns-clause-coefficients
returns-clause-coefficients c =
    coefficients_found coefficient c.coefficients-coefficients.result.now _ c.loop-power.numbers c.loop-power.power
    c.coefficients-coefficients.ensures.coefficients c.loop-power-test.false c.loop-power.invariant
