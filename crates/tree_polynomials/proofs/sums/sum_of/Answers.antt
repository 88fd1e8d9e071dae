use Rattle.std.proofs.Common.{arith}
use Rattle.ring_laws.specs.Answer.{fault_weaker}
use Rattle.lin_form.proofs.ListProducts.{fault_list}
use Rattle.proper_term.proofs.FieldPolynomials.{polynomial_kept}
use Rattle.tree_polynomials.proofs.SumSizes.{sum_out}
use Rattle.tree_polynomials.proofs.PolynomialMeanings.{meaning_of}
use Rattle.tree_polynomials.proofs.sums.sum_of.Goals as goal

-- a step that is out of bounds
pub returns-in_err-sum-2-clause-too_large : goal.returns-in_err-sum-2-clause-too_large
returns-in_err-sum-2-clause-too_large c =
    fault_list _ c.from_residual-in_err-sum-2.result c.in_err-sum-2.field-0.0 c.from_residual-in_err-sum-2.ensures.1
    (fault_weaker c.in_err-sum-2.field-0.0
    (sum_out c.args.polynomials.now meaning_of (λ p. (polynomial_kept p.list.items p.ended p.short).passes)
    c.loop-index.index c.index-polynomials-index.result (meaning_of c.loop-index.sum)
    (omega (arith, c.loop-index-test.true)) c.loop-index.invariant.within c.index-polynomials-index.is c.loop-index.invariant.sum)
    c.in_err-sum-2.ensures.gives)
