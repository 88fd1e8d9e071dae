use Rattle.std.proofs.Common.{map, sym, subst, arith}
use Rattle.polynomial_sums.specs.PolynomialSums.{IsFree}
use Rattle.polynomial_sums.proofs.Placing.{free_set}
use Rattle.spelled.specs.Monomials.{monomial_of}
use Rattle.polynomial_lines.specs.Letters.{letter_of}
use Rattle.polynomial_lines.proofs.PushSteps.{one_pushed}
use Rattle.polynomial_lines.proofs.polys.push_falling.Goals as goal

-- the powers with that of the letter have none of the letters of the coefficient
pub push_monomials-requires-clause-others : goal.push_monomials-requires-clause-others
push_monomials-requires-clause-others g c =
    let inner = map letter_of c.args.inner.now in
    subst (IsFree inner) (sym c.with_power-placed.ensures.monomial)
    (free_set (letter_of c.args.letter) _ inner (monomial_of c.args.powers.now) c.requires.distinct.0 c.requires.others.1)

pub loop-power-preserved : goal.loop-power-preserved
loop-power-preserved g c = record {
  within = omega (arith, c.loop-power.invariant.within);
  pushed = one_pushed g.R.Ring.meaning (letter_of c.args.letter) (map letter_of c.args.inner.now) c.requires.distinct.0
      (monomial_of c.args.powers.now) c.requires.others.0 c.args.coefficients.now c.loop-power.power c.index-coefficients-power.result _ _ _
      (monomial_of c.with_power-placed.result) (omega (arith, c.loop-power-test.true))
      (omega (arith, c.loop-power.invariant.within, c.loop-power-test.true))
      c.index-coefficients-power.is c.with_power-placed.ensures.monomial c.loop-power.invariant.pushed c.in_ok-push_monomials.ensures.pushed;
}
