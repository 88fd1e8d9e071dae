use Rattle.std.proofs.Common.{◌≡◌, ◌++◌, map, ap, subst}
use Rattle.std.specs.Result.{OnOk}
use Rattle.polynomial_sums.specs.PolynomialSums.{times}
use Rattle.spelled.specs.Monomials.{monomial_of}
use Rattle.polynomial_lines.specs.Letters.{letter_of}
use Rattle.polynomial_lines.proofs.PushSteps.{of_all}
use Rattle.polynomial_lines.proofs.polys.PolyPolynomialRing.push_monomials.Goals as goal

pub returns-in-Some : goal.returns-in-Some
returns-in-Some g c = record {
  pushed = subst (λ t. OnOk c.push_falling.result (map monomial_of c.push_falling.new.monomials.items
      ≡ map monomial_of c.args.monomials.now.items ++ map (times (monomial_of c.args.powers.now)) t))
      (of_all g.R.Ring.meaning (letter_of c.in-Some.letter.now) (map letter_of c.in-Some.inner.now) (map letter_of c.args.letters.now)
      c.coefficients.result.now _ (ap (map letter_of) c.in-Some.ensures.cases.0) c.coefficients.ensures.coefficients) c.push_falling.ensures.pushed;
}
