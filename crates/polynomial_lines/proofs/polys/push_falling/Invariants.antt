use Rattle.std.proofs.Common.{◌≡◌, ◌≤◌, ◌++◌, map, length, drop}
use Rattle.polynomial_sums.specs.PolynomialSums.{falling, monomials_of, times}
use Rattle.spelled.specs.Monomials.{monomial_of}
use Rattle.polynomial_lines.specs.Letters.{letter_of}
use Rattle.polynomial_lines.proofs.polys.push_falling.Given as goal

-- the monomials of the coefficients from the power on are appended
abbrev pub invariant-loop-power : goal.invariant-loop-power
invariant-loop-power g l = record {
  within : l.power ≤ length l.coefficients;
  pushed : map monomial_of l.monomials.items ≡ map monomial_of l.fn.monomials.items
      ++ map (times (monomial_of l.powers)) (falling (letter_of l.letter) (monomials_of (map letter_of l.inner))
      (map g.R.Ring.meaning (drop l.power l.coefficients)) l.power);
}

abbrev pub decreases-loop-power : goal.decreases-loop-power
decreases-loop-power g l = l.power
