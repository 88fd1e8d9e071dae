use Rattle.std.proofs.Common.{◌≡◌, ◌≤◌, ◌-◌, ◌∷◌, List, map, length}
use Rattle.ring_laws.specs.Meaning.{Meaning}
use Rattle.polynomial_sums.specs.PolynomialSums.{falling, monomials_of, times, IsFree}
use Rattle.spelled.specs.Monomials.{MonomialValue, monomial_of}
use Rattle.polynomial_lines.specs.Letters.{letter_of}
use Rattle.polynomial_lines.specs.Coefficients.{AreCoefficients}
use Rattle.polynomial_lines.proofs.ReadSteps.{AreAhead}
use Rattle.polynomial_lines.proofs.polys.read_falling.Given as goal

abbrev pub invariant-loop-rest : goal.invariant-loop-rest
invariant-loop-rest g l = record {
  short : length l.coefficients.items ≤ 256;
  read : (powers : MonomialValue) (cs : List Meaning) → AreCoefficients g.R.PolynomialRing.levels cs → length cs ≤ 256
      → IsFree (letter_of l.letter ∷ map letter_of l.inner) powers
      → map monomial_of l.monomials ≡ map (times powers) (falling (letter_of l.letter) (monomials_of (map letter_of l.inner)) cs 0)
      → AreAhead (letter_of l.letter) (map letter_of l.inner) g.R.PolynomialRing.levels powers cs (map g.R.Ring.meaning l.coefficients.items)
      (map monomial_of l.rest);
}

-- each turn has one coefficient more
abbrev pub decreases-loop-rest : goal.decreases-loop-rest
decreases-loop-rest g l = 256 - length l.coefficients.items
