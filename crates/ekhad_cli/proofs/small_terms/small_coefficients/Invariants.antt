use Rattle.std.proofs.Common.{map}
use Rattle.proper_term.proofs.FieldPolynomials.{coefficient}
use Rattle.ekhad_cli.proofs.SmallTerms.{AreNumbersUpTo}
use Rattle.ekhad_cli.proofs.small_terms.small_coefficients.Given as goal

-- the numbers so far are those of the first coefficients
abbrev pub invariant-loop-power : goal.invariant-loop-power
invariant-loop-power l = AreNumbersUpTo l.power (map coefficient l.coefficients) l.numbers
