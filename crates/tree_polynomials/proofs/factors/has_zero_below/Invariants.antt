use Rattle.std.proofs.Common.{◌≡◌, drop}
use Rattle.term_classes.specs.Finding.{divides_by_zero}
use Rattle.tree_polynomials.specs.Factors.{factors_of}
use Rattle.tree_polynomials.proofs.factors.has_zero_below.Given as goal

-- the factors from here on decide
abbrev pub invariant-loop-factor : goal.invariant-loop-factor
invariant-loop-factor l = divides_by_zero (factors_of (drop l.factor-index l.factors)) ≡ divides_by_zero (factors_of l.factors)
