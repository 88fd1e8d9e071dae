use Rattle.tree_polynomials.specs.Factors.{factors_of}
use Rattle.tree_polynomials.proofs.ConstantNodes.{FoundBefore}
use Rattle.tree_polynomials.proofs.constants.+finding.Given as goal

-- the constants so far stand before those of the parts from here on
abbrev pub invariant-constants_of-loop-part : goal.invariant-constants_of-loop-part
invariant-constants_of-loop-part l = FoundBefore l.parts l.part-index (factors_of l.factors)
