use Rattle.std.specs.Prelude.{◌≤◌, length}
use Rattle.reducing.proofs.WithoutFactors.{AreTaken}
use Rattle.reducing.proofs.factors_out.without_factors.Given as goal

-- the factors that are behind the loop are taken out
abbrev pub invariant-loop-index : goal.invariant-loop-index
invariant-loop-index l = record {
  within : l.index ≤ length l.factors.entries;
  taken : AreTaken l.factors.entries l.index l.fn.row.items l.rest.items;
}
