use Rattle.std.proofs.Common.{ℕ, ◌≤◌, List}
use Rattle.kernel_laws.specs.BackSubstitution.{FreeVectors}
use Rattle.fraction_free.specs.RowAnswers.{rows_meant}
use Rattle.fraction_free.specs.RoundAnswers.{pivots_meant}
use Rattle.fraction_free.proofs.kernels.kernel_basis.Given as goal

-- the vectors of the free columns behind the loop
abbrev pub invariant-loop-column : goal.invariant-loop-column
invariant-loop-column g l = record {
  within : l.column ≤ l.columns;
  frees : List ℕ;
  made : FreeVectors g.R.Ring.algebra g.R.Reducing.reduction l.columns (pivots_meant g.R.Ring.meaning l.pivots.items) l.column frees
      (rows_meant g.R.Ring.meaning l.vectors.items);
}
