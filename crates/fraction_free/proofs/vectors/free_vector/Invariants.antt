use Rattle.std.proofs.Common.{◌≤◌, map, length, drop}
use Rattle.kernel_laws.specs.BackSubstitution.{BackRun}
use Rattle.fraction_free.specs.RoundAnswers.{pivots_meant}
use Rattle.fraction_free.proofs.vectors.free_vector.Given as goal

-- the pivot rows from the place on are done
abbrev pub invariant-loop-at : goal.invariant-loop-at
invariant-loop-at g l = record {
  within : l.at ≤ length l.pivots;
  run : BackRun g.R.Ring.algebra g.R.Reducing.reduction l.columns l.free (pivots_meant g.R.Ring.meaning (drop l.at l.pivots))
      (map g.R.Ring.meaning l.vector.items);
}

abbrev pub decreases-loop-at : goal.decreases-loop-at
decreases-loop-at g l = l.at
