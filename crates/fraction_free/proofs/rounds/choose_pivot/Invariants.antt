use Rattle.std.proofs.Common.{◌≤◌, length}
use Rattle.fraction_free.specs.RowAnswers.{rows_meant}
use Rattle.fraction_free.specs.RoundAnswers.{Best}
use Rattle.fraction_free.proofs.rounds.choose_pivot.Given as goal

-- the best of the rows that are behind the loop
abbrev pub invariant-loop-next : goal.invariant-loop-next
invariant-loop-next g l = record {
  within : l.next ≤ length l.rows;
  best : Best g.R.Ring.algebra g.R.Reducing.reduction l.column (rows_meant g.R.Ring.meaning l.rows) l.next l.best;
}
