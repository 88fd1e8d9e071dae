use Rattle.std.proofs.Common.{◌≡◌, map, ◌++◌}
use Rattle.std.specs.List.{AllZip}
use Rattle.std.specs.Vec.Iter.{into_iter_items}
use Rattle.kernel_laws.specs.Elimination.{Cleared}
use Rattle.fraction_free.specs.RowAnswers.{rows_meant}
use Rattle.fraction_free.proofs.rounds.clear_rows.Given as goal

-- what has become of the rows that are behind the loop
abbrev pub invariant-loop-row : goal.invariant-loop-row
invariant-loop-row g l = record {
  can : (goal.iterator-loop-row g).can_next l.row-iterator;
  finite : (goal.iterator-loop-row g).is_finite l.row-iterator;
  whole : l.yielded ++ into_iter_items l.row-iterator ≡ l.fn.rows.items;
  done : AllZip (Cleared g.R.Ring.algebra g.R.Reducing.reduction (g.R.Ring.meaning l.divisor) l.column (map g.R.Ring.meaning l.pivot)) (rows_meant g.R.Ring.meaning l.yielded) (rows_meant g.R.Ring.meaning l.out.items);
}
