use Rattle.std.proofs.Common.{◌≡◌, ◌≤◌, IsFalse, length, All}
use Rattle.kernel_laws.specs.Pivots.{ArePivotColumns}
use Rattle.kernel_laws.specs.Elimination.{Run}
use Rattle.fraction_free.specs.RowAnswers.{rows_meant}
use Rattle.fraction_free.specs.RoundAnswers.{pivots_meant, HasCore}
use Rattle.fraction_free.proofs.rounds.pivot_rows.Given as goal

-- the columns that are behind the loop are done
abbrev pub invariant-loop-column : goal.invariant-loop-column
invariant-loop-column g l = record {
  within : l.column ≤ l.columns;
  sizes : All (λ row. length row.items ≡ l.columns) l.open.items;
  run : Run g.R.Ring.algebra g.R.Reducing.reduction (rows_meant g.R.Ring.meaning l.fn.rows.items) l.column (rows_meant g.R.Ring.meaning l.open.items)
      (pivots_meant g.R.Ring.meaning l.pivots.items) (g.R.Ring.meaning l.divisor);
  cores : All (HasCore g.R.Ring.meaning g.R.Ring.algebra g.R.Reducing.reduction) l.pivots.items;
  pivot_columns : ArePivotColumns l.first l.column (pivots_meant g.R.Ring.meaning l.pivots.items);
  not_zero : IsFalse (g.R.Ring.algebra.ops.is_nought (g.R.Ring.meaning l.divisor));
}
