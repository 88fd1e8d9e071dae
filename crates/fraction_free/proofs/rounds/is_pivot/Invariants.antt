use Rattle.std.proofs.Common.{drop}
use Rattle.kernel_laws.specs.Pivots.{IsPivotColumn}
use Rattle.fraction_free.specs.RoundAnswers.{pivots_meant}
use Rattle.fraction_free.proofs.rounds.is_pivot.Given as goal

-- no pivot row behind the loop has the column
abbrev pub invariant-loop-pivot : goal.invariant-loop-pivot
invariant-loop-pivot g l =
    IsPivotColumn l.column (pivots_meant g.R.Ring.meaning l.pivots) → IsPivotColumn l.column (pivots_meant g.R.Ring.meaning (drop l.pivot-index l.pivots))
