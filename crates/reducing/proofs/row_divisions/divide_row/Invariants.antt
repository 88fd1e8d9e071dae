use Rattle.std.proofs.Common.{map, take}
use Rattle.kernel_laws.specs.RowSteps.{Quotients}
use Rattle.reducing.proofs.row_divisions.divide_row.Given as goal

-- the quotients of the entries that are behind the loop
abbrev pub invariant-loop-entry : goal.invariant-loop-entry
invariant-loop-entry g l =
    Quotients g.D.Ring.algebra (g.D.Ring.meaning l.divisor) (map g.D.Ring.meaning (take l.entry-index l.row)) (map g.D.Ring.meaning l.quotients.items)
