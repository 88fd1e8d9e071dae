use Rattle.std.proofs.Common.{◌≡◌, map, take}
use Rattle.kernel_laws.specs.RowSteps.{crossed}
use Rattle.fraction_free.proofs.rows.cross_rows.Given as goal

-- the entries that are behind the loop
abbrev pub invariant-loop-column : goal.invariant-loop-column
invariant-loop-column g l =
    map g.R.Ring.meaning l.out.items
    ≡ take l.column (crossed g.R.Ring.algebra.ops (g.R.Ring.meaning l.p) (map g.R.Ring.meaning l.row) (g.R.Ring.meaning l.e) (map g.R.Ring.meaning l.pivot))
