use Rattle.std.proofs.Common.{◌≡◌, ◌+◌, ◌-◌, ◌≤◌, map, length}
use Rattle.kernel_laws.specs.Rows.{entry_at, total}
use Rattle.fraction_free.proofs.vectors.row_times.Given as goal

-- the sum of the products from the place on
abbrev pub invariant-loop-at : goal.invariant-loop-at
invariant-loop-at g l = record {
  within : l.at ≤ length l.vector;
  made : g.R.Ring.meaning l.sum ≡ total g.R.Ring.algebra.ops (length l.vector - l.at)
      (λ k. g.R.Ring.algebra.ops.product (entry_at g.R.Ring.algebra.ops (map g.R.Ring.meaning l.row) (l.at + k))
      (entry_at g.R.Ring.algebra.ops (map g.R.Ring.meaning l.vector) (l.at + k)));
}

abbrev pub decreases-loop-at : goal.decreases-loop-at
decreases-loop-at g l = l.at
