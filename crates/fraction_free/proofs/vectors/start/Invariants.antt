use Rattle.std.proofs.Common.{◌≡◌, ◌≤◌, map}
use Rattle.kernel_laws.specs.BackSubstitution.{zeros}
use Rattle.fraction_free.proofs.vectors.start.Given as goal

-- as many zeros as the loop has come
abbrev pub invariant-loop-column : goal.invariant-loop-column
invariant-loop-column g l = record {
  within : l._column ≤ l.columns;
  made : map g.R.Ring.meaning l.vector.items ≡ zeros g.R.Ring.algebra.ops l._column;
}
