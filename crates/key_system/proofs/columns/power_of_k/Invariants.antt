use Rattle.std.proofs.Common.{◌≡◌, ◌≤◌, map, replicate}
use Rattle.key_system.proofs.columns.power_of_k.Given as goal

-- zeros so far
abbrev pub invariant-loop-at : goal.invariant-loop-at
invariant-loop-at g l = record {
  within : l._at ≤ l.power;
  zeros : map g.B.Ring.meaning l.list.items ≡ replicate l._at g.B.Ring.algebra.ops.nought;
}
