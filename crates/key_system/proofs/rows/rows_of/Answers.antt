use Rattle.std.proofs.Common.{arith}
use Rattle.key_system.proofs.RowLists.{row_moved}
use Rattle.key_system.proofs.rows.rows_of.Goals as goal

pub loop-power-preserved : goal.loop-power-preserved
loop-power-preserved g c = record {
  small = omega (arith, c.loop-power.invariant.small);
  made = row_moved g.B.Ring.algebra.ops _ _ _ _ _ c.loop-power.power _ (omega (arith, c.loop-power-test.true)) c.in_ok-row.ensures.gives
      c.in_ok-rows.ensures.rows c.loop-power.invariant.made;
}
