use Rattle.std.proofs.Common.{arith}
use Rattle.key_system.proofs.ColumnLists.{listing_pushed}
use Rattle.key_system.proofs.columns.unknown_columns.Goals as goal

pub loop-power-preserved : goal.loop-power-preserved
loop-power-preserved g c = record {
  within = omega (arith, c.loop-power-test.true);
  made = listing_pushed _ c.loop-power.columns.items c.push.new.self.items c.in_ok-item.item c.loop-power.power _ c.in_ok-push.ensures.items
      c.loop-power.invariant.made c.in_ok-item.ensures.gives;
}
