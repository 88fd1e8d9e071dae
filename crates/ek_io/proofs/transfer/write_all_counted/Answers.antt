-- The front of the rest that this call took makes the front of the whole longer.
use Rattle.std.proofs.Common.{arith}
use Rattle.ek_io.proofs.Composition.{appends_next, NeverFalls-trans}
use Rattle.ek_io.proofs.transfer.write_all_counted.Goals as goal

pub loop-done-preserved : goal.loop-done-preserved
loop-done-preserved g c = record {
  within = omega (arith, c.in_ok-count.ensures.bound);
  written = appends_next _ _ _ _ c.loop-done.done c.in_ok-count.count c.loop-done.invariant.written c.in_ok-count.ensures.taken;
  counted = NeverFalls-trans _ _ _ c.loop-done.invariant.counted c.in_ok-count.ensures.counted;
}
