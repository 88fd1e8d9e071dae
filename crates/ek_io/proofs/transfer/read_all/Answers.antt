-- Where memory ends, the bytes of this read are gone as well as those before.
use Rattle.std.proofs.Common.{arith}
use Rattle.std.proofs.lemmas.Grind.{common_steps}
use Rattle.ek_io.proofs.Composition.{TakesAtMost-trans}
use Rattle.ek_io.proofs.transfer.read_all.Goals as goal

pub returns-then-is_err-clause-given_up : goal.returns-then-is_err-clause-given_up
returns-then-is_err-clause-given_up g c =
    TakesAtMost-trans _ _ _ _ _ _ (grind (arith, common_steps, c.in-Ok.ensures.bound)) c.loop-chunk.invariant.taken c.in-Ok.ensures.taken
