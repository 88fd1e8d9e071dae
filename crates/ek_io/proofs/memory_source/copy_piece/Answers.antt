-- What stands at the front of the buffer is the front of what was left.
use Rattle.std.proofs.Common.{arith, drop, ◌++◌}
use Rattle.std.proofs.lemmas.Grind.{common_steps}
use Rattle.ek_io.proofs.Composition.{left-after_front}
use Rattle.ek_io.proofs.memory_source.copy_piece.Goals as goal

pub returns-clause-rest : goal.returns-clause-rest
returns-clause-rest c =
    let buffer = c.copy_from_slice.new.self ++ drop c.min-count.result c.args.into.now in
    left-after_front c.args.bytes.now buffer c.args.at c.min-count.result (grind (arith, common_steps))
