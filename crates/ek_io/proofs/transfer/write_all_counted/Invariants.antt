-- What is written is the front of the bytes as far as the loop has come.
use Rattle.std.proofs.Common.{length, ◌-◌, ◌≤◌, take}
use Rattle.std.specs.Io.KnownBytes.{Appends}
use Rattle.ek_io.specs.Faults.{NeverFalls}
use Rattle.ek_io.proofs.transfer.write_all_counted.Given as goal

abbrev pub invariant-loop-done : goal.invariant-loop-done
invariant-loop-done g l = record {
  within : l.done ≤ length l.bytes;
  written : Appends (g.O.Sink.written l.fn.sink) (g.O.Sink.written l.sink) (take l.done l.bytes);
  counted : NeverFalls (g.O.Sink.faults l.fn.sink) (g.O.Sink.faults l.sink);
}

abbrev pub decreases-loop-done : goal.decreases-loop-done
decreases-loop-done g l = length l.bytes - l.done
