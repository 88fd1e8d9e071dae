use Rattle.std.proofs.Common.{◌≡◌, ◌*◌, ◌≤◌, ◌<◌, ◌^◌, map, take}
use Rattle.proper_term.specs.Cancelled.{at_least}
use Rattle.proper_term.specs.Cursors.{argument_of}
use Rattle.proper_term.proofs.arguments.times_in.Given as goal

-- the sum of those that were passed
abbrev pub invariant-loop-argument : goal.invariant-loop-argument
invariant-loop-argument l = record {
  times : l.times ≡ at_least (map argument_of (take l.argument-index l.arguments)) l.number;
  within : 0 < l.times → l.number < 2 ^ 72;
  small : l.times ≤ 2 ^ 32 * l.argument-index;
}
