use Rattle.std.proofs.Common.{◌<◌, ◌^◌, map, take}
use Rattle.std.specs.Prelude.{IfSome}
use Rattle.proper_term.specs.Cursors.{argument_of, IsNextOf}
use Rattle.proper_term.proofs.arguments.next_in.Given as goal

-- the least of those that were passed
abbrev pub invariant-loop-argument : goal.invariant-loop-argument
invariant-loop-argument l = record {
  next : IsNextOf l.found l.from (map argument_of (take l.argument-index l.arguments));
  small : IfSome l.found (λ v. v < 2 ^ 72);
}
