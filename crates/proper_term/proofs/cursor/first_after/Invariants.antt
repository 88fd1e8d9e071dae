use Rattle.std.proofs.Common.{◌≡◌, ◌≤◌, ◌<◌, ◌-◌, ◌^◌, map}
use Rattle.proper_term.specs.Cursors.{argument_of, numbers_left}
use Rattle.proper_term.proofs.cursor.first_after.Given as goal

-- the numbers that were passed don't stand above more often than below
abbrev pub invariant-loop-at : goal.invariant-loop-at
invariant-loop-at l = record {
  same : numbers_left (map argument_of l.above) (map argument_of l.below) l.at 0
      ≡ numbers_left (map argument_of l.above) (map argument_of l.below) l.initial.at 0;
  some : 1 ≤ l.at;
  small : l.at < 2 ^ 72;
}

abbrev pub decreases-loop-at : goal.decreases-loop-at
decreases-loop-at l = 2 ^ 72 - l.at
