use Rattle.std.proofs.Common.{◌+◌, map, length}
use Rattle.poly_fraction.specs.FractionOf.{fraction_of}
use Rattle.proper_term.specs.Fields.{number_fraction_of}
use Rattle.proper_term.specs.Cancelled.{left_over, quotients}
use Rattle.proper_term.specs.Cursors.{argument_of, numbers_left, IsFilled}
use Rattle.proper_term.proofs.Runs.{Reached}
use Rattle.proper_term.proofs.factorials.times_factorials.Given as goal

-- the run has come here, and has the numbers of both cursors to go
abbrev pub invariant-loop-top : goal.invariant-loop-top
invariant-loop-top l = record {
  reached : Reached (number_fraction_of (fraction_of l.initial.running))
      (quotients (left_over (map argument_of l.above) (map argument_of l.below)) (left_over (map argument_of l.below) (map argument_of l.above)))
      (number_fraction_of (fraction_of l.running))
      (quotients (numbers_left (map argument_of l.above) (map argument_of l.below) l.top.at l.top.left)
      (numbers_left (map argument_of l.below) (map argument_of l.above) l.bottom.at l.bottom.left));
  top : IsFilled (map argument_of l.above) (map argument_of l.below) l.top.at l.top.left;
  bottom : IsFilled (map argument_of l.below) (map argument_of l.above) l.bottom.at l.bottom.left;
}

abbrev pub decreases-loop-top : goal.decreases-loop-top
decreases-loop-top l =
    length (numbers_left (map argument_of l.above) (map argument_of l.below) l.top.at l.top.left)
    + length (numbers_left (map argument_of l.below) (map argument_of l.above) l.bottom.at l.bottom.left)
