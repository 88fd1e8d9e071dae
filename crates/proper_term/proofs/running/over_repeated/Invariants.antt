use Rattle.std.specs.Prelude.{replicate, pos}
use Rattle.poly_fraction.specs.FractionOf.{fraction_of}
use Rattle.proper_term.specs.Fields.{number_fraction_of, number_fraction}
use Rattle.proper_term.proofs.Runs.{Reached}
use Rattle.proper_term.proofs.running.over_repeated.Given as goal

-- the run has come here, and has so many factors to go
abbrev pub invariant-loop-left : goal.invariant-loop-left
invariant-loop-left l =
    Reached (number_fraction_of (fraction_of l.initial.running)) (replicate l.count (number_fraction (pos 1) l.number.value))
    (number_fraction_of (fraction_of l.running)) (replicate l.left (number_fraction (pos 1) l.number.value))

abbrev pub decreases-loop-left : goal.decreases-loop-left
decreases-loop-left l = l.left
