use Rattle.reducing.proofs.DividedInPlace.{DividedTo}
use Rattle.reducing.proofs.whole_rows.divided.Given as goal

-- the numbers before the place are divided, the others are as they were
abbrev pub invariant-loop-at : goal.invariant-loop-at
invariant-loop-at l = DividedTo l.fn.row.items l.divisor.value l.at l.quotients.items
