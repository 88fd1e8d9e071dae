use Rattle.std.proofs.Common.{◌≤◌, length}
use Rattle.reducing.specs.PolynomialAnswers.{LeastOf}
use Rattle.reducing.proofs.Polynomials.{senses}
use Rattle.reducing.proofs.least_entries.least_place.Given as goal

-- the least of the entries that are behind the loop
abbrev pub invariant-loop-next : goal.invariant-loop-next
invariant-loop-next l = record {
  within : l.next ≤ length l.row;
  least : LeastOf (senses l.row) l.next l.least;
}
