use Rattle.std.proofs.Common.{take}
use Rattle.whole_roots.specs.Differences.{polynomials}
use Rattle.reducing.proofs.RowQuotients.{AreProducts}
use Rattle.reducing.proofs.row_contents.quotients_by.Given as goal

-- the quotients of the entries that are behind the loop
abbrev pub invariant-loop-entry : goal.invariant-loop-entry
invariant-loop-entry l = AreProducts (take l.entry-index l.row) (polynomials.ops.whole l.divisor.value) l.quotients.items
