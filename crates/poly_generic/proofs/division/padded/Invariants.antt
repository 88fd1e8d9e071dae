use Rattle.std.proofs.Common.{◌≡◌, ◌++◌, map, replicate}
use Rattle.poly_generic.proofs.division.padded.Given as goal

abbrev pub invariant-loop-at : goal.invariant-loop-at
invariant-loop-at g l = map g.R.Ring.meaning l.out.items ≡ map g.R.Ring.meaning l.list ++ replicate l.at g.R.Ring.algebra.ops.nought
