use Rattle.std.proofs.Common.{map, take, IsTrue}
use Rattle.poly_laws.specs.LongDivision.{all_nought}
use Rattle.poly_generic.proofs.division.all_zero.Given as goal

abbrev pub invariant-loop-item : goal.invariant-loop-item
invariant-loop-item g l = IsTrue (all_nought g.R.Ring.algebra.ops (map g.R.Ring.meaning (take l.item-index l.list)))
