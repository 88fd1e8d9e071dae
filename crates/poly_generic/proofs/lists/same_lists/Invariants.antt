use Rattle.std.proofs.Common.{◌≡◌, map, take}
use Rattle.poly_generic.proofs.lists.same_lists.Given as goal

abbrev pub invariant-loop-power : goal.invariant-loop-power
invariant-loop-power g l = map g.R.Ring.meaning (take l.power l.a) ≡ map g.R.Ring.meaning (take l.power l.b)
