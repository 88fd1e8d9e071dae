use Rattle.std.proofs.Common.{◌≡◌, ◌≤◌, map, drop, length}
use Rattle.poly_laws.specs.Shift.{list_shift}
use Rattle.poly_generic.proofs.evaluation.shift_of_list.Given as goal

-- the shift of the coefficients from the power on
abbrev pub invariant-loop-power : goal.invariant-loop-power
invariant-loop-power g l = record {
  within : l.power ≤ length l.list;
  made : map g.R.Ring.meaning l.shifted.items ≡ list_shift g.R.Ring.algebra.ops (g.R.Ring.meaning l.by) (map g.R.Ring.meaning (drop l.power l.list));
}

abbrev pub decreases-loop-power : goal.decreases-loop-power
decreases-loop-power g l = l.power
