use Rattle.std.proofs.Common.{◌≡◌, ◌≤◌, map, drop, length}
use Rattle.poly_laws.specs.Evaluation.{list_value}
use Rattle.poly_generic.proofs.evaluation.value_of_magnitudes.Given as goal

-- the value of the magnitudes from the power on
abbrev pub invariant-loop-power : goal.invariant-loop-power
invariant-loop-power g l = record {
  within : l.power ≤ length l.list;
  made : g.R.Ring.meaning l.value ≡ list_value g.R.Ring.algebra.ops (g.R.Ring.meaning l.at)
      (map g.R.Ring.algebra.ops.magnitude (map g.R.Ring.meaning (drop l.power l.list)));
}

abbrev pub decreases-loop-power : goal.decreases-loop-power
decreases-loop-power g l = l.power
