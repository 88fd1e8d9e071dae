use Rattle.std.proofs.Common.{◌≡◌, ◌≤◌, map, drop, length}
use Rattle.poly_generic.specs.MagnitudeSum.{magnitude_sum}
use Rattle.poly_generic.proofs.products.sum_of_magnitudes.Given as goal

-- the sum of the magnitudes from the power on
abbrev pub invariant-loop-power : goal.invariant-loop-power
invariant-loop-power g l = record {
  within : l.power ≤ length l.list;
  made : g.R.Ring.meaning l.sum ≡ magnitude_sum g.R.Ring.algebra.ops (map g.R.Ring.meaning (drop l.power l.list));
}

abbrev pub decreases-loop-power : goal.decreases-loop-power
decreases-loop-power g l = l.power
