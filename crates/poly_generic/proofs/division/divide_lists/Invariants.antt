use Rattle.std.proofs.Common.{◌≡◌, ◌≤◌, ◌+◌, map, take, drop, length, reverse}
use Rattle.poly_laws.specs.LongDivision.{Divided}
use Rattle.poly_generic.proofs.division.divide_lists.Given as goal

-- the coefficients that are still to come stand in their places, and the rest of those from the power on behind them
abbrev pub invariant-loop-power : goal.invariant-loop-power
invariant-loop-power g l = record {
  within : l.power ≤ length l.list;
  places : length l.rest.items ≡ l.power + length l.low;
  front : take l.power (map g.D.Ring.meaning l.rest.items) ≡ take l.power (map g.D.Ring.meaning l.list);
  run : Divided g.D.Ring.algebra (map g.D.Ring.meaning l.low) (g.D.Ring.meaning l.lead) (map g.D.Ring.meaning (drop l.power l.list))
      (map g.D.Ring.meaning (reverse l.quotient.items)) (drop l.power (map g.D.Ring.meaning l.rest.items));
}

abbrev pub decreases-loop-power : goal.decreases-loop-power
decreases-loop-power g l = l.power
