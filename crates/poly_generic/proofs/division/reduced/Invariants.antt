use Rattle.std.proofs.Common.{◌≡◌, ◌+◌, ◌++◌, map, take, drop, length}
use Rattle.poly_laws.specs.LongDivision.{list_less}
use Rattle.poly_generic.proofs.division.reduced.Given as goal

-- the differences so far behind the front of the list, and the rest of the list as it was
abbrev pub invariant-loop-power : goal.invariant-loop-power
invariant-loop-power g l = record {
  same_length : length l.list.items ≡ l.from + length l.by;
  rest : drop (l.from + l.power) l.list.items ≡ drop (l.from + l.power) l.fn.list.items;
  made : map g.R.Ring.meaning (take (l.from + l.power) l.list.items)
      ≡ take l.from (map g.R.Ring.meaning l.fn.list.items)
      ++ take l.power (list_less g.R.Ring.algebra.ops (drop l.from (map g.R.Ring.meaning l.fn.list.items)) (g.R.Ring.meaning l.factor)
      (map g.R.Ring.meaning l.by));
}
