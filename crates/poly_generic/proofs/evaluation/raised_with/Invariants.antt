use Rattle.std.proofs.Common.{◌≡◌, ◌∷◌, ◌++◌, map, take, drop, length}
use Rattle.poly_laws.specs.Lists.{coefficient_at}
use Rattle.poly_generic.proofs.Raising.{raised_on}
use Rattle.poly_generic.proofs.evaluation.raised_with.Given as goal

-- the places so far and what the rest is to become are the whole, and the rest is as it was
abbrev pub invariant-loop-power : goal.invariant-loop-power
invariant-loop-power g l = record {
  same_length : length l.list.items ≡ length l.fn.list.items;
  rest : drop l.power l.list.items ≡ drop l.power l.fn.list.items;
  below : g.R.Ring.meaning l.below ≡ coefficient_at g.R.Ring.algebra.ops (g.R.Ring.meaning l.constant ∷ map g.R.Ring.meaning l.fn.list.items) l.power;
  made : raised_on g.R.Ring.algebra.ops (g.R.Ring.meaning l.by) (g.R.Ring.meaning l.constant) (map g.R.Ring.meaning l.fn.list.items)
      ≡ map g.R.Ring.meaning (take l.power l.list.items)
      ++ raised_on g.R.Ring.algebra.ops (g.R.Ring.meaning l.by) (g.R.Ring.meaning l.below) (map g.R.Ring.meaning (drop l.power l.fn.list.items));
}
