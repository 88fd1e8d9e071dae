use Rattle.std.proofs.Common.{◌≡◌, ◌<◌, ℕ, map, take}
use Rattle.poly_laws.specs.Bounds.{SumInBoundsAt}
use Rattle.poly_laws.specs.Lists.{list_sum}
use Rattle.poly_generic.proofs.lists.differences.Given as goal

abbrev pub invariant-loop-power : goal.invariant-loop-power
invariant-loop-power g l = record {
  in_bounds : (k : ℕ) → k < l.power → SumInBoundsAt g.R.Ring.algebra (map g.R.Ring.meaning l.a) (map g.R.Ring.meaning l.b) k;
  made : map g.R.Ring.meaning l.out.items ≡ take l.power (list_sum g.R.Ring.algebra.ops (map g.R.Ring.meaning l.a)
      (map g.R.Ring.algebra.ops.neg (map g.R.Ring.meaning l.b)));
}
