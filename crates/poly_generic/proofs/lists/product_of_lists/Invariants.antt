use Rattle.std.proofs.Common.{◌≡◌, ◌≤◌, ◌+◌, ◌-◌, map, take, length}
use Rattle.poly_laws.specs.Lists.{list_product}
use Rattle.poly_generic.proofs.lists.product_of_lists.Given as goal

-- the coefficients so far
abbrev pub invariant-loop-last : goal.invariant-loop-last
invariant-loop-last g l =
    map g.R.Ring.meaning l.out.items
    ≡ take l.last (list_product g.R.Ring.algebra.ops (map g.R.Ring.meaning l.a) (map g.R.Ring.meaning l.b))

abbrev pub invariant-loop-first : goal.invariant-loop-first
invariant-loop-first g l = record {
  from_one : 1 ≤ l.first;
  made : map g.R.Ring.meaning l.out.items
      ≡ take (length l.a - 1 + l.first) (list_product g.R.Ring.algebra.ops (map g.R.Ring.meaning l.a) (map g.R.Ring.meaning l.b));
}
