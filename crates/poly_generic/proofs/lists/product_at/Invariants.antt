use Rattle.std.proofs.Common.{◌≡◌, ◌≤◌, ◌+◌, ◌∷◌, map, drop, length}
use Rattle.poly_laws.specs.Lists.{coefficient_at, list_product}
use Rattle.poly_generic.proofs.lists.product_at.Given as goal

-- what is left of both lists together, and what the coefficients behind give
abbrev pub invariant-loop-left : goal.invariant-loop-left
invariant-loop-left g l = record {
  within : l.left ≤ length l.a;
  place : l.left + l.at ≡ l.last + 1 + l.first;
  made : g.R.Ring.meaning l.sum ≡ coefficient_at g.R.Ring.algebra.ops (g.R.Ring.algebra.ops.nought ∷ list_product g.R.Ring.algebra.ops
      (map g.R.Ring.meaning (drop l.left l.a)) (map g.R.Ring.meaning l.b)) l.at;
}

abbrev pub decreases-loop-left : goal.decreases-loop-left
decreases-loop-left g l = l.left
