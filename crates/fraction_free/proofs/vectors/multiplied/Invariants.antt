use Rattle.std.proofs.Common.{◌≡◌, map, take}
use Rattle.fraction_free.proofs.vectors.multiplied.Given as goal

-- the products of the entries that are behind the loop
abbrev pub invariant-loop-entry : goal.invariant-loop-entry
invariant-loop-entry g l =
    map g.R.Ring.meaning l.out.items
    ≡ take l.entry-index (map (g.R.Ring.algebra.ops.product (g.R.Ring.meaning l.factor)) (map g.R.Ring.meaning l.vector))
