use Rattle.std.proofs.Common.{◌≡◌, map, length}
use Rattle.poly_laws.specs.Lists.{trimmed}
use Rattle.poly_generic.proofs.lists.trim.Given as goal

abbrev pub invariant-loop-list : goal.invariant-loop-list
invariant-loop-list g l =
    trimmed g.R.Ring.algebra.ops (map g.R.Ring.meaning l.list.items) ≡ trimmed g.R.Ring.algebra.ops (map g.R.Ring.meaning l.fn.list.items)

abbrev pub decreases-loop-list : goal.decreases-loop-list
decreases-loop-list g l = length l.list.items
