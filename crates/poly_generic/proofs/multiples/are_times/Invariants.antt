use Rattle.std.proofs.Common.{◌≡◌, map, take}
use Rattle.poly_generic.proofs.multiples.are_times.Given as goal

-- so far each item is the number times its counterpart
abbrev pub invariant-loop-power : goal.invariant-loop-power
invariant-loop-power g l =
    map (λ y. g.D.Ring.algebra.ops.product (g.D.Ring.algebra.ops.whole l.number.value) (g.D.Ring.meaning y)) (take l.power l.by)
    ≡ map g.D.Ring.meaning (take l.power l.list)
