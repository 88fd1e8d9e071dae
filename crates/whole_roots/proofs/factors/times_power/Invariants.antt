use Rattle.std.proofs.Common.{◌≡◌, pos, ◌*ℤ◌, ◌^◌, unsigned_abs}
use Rattle.whole_roots.proofs.factors.times_power.Given as goal

-- the number times the power so far
abbrev pub invariant-loop-turn : goal.invariant-loop-turn
invariant-loop-turn l = l.product.value ≡ l.fn.number.value *ℤ pos (unsigned_abs l.slope.value ^ l._turn)
