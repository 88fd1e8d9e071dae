use Rattle.std.proofs.Common.{◌≡◌, ◌≤◌, ◌*◌, ◌-◌, ◌^◌, ◌+ℤ◌, ◌*ℤ◌, pos, unsigned_abs, drop, length}
use Rattle.ring_laws.specs.declared.wholes.Whole.{Whole}
use Rattle.poly_laws.specs.Values.{horner}
use Rattle.whole_roots.proofs.signs.sign_near.Given as goal

-- the value of the coefficients from the power on, in two words
abbrev pub invariant-loop-power : goal.invariant-loop-power
invariant-loop-power l = record {
  within : l.power ≤ length l.list;
  words : horner (λ (w : Whole). w.value) l.at (drop l.power l.list) ≡ l.high *ℤ pos (2 ^ 64) +ℤ l.low;
  high_bound : unsigned_abs l.high ≤ (length l.list - l.power) * 2 ^ 63;
  low_bound : unsigned_abs l.low ≤ (length l.list - l.power) * 2 ^ 64;
}

abbrev pub decreases-loop-power : goal.decreases-loop-power
decreases-loop-power l = l.power
