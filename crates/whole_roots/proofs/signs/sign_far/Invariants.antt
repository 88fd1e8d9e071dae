use Rattle.std.proofs.Common.{◌≤◌, drop, length}
use Rattle.ring_laws.specs.declared.wholes.Whole.{Whole}
use Rattle.poly_laws.specs.Values.{horner}
use Rattle.whole_roots.specs.Clamps.{IsClamped}
use Rattle.whole_roots.proofs.signs.sign_far.Given as goal

-- the value of the coefficients from the power on, cut off
abbrev pub invariant-loop-power : goal.invariant-loop-power
invariant-loop-power l = record {
  within : l.power ≤ length l.list;
  clamped : IsClamped (horner (λ (w : Whole). w.value) l.at (drop l.power l.list)) l.clamped;
}

abbrev pub decreases-loop-power : goal.decreases-loop-power
decreases-loop-power l = l.power
