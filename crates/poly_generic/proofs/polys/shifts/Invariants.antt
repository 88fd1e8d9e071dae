use Rattle.std.proofs.Common.{◌≡◌, ℕ, ◌<◌, map, take}
use Rattle.ring_laws.specs.Meaning.{listed}
use Rattle.poly_laws.specs.Shift.{poly_shift}
use Rattle.poly_generic.specs.declared.polys.Poly.{Poly}
use Rattle.poly_generic.proofs.InnerShiftAnswers.{InBoundsAt}
use Rattle.poly_generic.proofs.polys.shifts.Given as goal

-- so far each shift is in bounds, and made
abbrev pub invariant-loop-item : goal.invariant-loop-item
invariant-loop-item g l = record {
  in_bounds : (k : ℕ) → k < l.item-index
      → InBoundsAt g.R.Ring.algebra (g.R.Ring.algebra.ops.whole l.fn.by.value) (map (λ (v : Poly _ _). listed (map g.R.Ring.meaning v.list.items)) l.list) k;
  made : map (λ (v : Poly _ _). listed (map g.R.Ring.meaning v.list.items)) l.out.items
      ≡ map (poly_shift g.R.Ring.algebra.ops l.fn.by.value) (map (λ (v : Poly _ _). listed (map g.R.Ring.meaning v.list.items)) (take l.item-index l.list));
}
