use Rattle.std.proofs.Common.{◌≢◌, ℕ, ◌+◌, ◌≤◌, [], map, length}
use Rattle.ring_laws.specs.Meaning.{number, listed}
use Rattle.whole_roots.specs.FactorBounds.{DivisionsInBounds}
use Rattle.whole_roots.specs.LinearFactors.{IsGreatestPower}
use Rattle.whole_roots.proofs.factors.power_of.Given as goal

-- the form divides f as often as the quotient, and so many times more
abbrev pub invariant-loop-quotient : goal.invariant-loop-quotient
invariant-loop-quotient l = record {
  not_zero : listed (map (λ w. number w.value) l.quotient.list.items) ≢ listed [];
  fewer : length l.quotient.list.items + l.power ≤ length l.f.list.items;
  power : (e : ℕ) → IsGreatestPower l.slope l.constant e (listed (map (λ w. number w.value) l.quotient.list.items))
      → IsGreatestPower l.slope l.constant (l.power + e) (listed (map (λ w. number w.value) l.f.list.items));
  divisions : DivisionsInBounds l.slope l.constant (listed (map (λ w. number w.value) l.f.list.items))
      → DivisionsInBounds l.slope l.constant (listed (map (λ w. number w.value) l.quotient.list.items));
}

-- each division leaves fewer coefficients
abbrev pub decreases-loop-quotient : goal.decreases-loop-quotient
decreases-loop-quotient l = length l.quotient.list.items
