use Rattle.std.proofs.Common.{◌≤◌, drop, length, map}
use Rattle.ring_laws.specs.Meaning.{number, listed}
use Rattle.whole_roots.specs.FactorSearch.{AreFactorsAmong}
use Rattle.whole_roots.proofs.FactorSteps.{SeenAt}
use Rattle.whole_roots.proofs.factors.push_factors.Given as goal

-- the factors of smaller slopes, and those whose roots come before
abbrev pub invariant-loop-left : goal.invariant-loop-left
invariant-loop-left l = record {
  within : l.left ≤ length l.roots.items;
  found : AreFactorsAmong (SeenAt l.slope (drop l.left l.roots.items)) (listed (map (λ w. number w.value) l.f.list.items)) l.factors.entries;
}

abbrev pub decreases-loop-left : goal.decreases-loop-left
decreases-loop-left l = l.left
