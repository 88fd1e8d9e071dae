use Rattle.std.proofs.Common.{◌≤ℤ◌, ◌-ℤ◌, unsigned_abs, negsuc, ◌-◌, ◌^◌, map}
use Rattle.ring_laws.specs.Meaning.{number, listed}
use Rattle.whole_roots.specs.Roots.{IsRoot}
use Rattle.whole_roots.specs.Turns.{AreAll}
use Rattle.whole_roots.proofs.roots.push_roots.Given as goal

-- all roots up to the last that was added
abbrev pub invariant-loop-root : goal.invariant-loop-root
invariant-loop-root l = record {
  begun : l.start ≤ℤ l.root;
  within : l.root ≤ℤ l.end;
  found : AreAll (IsRoot (listed (map (λ w. number w.value) l.f.list.items))) (negsuc (2 ^ 127 - 1)) l.root l.found.items;
}

abbrev pub decreases-loop-root : goal.decreases-loop-root
decreases-loop-root l = unsigned_abs (l.end -ℤ l.root)
