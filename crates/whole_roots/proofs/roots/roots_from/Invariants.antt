use Rattle.std.proofs.Common.{◌≤ℤ◌, ◌-ℤ◌, pos, negsuc, ◌-◌, ◌^◌, map, drop}
use Rattle.ring_laws.specs.Meaning.{number, listed}
use Rattle.whole_roots.specs.Signs.{value}
use Rattle.whole_roots.specs.Roots.{IsRoot}
use Rattle.whole_roots.specs.Turns.{greatest, least, IsTurn, AreAll}
use Rattle.whole_roots.proofs.roots.roots_from.Given as goal

-- all roots below a place, above which the turns from the index on are all
abbrev pub invariant-loop-index : goal.invariant-loop-index
invariant-loop-index l = record {
  begun : least ≤ℤ l.start;
  within : l.start ≤ℤ greatest;
  turns : AreAll (IsTurn (value (listed (map (λ w. number w.value) l.f.list.items)))) l.start greatest (drop l.index l.turns);
  found : AreAll (IsRoot (listed (map (λ w. number w.value) l.f.list.items))) (negsuc (2 ^ 127 - 1)) (l.start -ℤ pos 1) l.found.items;
}
