use Rattle.std.proofs.Common.{◌≡◌, ◌≤ℤ◌, map, drop}
use Rattle.ring_laws.specs.Meaning.{number, listed}
use Rattle.whole_roots.specs.Signs.{sign_of, value}
use Rattle.whole_roots.specs.Differences.{difference}
use Rattle.whole_roots.specs.Turns.{greatest, least, IsTurn, AreAll}
use Rattle.whole_roots.proofs.turns.turns_from.Given as goal

-- all turns up to a place and the sign there, above which the turns of the difference from the index on are all
abbrev pub invariant-loop-index : goal.invariant-loop-index
invariant-loop-index l = record {
  begun : least ≤ℤ l.start;
  within : l.start ≤ℤ greatest;
  cuts : AreAll (IsTurn (value (difference (listed (map (λ w. number w.value) l.f.list.items))))) l.start greatest (drop l.index l.cuts);
  found : AreAll (IsTurn (value (listed (map (λ w. number w.value) l.f.list.items)))) least l.start l.found.items;
  sign : l.sign ≡ sign_of (value (listed (map (λ w. number w.value) l.f.list.items)) l.start);
}
