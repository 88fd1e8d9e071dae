use Rattle.std.proofs.Common.{◌≡◌, ◌≤ℤ◌, ◌-ℤ◌, unsigned_abs, map}
use Rattle.ring_laws.specs.Meaning.{number, listed}
use Rattle.whole_roots.specs.Signs.{sign_of, value}
use Rattle.whole_roots.specs.Turns.{least, IsTurn, AreAll}
use Rattle.whole_roots.proofs.turns.push_turns.Given as goal

-- all turns up to a place, and the sign there
abbrev pub invariant-loop-sign : goal.invariant-loop-sign
invariant-loop-sign l = record {
  begun : l.start ≤ℤ l.at;
  within : l.at ≤ℤ l.end;
  found : AreAll (IsTurn (value (listed (map (λ w. number w.value) l.f.list.items)))) least l.at l.found.items;
  sign : l.sign ≡ sign_of (value (listed (map (λ w. number w.value) l.f.list.items)) l.at);
}

abbrev pub decreases-loop-sign : goal.decreases-loop-sign
decreases-loop-sign l = unsigned_abs (l.end -ℤ l.at)
