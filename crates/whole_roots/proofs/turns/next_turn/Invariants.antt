use Rattle.std.proofs.Common.{◌≡◌, ◌<ℤ◌, ◌≤ℤ◌, ◌-ℤ◌, unsigned_abs, map}
use Rattle.ring_laws.specs.Meaning.{number, listed}
use Rattle.whole_roots.specs.Signs.{sign_of, value}
use Rattle.whole_roots.proofs.turns.next_turn.Given as goal

-- the low end has the sign, and the high end hasn't
abbrev pub invariant-loop-low : goal.invariant-loop-low
invariant-loop-low l = record {
  begun : l.start ≤ℤ l.low;
  apart : l.low <ℤ l.high;
  ended : l.high ≤ℤ l.end;
  low_sign : sign_of (value (listed (map (λ w. number w.value) l.f.list.items)) l.low) ≡ l.sign;
  high_sign : ¬ (sign_of (value (listed (map (λ w. number w.value) l.f.list.items)) l.high) ≡ l.sign);
}

abbrev pub decreases-loop-low : goal.decreases-loop-low
decreases-loop-low l = unsigned_abs (l.high -ℤ l.low)
