-- What a count of faults says of a call.
-- Each source and sink has one, so that a caller can tell a failure of the outside from an excuse.
use Rattle.std.specs.Prelude.{◌≡◌, ℕ, ◌+◌, ◌-◌, ◌^◌, ◌≤◌, min}

-- one more, but no more than the last value of a count
abbrev pub count_up : ℕ → ℕ
count_up count = min (count + 1) (2 ^ 64 - 1)

-- the count rose in the call: it is greater after it than before, or stands at its last value
abbrev pub Rose : ℕ → ℕ → Type 0
Rose before after = count_up before ≤ after

-- the count did not fall in the call, and stays at its last value
pub record NeverFalls (before after : ℕ) : Type 0 where
  pub not_less : before ≤ after
  pub stays : before ≡ 2 ^ 64 - 1 → after ≡ 2 ^ 64 - 1
