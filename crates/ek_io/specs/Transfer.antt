-- What several calls do to the bytes that a source has left and a sink has written, where those are known.
use Rattle.std.specs.Prelude.{◌≡◌, ℕ, ◌<◌, ◌≤◌, List, length, take}
use Rattle.std.specs.declared.option.Option.{Option}
use Rattle.std.specs.Io.KnownBytes.{Consumes, Appends}

-- so many bytes are gone from the front of what was left
abbrev pub TakesBytes : Option (List ℕ) → Option (List ℕ) → ℕ → Type 0
TakesBytes old new count = (bytes : List ℕ) × Consumes old new bytes × (length bytes ≡ count)

-- some bytes are gone from the front of what was left, at most so many
abbrev pub TakesAtMost : Option (List ℕ) → Option (List ℕ) → ℕ → Type 0
TakesAtMost old new most = (count : ℕ) × (count ≤ most) × TakesBytes old new count

-- what was written grew by a front of the bytes, and not by all of them
abbrev pub AppendsFront : Option (List ℕ) → Option (List ℕ) → List ℕ → Type 0
AppendsFront old new bytes = (count : ℕ) × (count < length bytes) × Appends old new (take count bytes)
