-- Items with powers.
use Rattle.std.specs.Prelude.{ℕ, ◌^◌, ◌≤◌, ◌<◌, if◌then◌else◌, nat_eq, codes, List, []}
use Rattle.std.specs.Fmt.{decimal}
use Rattle.exact_texts.specs.Texts.{◌⧺◌}
use Rattle.exact_texts.specs.Formats.{Format}

-- the text of a power behind an item: ` x` and the power, and nothing for the power 1
abbrev pub times_text : ℕ → List ℕ
times_text power = if nat_eq power 1 then [] else codes " x" ⧺ decimal power

-- an item and its power, which is from 1 to 2^32 - 1
abbrev pub powered : {A : Type 0} → Format A → Format (A × ℕ)
powered F = record { Has = λ p. F.Has p.0 × ((1 ≤ p.1) × (p.1 < 2 ^ 32)); text = λ p. F.text p.0 ⧺ times_text p.1 }
