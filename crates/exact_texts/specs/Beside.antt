-- Two values beside each other in a line, and a value behind a word.
use Rattle.std.specs.Prelude.{ℕ, List}
use Rattle.exact_texts.specs.Texts.{◌⧺◌, Only, other_than}
use Rattle.exact_texts.specs.Formats.{Format}

-- two values with a separator between them
abbrev pub beside : {A B : Type 0} → Format A → List ℕ → Format B → Format (A × B)
beside F separator G = record { Has = λ p. F.Has p.0 × G.Has p.1; text = λ p. F.text p.0 ⧺ separator ⧺ G.text p.1 }

-- a value behind a word
abbrev pub worded : {A : Type 0} → List ℕ → Format A → Format A
worded word F = record { Has = F.Has; text = λ v. word ⧺ F.text v }

-- no text of the format has this byte
abbrev pub IsWithout : {A : Type 0} → ℕ → Format A → Type 0
IsWithout {A} stop F = (v : A) → F.Has v → Only (other_than stop) (F.text v)
