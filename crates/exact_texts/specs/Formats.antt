-- Formats: which values have a text, and the one text of each.
use Rattle.std.specs.Prelude.{ℕ, List}
use Rattle.exact_texts.specs.Texts.{◌⧺◌, line}

-- a format: which values have a text, and the one text of each of them
pub record Format (V : Type 0) : Type 1 where
  pub Has : V → Type 0
  pub text : V → List ℕ

-- a line that begins with a word and goes on with a value
abbrev pub line_of : {V : Type 0} → List ℕ → Format V → Format V
line_of word F = record { Has = F.Has; text = λ v. line word (F.text v) }

-- one value and then another, whose format may hang on the first
abbrev pub in_turn : {A B : Type 0} → Format A → (A → Format B) → Format (A × B)
in_turn F G = record {
  Has = λ p. F.Has p.0 × (G p.0).Has p.1;
  text = λ p. F.text p.0 ⧺ (G p.0).text p.1;
}

-- values that are spelled as their parts are
abbrev pub seen_as : {C V : Type 0} → (C → V) → Format V → Format C
seen_as parts F = record { Has = λ c. F.Has (parts c); text = λ c. F.text (parts c) }
