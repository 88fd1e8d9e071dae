-- Formats of lines one after another.
use Rattle.exact_texts.specs.Formats.{Format, in_turn}
use Rattle.exact_texts.specs.Lines.{AreLineTexts}
use Rattle.exact_texts.proofs.Formats.{line_texts_in_turn}

infixr 5 ◌⨟◌
-- one format and then another that doesn't hang on the first
abbrev pub ◌⨟◌ : {A B : Type 0} → Format A → Format B → Format (A × B)
F ⨟ G = in_turn F (λ _. G)

-- both tell their values, and so does the sequence
pub both_texts : {A B : Type 0} (F : Format A) (G : Format B) → AreLineTexts F → AreLineTexts G → AreLineTexts (F ⨟ G)
both_texts F G f g = line_texts_in_turn F (λ _. G) f (λ _ _. g)
