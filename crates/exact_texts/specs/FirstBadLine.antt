-- Which line of a text is at fault: the first that no text of the format has there after the same lines before it.
use Rattle.std.specs.Prelude.{◌≡◌, ◌≢◌, ℕ, suc, ◌-◌, ◌^◌, ◌==◌, if◌then◌else◌, nat_lt, List, [], ◌∷◌, ◌++◌, count_by}
use Rattle.exact_texts.specs.Texts.{InOneLine}
use Rattle.exact_texts.specs.Formats.{Format}
use Rattle.exact_texts.specs.Lines.{AreLines}

-- how many newlines a text has
abbrev pub newlines : List ℕ → ℕ
newlines xs = count_by (λ b. b == 10) xs

-- the text is a front of that of a value, or the whole of it
pub record IsFront {V : Type 0} (F : Format V) (text : List ℕ) : Type 0 where
  pub value : V
  pub has : F.Has value
  pub more : List ℕ
  pub begun : F.text value ≡ text ++ more

-- No value has the text. The lines before the line of this number, counted from 1, begin the text of a value, and together with that
-- line they begin none; a last line without its newline is at fault whatever it says, and behind the last line so is the end of the text.
pub record IsFirstBadLine {V : Type 0} (F : Format V) (text : List ℕ) (at : ℕ) : Type 0 where
  pub refused : (v : V) → F.Has v → text ≢ F.text v
  pub front : List ℕ
  pub rest : List ℕ
  pub parted : text ≡ front ++ rest
  pub whole : AreLines front
  pub number : at ≡ suc (newlines front)
  pub before : IsFront F front
  pub here : (line behind : List ℕ) → InOneLine line → rest ≡ line ++ 10 ∷ behind → ¬ IsFront F (front ++ (line ++ 10 ∷ []))

-- a number of a line above 2^32 - 1 is carried as 2^32 - 1
abbrev pub carried : ℕ → ℕ
carried at = if nat_lt at (2 ^ 32) then at else (2 ^ 32 - 1)
