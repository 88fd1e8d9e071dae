-- The format of matches: a form, its shift and its power.
use Rattle.std.specs.Prelude.{ℕ, codes}
use Rattle.hypergeometric.specs.LinearForm.{LinearForm}
use Rattle.hypergeometric.specs.Match.{Match}
use Rattle.exact_texts.specs.Formats.{Format}
use Rattle.exact_texts.specs.Beside.{beside}
use Rattle.exact_texts.specs.Numbers.{naturals}
use Rattle.exact_texts.specs.Powered.{powered}
use Rattle.document_text.specs.WellFormed.{IsMatch}
use Rattle.form_lines.specs.Forms.{forms}

-- a form, ` by `, and a number with a power
abbrev pub match_parts : Format (LinearForm × (ℕ × ℕ))
match_parts = beside forms (codes " by ") (powered naturals)

-- the form, the shift and the power of a match
abbrev pub parts_of_match : Match → LinearForm × (ℕ × ℕ)
parts_of_match m = (m.form, (m.shift, m.power))

-- matches of forms within bounds, with shifts below 2^64 and powers from 1 to 2^32 - 1
abbrev pub matches : Format Match
matches = record { Has = IsMatch; text = λ m. match_parts.text (parts_of_match m) }
