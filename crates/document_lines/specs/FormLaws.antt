-- The lines of a normal form tell the form.
-- These are lemmas: they stand here, and not in proofs/, since the spelling of forms names them.
use Rattle.std.specs.Prelude.{ℕ, codes, List}
use Rattle.std.proofs.Common.{refl}
use Rattle.exact_texts.specs.Texts.{InOneLine}
use Rattle.exact_texts.specs.Formats.{Format, line_of}
use Rattle.exact_texts.specs.Lines.{AreLineTexts}
use Rattle.exact_texts.specs.Lists.{items_of}
use Rattle.exact_texts.proofs.Alike.{AreAlike, alike_texts}
use Rattle.exact_texts.proofs.Joined.{items_within_line}
use Rattle.exact_texts.proofs.OneLine.{one_line_texts}
use Rattle.hypergeometric.specs.LinearForm.{FactorList}
use Rattle.hypergeometric.specs.Match.{Match}
use Rattle.form_lines.specs.Factors.{factor_lists}
use Rattle.form_lines.specs.FactorLaws.{lists_within_line}
use Rattle.form_lines.specs.Matches.{matches}
use Rattle.form_lines.specs.MatchLaws.{matches_within_line, matches_are_items}
use Rattle.document_lines.specs.ClaimTexts.{form_lines}
use Rattle.document_lines.specs.Sequences.{◌⨟◌, both_texts}

-- a line of a list behind a word
abbrev pub list_line : List ℕ → Format FactorList
list_line word = line_of word factor_lists

-- the line of a list tells it
pub list_texts : (word : List ℕ) → InOneLine word → AreLineTexts (list_line word)
list_texts word one = one_line_texts factor_lists word one lists_within_line

-- the line of the matches
abbrev pub matches_line : Format (List Match)
matches_line = line_of (codes "match ") (items_of matches)

-- the three lines one after another
abbrev pub form_sequence : Format (List Match × (FactorList × FactorList))
form_sequence = matches_line ⨟ (list_line (codes "q ") ⨟ list_line (codes "r "))

-- normal forms are what their lines make
pub form_alike : AreAlike form_sequence form_lines
form_alike = record {
  make = λ p. record { matches = p.0; q = p.1.0; r = p.1.1 };
  made = λ p h. (record { matches = h.0; q = h.1.0; r = h.1.1 }, refl);
  back = λ f h. ((f.matches, (f.q, f.r)), (h.matches, (h.q, h.r)), refl);
}

-- the lines of a normal form tell it
pub form_texts : AreLineTexts form_lines
form_texts = alike_texts form_alike (both_texts matches_line (list_line (codes "q ") ⨟ list_line (codes "r "))
    (one_line_texts (items_of matches) (codes "match ") refl (items_within_line matches matches_within_line matches_are_items))
    (both_texts (list_line (codes "q ")) (list_line (codes "r ")) (list_texts (codes "q ") refl) (list_texts (codes "r ") refl)))
