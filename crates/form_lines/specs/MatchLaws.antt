-- The text of a match tells the match.
-- These are lemmas: they stand here, and not in proofs/, since the spelling of matches names them.
use Rattle.std.specs.Prelude.{◌≡◌, ◌≢◌, ℕ, pos, codes, List, ◌++◌, length}
use Rattle.std.proofs.Common.{refl, arith, ap, lit<, lit≤, length-append}
use Rattle.hypergeometric.specs.Forms.{form_with}
use Rattle.hypergeometric.specs.Match.{Match}
use Rattle.document_text.specs.WellFormed.{IsMatch}
use Rattle.exact_texts.specs.Texts.{other_than}
use Rattle.exact_texts.specs.Lines.{AreWithinLine}
use Rattle.exact_texts.specs.Lists.{AreItems}
use Rattle.exact_texts.specs.Numbers.{naturals}
use Rattle.exact_texts.specs.Powered.{powered}
use Rattle.exact_texts.proofs.Numerals.{naturals_within_line, naturals_are_items, naturals_spaceless}
use Rattle.exact_texts.proofs.Besides.{beside_only, beside_within_line}
use Rattle.exact_texts.proofs.PoweredItems.{powered_within_line, powered_are_items}
use Rattle.exact_texts.proofs.Seen.{seen_within_line, seen_are_items}
use Rattle.form_lines.specs.Forms.{forms}
use Rattle.form_lines.specs.FormLaws.{forms_within_line, forms_are_items, forms_spaceless}
use Rattle.form_lines.specs.Matches.{match_parts, parts_of_match, matches}

parts_within_line : AreWithinLine match_parts
parts_within_line = beside_within_line forms 32 (codes "by ") (powered naturals) forms_spaceless refl forms_within_line
    (powered_within_line naturals naturals_spaceless naturals_within_line)

-- a text with a separator of four bytes isn't one of one byte
longer : (xs ys : List ℕ) → xs ++ (codes " by " ++ ys) ≢ codes "-"
longer xs ys e = omega (arith, ap length e, length-append xs (codes " by " ++ ys), length-append (codes " by ") ys)

parts_are_items : AreItems match_parts
parts_are_items =
    let numbers = powered_are_items naturals naturals_spaceless naturals_within_line naturals_are_items in
    record {
      commas = beside_only forms 32 (codes "by ") (powered naturals) (other_than 44) refl forms_are_items.commas numbers.commas;
      semicolons = beside_only forms 32 (codes "by ") (powered naturals) (other_than 59) refl forms_are_items.semicolons numbers.semicolons;
      not_none = λ p h. longer (forms.text p.0) ((powered naturals).text p.1);
    }

-- a match within bounds has a text as a form beside a shift with a power
pub match_has : (m : Match) → IsMatch m → match_parts.Has (parts_of_match m)
match_has m p = (p.form, (omega (arith, p.shift), (p.some, p.few)))

match_told : (m w : Match) → parts_of_match m ≡ parts_of_match w → m ≡ w
match_told m w e = λ i. record { form = (e i).0; shift = (e i).1.0; power = (e i).1.1 }

-- the text of a match stands in one line and tells the match
pub matches_within_line : AreWithinLine matches
matches_within_line = seen_within_line match_parts matches parts_of_match match_has (λ m. refl)
    (record { form = form_with (pos 0) (pos 0) (pos 0); shift = 0; power = 1 })
    (record { form = record { n_slope = lit≤ tt; k_slope = lit≤ tt; offset = lit≤ tt }; shift = lit< tt; some = lit≤ tt; few = lit< tt })
    (λ m w p q. match_told m w) parts_within_line

-- matches can stand in a list
pub matches_are_items : AreItems matches
matches_are_items = seen_are_items match_parts matches parts_of_match match_has (λ m. refl) parts_are_items
