-- The two ends of a range are within a line, tell the range, and aren't a lone minus.
-- These are lemmas: they stand here, and not in proofs/, since the spelling of ranges names them.
use Rattle.std.specs.Prelude.{◌≢◌, ℕ, codes, List, ◌++◌, length}
use Rattle.std.proofs.Common.{refl, arith, ap, length-append}
use Rattle.exact_texts.specs.Texts.{other_than}
use Rattle.exact_texts.specs.Lines.{AreWithinLine}
use Rattle.exact_texts.specs.Lists.{AreItems}
use Rattle.exact_texts.proofs.Besides.{beside_only, beside_within_line}
use Rattle.form_lines.specs.Forms.{forms}
use Rattle.form_lines.specs.FormLaws.{forms_within_line, forms_are_items, forms_spaceless}
use Rattle.document_lines.specs.ClaimTexts.{ends_of_range}

-- the ends of a range are within a line, and their text tells them
pub ends_within_line : AreWithinLine ends_of_range
ends_within_line = beside_within_line forms 32 (codes "to ") forms forms_spaceless refl forms_within_line forms_within_line

-- a text with a separator of four bytes isn't one of one byte
longer : (xs ys : List ℕ) → xs ++ (codes " to " ++ ys) ≢ codes "-"
longer xs ys e = omega (arith, ap length e, length-append xs (codes " to " ++ ys), length-append (codes " to ") ys)

-- they have no comma and no semicolon, and are no lone minus
pub ends_are_items : AreItems ends_of_range
ends_are_items = record {
  commas = beside_only forms 32 (codes "to ") forms (other_than 44) refl forms_are_items.commas forms_are_items.commas;
  semicolons = beside_only forms 32 (codes "to ") forms (other_than 59) refl forms_are_items.semicolons forms_are_items.semicolons;
  not_none = λ p h. longer (forms.text p.0) (forms.text p.1);
}
