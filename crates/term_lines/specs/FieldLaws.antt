-- No field of a term has a semicolon; the fields are within a line, and tell the term.
-- These are lemmas: they stand here, and not in proofs/, since the spellings of terms name them.
use Rattle.std.specs.Prelude.{◌≡◌, ℕ, codes, map, List, ◌∷◌, []}
use Rattle.std.proofs.Common.{refl}
use Rattle.exact_texts.specs.Formats.{Format}
use Rattle.exact_texts.specs.Texts.{Only, other_than, InOneLine}
use Rattle.exact_texts.specs.Beside.{beside, worded, IsWithout}
use Rattle.exact_texts.specs.Lines.{AreWithinLine}
use Rattle.exact_texts.specs.Powered.{powered}
use Rattle.exact_texts.proofs.Besides.{beside_within_line, worded_within_line}
use Rattle.exact_texts.proofs.Cuts.{only_append}
use Rattle.exact_texts.proofs.Joined.{items_without_semicolon}
use Rattle.exact_texts.proofs.PoweredItems.{powered_within_line, powered_are_items}
use Rattle.polynomial_sums.specs.PolynomialSums.{polynomials, in_n_k}
use Rattle.polynomial_lines.specs.LetterLaws.{letters_within_line, letters_are_items}
use Rattle.polynomial_lines.specs.declared.letters.Letters.TheVariants.{InNAndK}
use Rattle.number_lines.specs.Fractions.{nonzero_fractions}
use Rattle.number_lines.specs.FractionLaws.{nonzero_within_line, nonzero_are_items}
use Rattle.form_lines.specs.Forms.{forms}
use Rattle.form_lines.specs.FormLaws.{forms_within_line, forms_are_items, forms_spaceless}
use Rattle.form_lines.specs.Factors.{factors, parts_of_factor}
use Rattle.form_lines.specs.FactorLaws.{factors_within_line, each_has}
use Rattle.term_lines.specs.Fields.{FormLists, parts_of_lists}
use Rattle.term_lines.specs.TermTexts.{list_fields, term_lists, term_fields}

-- a field behind a word has no semicolon where the field has none, and the word has none
worded_without : {A : Type 0} (word : List ℕ) (F : Format A) → Only (other_than 59) word → IsWithout 59 F → IsWithout 59 (worded word F)
worded_without word F none without v h = only_append (other_than 59) word (F.text v) none (without v h)

-- a list of factors has none
pub factors_without : IsWithout 59 factors
factors_without l h = items_without_semicolon (powered forms) (powered_within_line forms forms_spaceless forms_within_line)
    (powered_are_items forms forms_spaceless forms_within_line forms_are_items) (map parts_of_factor l.factors) (each_has l.factors h.1.each)

-- a polynomial has none
pub poly_without : IsWithout 59 (worded (codes "poly ") (polynomials in_n_k))
poly_without = worded_without (codes "poly ") (polynomials in_n_k) refl (letters_are_items InNAndK).semicolons

-- a fraction behind a word has none
pub fraction_without : (word : List ℕ) → Only (other_than 59) word → IsWithout 59 (worded word nonzero_fractions)
fraction_without word none = worded_without word nonzero_fractions none nonzero_are_items.semicolons

-- a list behind a word has none
pub list_without : (word : List ℕ) → Only (other_than 59) word → IsWithout 59 (worded word factors)
list_without word none = worded_without word factors none factors_without

-- a list behind a word, and what follows it, is within a line
list_before : {A : Type 0} (word : List ℕ) (G : Format A) → Only (other_than 59) word → InOneLine word → AreWithinLine G
    → AreWithinLine (beside (worded word factors) (codes "; ") G)
list_before word G none one g = beside_within_line (worded word factors) 59 (32 ∷ []) G (list_without word none) refl
    (worded_within_line word factors one factors_within_line) g

pub list_fields_within_line : AreWithinLine list_fields
list_fields_within_line =
    let guard = worded (codes "guard ") factors in
    let over = beside (worded (codes "over ") factors) (codes "; ") guard in
    let down = beside (worded (codes "down ") factors) (codes "; ") over in
    list_before (codes "up ") down refl refl (list_before (codes "down ") over refl refl (list_before (codes "over ") guard refl refl
    (worded_within_line (codes "guard ") factors refl factors_within_line)))

-- the parts of lists tell them
pub lists_told : (l m : FormLists) → parts_of_lists l ≡ parts_of_lists m → l ≡ m
lists_told l m e = λ i. record { up = (e i).0; down = (e i).1.0; over = (e i).1.1.0; guard = (e i).1.1.1 }

pub term_lists_within_line : AreWithinLine term_lists
term_lists_within_line = record {
  some = let s = list_fields_within_line.some in (record { up = s.0.0; down = s.0.1.0; over = s.0.1.1.0; guard = s.0.1.1.1 }, s.1);
  within = λ l h. list_fields_within_line.within (parts_of_lists l) h;
  determined = λ l m h k e. lists_told l m (list_fields_within_line.determined (parts_of_lists l) (parts_of_lists m) h k e);
}

-- a fraction behind a word, and what follows it, is within a line
fraction_before : {A : Type 0} (word : List ℕ) (G : Format A) → Only (other_than 59) word → InOneLine word → AreWithinLine G
    → AreWithinLine (beside (worded word nonzero_fractions) (codes "; ") G)
fraction_before word G none one g = beside_within_line (worded word nonzero_fractions) 59 (32 ∷ []) G (fraction_without word none) refl
    (worded_within_line word nonzero_fractions one nonzero_within_line) g

pub term_fields_within_line : AreWithinLine term_fields
term_fields_within_line =
    let kbase = beside (worded (codes "kbase ") nonzero_fractions) (codes "; ") term_lists in
    let nbase = beside (worded (codes "nbase ") nonzero_fractions) (codes "; ") kbase in
    let scale = beside (worded (codes "scale ") nonzero_fractions) (codes "; ") nbase in
    beside_within_line (worded (codes "poly ") (polynomials in_n_k)) 59 (32 ∷ []) scale poly_without refl
    (worded_within_line (codes "poly ") (polynomials in_n_k) refl (letters_within_line InNAndK))
    (fraction_before (codes "scale ") nbase refl refl (fraction_before (codes "nbase ") kbase refl refl
    (fraction_before (codes "kbase ") term_lists refl refl term_lists_within_line)))
