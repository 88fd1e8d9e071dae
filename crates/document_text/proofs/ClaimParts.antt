-- The text of a list of matches, of the multipliers and of a range determines it.
use Rattle.std.specs.Prelude.{◌≡◌, ◌≢◌, ℕ, codes, List, [], map, drop, Option, Some, None}
use Rattle.std.specs.List.{AllByRecursion}
use Rattle.std.specs.Str.{byte}
use Rattle.std.proofs.Common.{refl, ap, sym}
use Rattle.ring_laws.specs.Meaning.{Meaning}
use Rattle.hypergeometric.specs.LinearForm.{LinearForm}
use Rattle.hypergeometric.specs.TermFacts.{IsPolynomial}
use Rattle.hypergeometric.specs.Match.{Match}
use Rattle.exact_texts.specs.Texts.{◌⧺◌, joined, items_text, Only}
use Rattle.document_text.specs.Spelling.{polynomial_in_n_text}
use Rattle.document_text.specs.TermText.{form_text}
use Rattle.document_text.specs.Document.{match_text, range_text}
use Rattle.document_text.specs.WellFormed.{IsMatch, IsRange}
use Rattle.exact_texts.proofs.Cuts.{among, only_append, only_more}
use Rattle.document_text.proofs.MonomialBytes.{polynomial_bytes}
use Rattle.document_text.proofs.Polynomials.{only_polynomial_in_n, polynomial_in_n_determines}
use Rattle.document_text.proofs.Forms.{only_form, form_determines, form_before, form_before_no_minus, item_bytes, only_match, match_determines, match_no_minus}
use Rattle.document_text.proofs.Spells.{Spells, spells_more}
use Rattle.document_text.proofs.Items.{items_determine, only_items, joined_items_determine, only_joined_items}
use Rattle.document_text.proofs.Factors.{field_bytes, list_bytes}

-- a match, and a list of matches
match_spells : Spells (among item_bytes) IsMatch match_text
match_spells = record { only = only_match; determines = match_determines }

abbrev pub matches_text : List Match → List ℕ
matches_text ms = items_text (map match_text ms)

pub matches_spell : Spells (among field_bytes) (AllByRecursion IsMatch) matches_text
matches_spell = record {
  only = λ xs p. only_items (spells_more item_bytes (among field_bytes) refl match_spells) xs refl refl p;
  determines = items_determine match_spells refl refl match_no_minus;
}

-- at least one polynomial in n
pub record AreMultipliers (ms : List Meaning) : Type 0 where
  pub some : ms ≢ []
  pub each : AllByRecursion (IsPolynomial 1) ms

abbrev pub multipliers_text : List Meaning → List ℕ
multipliers_text ms = joined (codes "; ") (map polynomial_in_n_text ms)

multiplier_spells : Spells (among polynomial_bytes) (IsPolynomial 1) polynomial_in_n_text
multiplier_spells = record { only = only_polynomial_in_n; determines = polynomial_in_n_determines }

pub multipliers_spell : Spells (among list_bytes) AreMultipliers multipliers_text
multipliers_spell = record {
  only = λ xs p. only_joined_items (spells_more polynomial_bytes (among list_bytes) refl multiplier_spells) (codes "; ") xs refl p.each;
  determines = λ xs ys p q e. joined_items_determine multiplier_spells (byte ";") (codes " ") refl xs ys p.some q.some p.each q.each e;
}

-- a range, or none
range_determines : (x y : Option (LinearForm × LinearForm)) → IsRange x → IsRange y → range_text x ≡ range_text y → x ≡ y
range_determines None None p q e = refl
range_determines None (Some b) p q e = absurd (form_before_no_minus b.0 (codes " to " ⧺ form_text b.1) q.0 refl (sym e))
range_determines (Some a) None p q e = absurd (form_before_no_minus a.0 (codes " to " ⧺ form_text a.1) p.0 refl e)
range_determines (Some a) (Some b) p q e =
    let parts = form_before a.0 b.0 (codes " to " ⧺ form_text a.1) (codes " to " ⧺ form_text b.1) p.0 q.0 refl refl e in
    let first = parts.0 in
    let last = form_determines a.1 b.1 p.1 q.1 (ap (drop 4) parts.1) in
    λ i. Some (first i, last i)

abbrev pub range_bytes : List ℕ
range_bytes = codes "0123456789*^nk+- to"

only_range : (x : Option (LinearForm × LinearForm)) → IsRange x → Only (among range_bytes) (range_text x)
only_range None p = refl
only_range (Some a) p = only_append (among range_bytes) (form_text a.0) (codes " to " ⧺ form_text a.1)
    (only_more polynomial_bytes (among range_bytes) (form_text a.0) refl (only_form a.0 p.0))
    (only_more polynomial_bytes (among range_bytes) (form_text a.1) refl (only_form a.1 p.1))

pub range_spells : Spells (among range_bytes) IsRange range_text
range_spells = record { only = only_range; determines = range_determines }
