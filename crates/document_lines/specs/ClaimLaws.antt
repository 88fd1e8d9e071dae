-- The lines of a claim tell the claim.
-- These are lemmas: they stand here, and not in proofs/, since the spelling of documents names what stands on them.
use Rattle.std.specs.Prelude.{◌≡◌, ℕ, ◌≤◌, codes, List, [], ◌∷◌, Option, Some, None}
use Rattle.std.specs.List.{AllByRecursion}
use Rattle.std.proofs.Common.{refl, sym}
use Rattle.ring_laws.specs.Meaning.{Meaning}
use Rattle.hypergeometric.specs.LinearForm.{LinearForm, FactorList}
use Rattle.hypergeometric.specs.ProperTerm.{ProperTerm}
use Rattle.hypergeometric.specs.TermFacts.{IsPolynomial}
use Rattle.document_text.specs.WellFormed.{IsRange}
use Rattle.exact_texts.specs.Texts.{◌⧺◌, line}
use Rattle.exact_texts.specs.Formats.{Format, line_of, in_turn}
use Rattle.exact_texts.specs.Lines.{AreLineTexts}
use Rattle.exact_texts.specs.Lists.{parts_of, optional}
use Rattle.exact_texts.proofs.Alike.{AreAlike, alike_texts}
use Rattle.exact_texts.proofs.Formats.{line_texts_in_turn}
use Rattle.exact_texts.proofs.Joined.{parts_within_line}
use Rattle.exact_texts.proofs.OneLine.{one_line_texts}
use Rattle.exact_texts.proofs.Optional.{optional_within_line}
use Rattle.polynomial_sums.specs.PolynomialSums.{polynomials, in_n, in_n_k}
use Rattle.polynomial_lines.specs.LetterLaws.{letters_within_line, letters_are_items}
use Rattle.polynomial_lines.specs.declared.letters.Letters.TheVariants.{InN, InNAndK}
use Rattle.form_lines.specs.Factors.{primitive_factors}
use Rattle.form_lines.specs.FactorLaws.{primitive_within_line}
use Rattle.term_lines.specs.TermTexts.{carriers}
use Rattle.term_lines.specs.TermLaws.{carriers_within_line}
use Rattle.documents.specs.Documents.{Form, Found, Evidence, Empty}
use Rattle.documents.specs.Documents.{Claim, found, empty, pair, no_pair, sums, no_root, barren, solution, again}
use Rattle.documents.specs.declared.documents.Version.{Version}
use Rattle.document_lines.specs.ClaimTexts.{form_lines, ends_of_range, found_text, found_lines, witnesses, empty_text, empty_lines}
use Rattle.document_lines.specs.ClaimTexts.{claim_text, IsClaimAt, claim_at}
use Rattle.document_lines.specs.FormLaws.{list_line, list_texts, form_texts}
use Rattle.document_lines.specs.HeadingLaws.{headings_within_line}
use Rattle.document_lines.specs.Headings.{headings, heading_text}
use Rattle.document_lines.specs.RangeLaws.{ends_within_line, ends_are_items}
use Rattle.document_lines.specs.Sequences.{◌⨟◌, both_texts}
use Rattle.document_lines.specs.WitnessLaws.{witnesses_within_line}
use Rattle.document_lines.specs.declared.headings.Heading.{Heading}
use Rattle.document_lines.specs.declared.headings.Heading.TheVariants.{Found as FoundHeading, Empty as EmptyHeading}

-- the line of the multipliers
abbrev pub multipliers_line : Format (List Meaning)
multipliers_line = line_of (codes "a ") (parts_of (polynomials in_n))

-- the line of K
abbrev pub carrier_line : Version → Format ProperTerm
carrier_line version = line_of (codes "K ") (carriers version)

-- the line of Y
abbrev pub y_line : Format Meaning
y_line = line_of (codes "Y ") (polynomials in_n_k)

-- the line of the poles
abbrev pub poles_line : Format FactorList
poles_line = line_of (codes "D ") primitive_factors

-- the line of the range
abbrev pub range_line : Format (Option (LinearForm × LinearForm))
range_line = line_of (codes "range ") (optional ends_of_range)

-- what the first lines of a recurrence say: the normal form, the multipliers, K and Y
abbrev pub Solution : Type 0
Solution = Form × (List Meaning × (ProperTerm × Meaning))

-- these lines one after another
abbrev pub solution_sequence : Version → Format Solution
solution_sequence version = form_lines ⨟ (multipliers_line ⨟ (carrier_line version ⨟ y_line))

-- what the other lines say: the poles, the two lists of the ratio, and the range
abbrev pub Ratio : Type 0
Ratio = FactorList × (FactorList × (FactorList × Option (LinearForm × LinearForm)))

-- these lines one after another
abbrev pub ratio_sequence : Format Ratio
ratio_sequence = poles_line ⨟ (list_line (codes "Rtop ") ⨟ (list_line (codes "Rbot ") ⨟ range_line))

-- all lines of a recurrence
abbrev pub found_sequence : Version → Format (Solution × Ratio)
found_sequence version = solution_sequence version ⨟ ratio_sequence

solution_texts : (version : Version) → AreLineTexts (solution_sequence version)
solution_texts version = both_texts form_lines (multipliers_line ⨟ (carrier_line version ⨟ y_line)) form_texts
    (both_texts multipliers_line (carrier_line version ⨟ y_line)
    (one_line_texts (parts_of (polynomials in_n)) (codes "a ") refl
    (parts_within_line (polynomials in_n) (letters_within_line InN) (letters_are_items InN)))
    (both_texts (carrier_line version) y_line (one_line_texts (carriers version) (codes "K ") refl (carriers_within_line version))
    (one_line_texts (polynomials in_n_k) (codes "Y ") refl (letters_within_line InNAndK))))

ratio_texts : AreLineTexts ratio_sequence
ratio_texts = both_texts poles_line (list_line (codes "Rtop ") ⨟ (list_line (codes "Rbot ") ⨟ range_line))
    (one_line_texts primitive_factors (codes "D ") refl primitive_within_line)
    (both_texts (list_line (codes "Rtop ")) (list_line (codes "Rbot ") ⨟ range_line) (list_texts (codes "Rtop ") refl)
    (both_texts (list_line (codes "Rbot ")) range_line (list_texts (codes "Rbot ") refl)
    (one_line_texts (optional ends_of_range) (codes "range ") refl (optional_within_line ends_of_range ends_within_line ends_are_items))))

-- multipliers within the bounds of documents are within those of their spelling
pub to_spelled : (ps : List Meaning) → AllByRecursion (IsPolynomial 1) ps → AllByRecursion (polynomials in_n).Has ps
to_spelled [] all = tt
to_spelled (p ∷ ps) all = (record { passes = all.0.passes; fits = all.0.fits }, to_spelled ps all.1)

-- multipliers within the bounds of their spelling are within those of documents
pub from_spelled : (ps : List Meaning) → AllByRecursion (polynomials in_n).Has ps → AllByRecursion (IsPolynomial 1) ps
from_spelled [] all = tt
from_spelled (p ∷ ps) all = (record { passes = all.0.passes; fits = all.0.fits }, from_spelled ps all.1)

-- a range within the bounds of documents has a text
pub range_to : (r : Option (LinearForm × LinearForm)) → IsRange r → (optional ends_of_range).Has r
range_to None h = tt
range_to (Some ends) h = h

-- a range that has a text is within the bounds of documents
pub range_from : (r : Option (LinearForm × LinearForm)) → (optional ends_of_range).Has r → IsRange r
range_from None h = tt
range_from (Some ends) h = h

-- the recurrence of an order with these lines
abbrev pub found_made : ℕ → Solution × Ratio → Found
found_made order p = record {
  order = order;
  form = p.0.0;
  multipliers = p.0.1.0;
  carrier = p.0.1.1.0;
  y = p.0.1.1.1;
  poles = p.1.0;
  ratio_top = p.1.1.0;
  ratio_bottom = p.1.1.1.0;
  range = p.1.1.1.1;
}

-- the recurrences of an order are those that their lines make
unfoldable pub found_alike : (version : Version) (order : ℕ) → order ≤ 6 → AreAlike (found_sequence version) (found_lines version order)
found_alike version order small = record {
  make = found_made order;
  made = λ p h. (
    (
      refl,
      record {
        order = small;
        form = h.0.0;
        some_multiplier = h.0.1.0.0;
        multipliers = from_spelled p.0.1.0 h.0.1.0.1;
        carrier = h.0.1.1.0;
        y = record { passes = h.0.1.1.1.passes; fits = h.0.1.1.1.fits };
        poles_scale = h.1.0.0;
        poles = h.1.0.1;
        ratio_top = h.1.1.0;
        ratio_bottom = h.1.1.1.0;
        range = range_from p.1.1.1.1 h.1.1.1.1;
      },
    ),
    refl,
  );
  back = λ f h. (
    ((f.form, (f.multipliers, (f.carrier, f.y))), (f.poles, (f.ratio_top, (f.ratio_bottom, f.range)))),
    (
      (
        h.1.form,
        (
          (h.1.some_multiplier, to_spelled f.multipliers h.1.multipliers),
          (h.1.carrier, record { passes = h.1.y.passes; fits = h.1.y.fits }),
        ),
      ),
      ((h.1.poles_scale, h.1.poles), (h.1.ratio_top, (h.1.ratio_bottom, range_to f.range h.1.range))),
    ),
    λ i. record {
      order = sym h.0 i;
      form = f.form;
      multipliers = f.multipliers;
      carrier = f.carrier;
      y = f.y;
      poles = f.poles;
      ratio_top = f.ratio_top;
      ratio_bottom = f.ratio_bottom;
      range = f.range;
    },
  );
}

-- the lines of a recurrence tell it
pub found_texts : (version : Version) (order : ℕ) → order ≤ 6 → AreLineTexts (found_lines version order)
found_texts version order small = alike_texts (found_alike version order small)
    (both_texts (solution_sequence version) ratio_sequence (solution_texts version) ratio_texts)

-- the line that says what shows that an order is empty
abbrev pub witness_line : Format Evidence
witness_line = line_of (codes "witness ") witnesses

-- the lines of an empty order one after another
abbrev pub empty_sequence : Format (Form × Evidence)
empty_sequence = form_lines ⨟ witness_line

-- the empty claim of an order with these lines
abbrev pub empty_made : ℕ → Form × Evidence → Empty
empty_made order p = record { order = order; form = p.0; evidence = p.1 }

-- the empty claims of an order are those that their lines make
pub empty_alike : (order : ℕ) → order ≤ 6 → AreAlike empty_sequence (empty_lines order)
empty_alike order small = record {
  make = empty_made order;
  made = λ p h. ((refl, record { order = small; form = h.0; evidence = h.1 }), refl);
  back = λ e h. ((e.form, e.evidence), (h.1.form, h.1.evidence), λ i. record { order = sym h.0 i; form = e.form; evidence = e.evidence });
}

-- the lines of an empty order tell what they say
pub empty_texts : (order : ℕ) → order ≤ 6 → AreLineTexts (empty_lines order)
empty_texts order small = alike_texts (empty_alike order small)
    (both_texts form_lines witness_line form_texts (one_line_texts witnesses (codes "witness ") refl witnesses_within_line))

-- the heading of a claim
abbrev pub heading_of : Claim → Heading
heading_of (found f) = FoundHeading
heading_of (empty e) = EmptyHeading
heading_of (pair f) = EmptyHeading
heading_of (no_pair e) = EmptyHeading
heading_of (sums s) = EmptyHeading
heading_of (no_root c) = EmptyHeading
heading_of (barren c) = EmptyHeading
heading_of (solution s) = EmptyHeading
heading_of (again s) = EmptyHeading

-- the lines behind it
abbrev pub body_text : Version → Claim → List ℕ
body_text version (found f) = found_text version f
body_text version (empty e) = empty_text e
body_text version (pair f) = []
body_text version (no_pair e) = []
body_text version (sums s) = []
body_text version (no_root c) = []
body_text version (barren c) = []
body_text version (solution s) = []
body_text version (again s) = []

-- claims of an order with this heading
abbrev pub body_at : Version → ℕ → Heading → Format Claim
body_at version order heading = record { Has = λ c. (heading_of c ≡ heading) × IsClaimAt version order c; text = body_text version }

-- behind the heading of a recurrence stand its lines
unfoldable pub found_body : (version : Version) (order : ℕ) → AreAlike (found_lines version order) (body_at version order FoundHeading)
found_body version order = record { make = found; made = λ f h. ((refl, h), refl); back = back }
  where
    back : (c : Claim) → (body_at version order FoundHeading).Has c → (f : Found) × (found_lines version order).Has f × (found f ≡ c)
    back (found f) h = (f, h.1, refl)
    back (empty e) h = absurd cc
    back (pair f) h = absurd h.1
    back (no_pair e) h = absurd h.1
    back (sums s) h = absurd h.1
    back (no_root c) h = absurd h.1
    back (barren c) h = absurd h.1
    back (solution s) h = absurd h.1
    back (again s) h = absurd h.1

-- behind the heading of an empty order stand its lines
unfoldable pub empty_body : (version : Version) (order : ℕ) → AreAlike (empty_lines order) (body_at version order EmptyHeading)
empty_body version order = record { make = empty; made = λ e h. ((refl, h), refl); back = back }
  where
    back : (c : Claim) → (body_at version order EmptyHeading).Has c → (e : Empty) × (empty_lines order).Has e × (empty e ≡ c)
    back (found f) h = absurd cc
    back (empty e) h = (e, h.1, refl)
    back (pair f) h = absurd h.1
    back (no_pair e) h = absurd h.1
    back (sums s) h = absurd h.1
    back (no_root c) h = absurd h.1
    back (barren c) h = absurd h.1
    back (solution s) h = absurd h.1
    back (again s) h = absurd h.1

-- the lines behind a heading tell the claim
pub body_texts : (version : Version) (order : ℕ) → order ≤ 6 → (h : Heading) → AreLineTexts (body_at version order h)
body_texts version order small FoundHeading = alike_texts (found_body version order) (found_texts version order small)
body_texts version order small EmptyHeading = alike_texts (empty_body version order) (empty_texts order small)

-- the line of a heading
abbrev pub heading_line : ℕ → Format Heading
heading_line order = line_of [] (headings order)

-- a heading and the lines behind it
abbrev pub claim_sequence : Version → ℕ → Format (Heading × Claim)
claim_sequence version order = in_turn (heading_line order) (body_at version order)

-- the line of a heading tells it
pub heading_texts : (order : ℕ) → order ≤ 6 → AreLineTexts (heading_line order)
heading_texts order small = one_line_texts (headings order) [] refl (headings_within_line order small)

-- the text of a claim is that of its heading and of the lines behind it
pub claim_made : (version : Version) (order : ℕ) (g : Heading) (c : Claim) → (heading_of c ≡ g) × IsClaimAt version order c
    → claim_text version c ≡ (claim_sequence version order).text (g, c)
claim_made version order g (found f) h = λ i. line [] (heading_text (h.1.0 i) (h.0 i)) ⧺ found_text version f
claim_made version order g (empty e) h = λ i. line [] (heading_text (h.1.0 i) (h.0 i)) ⧺ empty_text e
claim_made version order g (pair f) h = absurd h.1
claim_made version order g (no_pair e) h = absurd h.1
claim_made version order g (sums s) h = absurd h.1
claim_made version order g (no_root c) h = absurd h.1
claim_made version order g (barren c) h = absurd h.1
claim_made version order g (solution s) h = absurd h.1
claim_made version order g (again s) h = absurd h.1

-- a claim is its heading and the lines behind it
unfoldable pub claim_alike : (version : Version) (order : ℕ) → AreAlike (claim_sequence version order) (claim_at version order)
claim_alike version order = record {
  make = λ p. p.1;
  made = λ p h. (h.1.1, claim_made version order p.0 p.1 h.1);
  back = λ c h. ((heading_of c, c), (tt, (refl, h)), refl);
}

-- the lines of a claim tell it
pub claim_texts : (version : Version) (order : ℕ) → order ≤ 6 → AreLineTexts (claim_at version order)
claim_texts version order small = alike_texts (claim_alike version order)
    (line_texts_in_turn (heading_line order) (body_at version order) (heading_texts order small) (λ h _. body_texts version order small h))
