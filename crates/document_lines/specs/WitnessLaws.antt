-- What shows that an order is empty is within a line, and its text tells it.
-- These are lemmas: they stand here, and not in proofs/, since the spelling names the last of them.
use Rattle.std.specs.Prelude.{◌≡◌, ◌≢◌, ℕ, ◌≤◌, codes}
use Rattle.std.specs.Fmt.{decimal}
use Rattle.std.proofs.Common.{refl, arith, ap, sym, subst}
use Rattle.std.proofs.lemmas.Bool.{false≢true}
use Rattle.exact_texts.specs.Texts.{Only, other_than, InOneLine}
use Rattle.exact_texts.specs.Lines.{AreWithinLine}
use Rattle.exact_texts.proofs.Cuts.{among, only_more}
use Rattle.exact_texts.proofs.Numerals.{digit_bytes, only_decimal, decimal_determines}
use Rattle.documents.specs.Documents.{Evidence, unsought, no_number, at_number}
use Rattle.documents.specs.WellFormed.{IsEvidence}
use Rattle.document_lines.specs.ClaimTexts.{witness_text, witnesses}

-- a number of at most 255 has digits only
small_decimal : (n : ℕ) → n ≤ 255 → Only (among digit_bytes) (decimal n)
small_decimal n h = only_decimal n (omega arith)

witness_within : (e : Evidence) → IsEvidence e → InOneLine (witness_text e)
witness_within unsought h = refl
witness_within no_number h = refl
witness_within (at_number n) h = only_more digit_bytes (other_than 10) (decimal n) refl (small_decimal n h)

-- a number isn't a word
no_word : (n : ℕ) → n ≤ 255 → decimal n ≢ codes "unsought"
no_word n h e = false≢true (subst (Only (among digit_bytes)) e (small_decimal n h))

no_none : (n : ℕ) → n ≤ 255 → decimal n ≢ codes "none"
no_none n h e = false≢true (subst (Only (among digit_bytes)) e (small_decimal n h))

-- the text tells what shows that an order is empty
pub witness_told : (d e : Evidence) → IsEvidence d → IsEvidence e → witness_text d ≡ witness_text e → d ≡ e
witness_told unsought unsought h k e = refl
witness_told unsought no_number h k e = absurd cc
witness_told unsought (at_number n) h k e = absurd (no_word n k (sym e))
witness_told no_number unsought h k e = absurd cc
witness_told no_number no_number h k e = refl
witness_told no_number (at_number n) h k e = absurd (no_none n k (sym e))
witness_told (at_number m) unsought h k e = absurd (no_word m h e)
witness_told (at_number m) no_number h k e = absurd (no_none m h e)
witness_told (at_number m) (at_number n) h k e = ap at_number (decimal_determines m n (omega arith) (omega arith) e)

-- it is within a line
pub witnesses_within_line : AreWithinLine witnesses
witnesses_within_line = record { some = (unsought, tt); within = witness_within; determined = witness_told }
