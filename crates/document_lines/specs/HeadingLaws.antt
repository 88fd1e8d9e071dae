-- The headings of claims are within a line, and tell which it is.
-- These are lemmas: they stand here, and not in proofs/, since the spelling of headings names the last of them.
use Rattle.std.specs.Prelude.{◌≡◌, ℕ, ◌≤◌, codes, refl}
use Rattle.std.specs.Fmt.{decimal}
use Rattle.std.proofs.Common.{arith, ap, get_or}
use Rattle.exact_texts.specs.Texts.{other_than, InOneLine}
use Rattle.exact_texts.specs.Lines.{AreWithinLine}
use Rattle.exact_texts.proofs.Cuts.{only_append, only_more}
use Rattle.exact_texts.proofs.Numerals.{digit_bytes, only_decimal}
use Rattle.document_lines.specs.Headings.{heading_text, headings}
use Rattle.document_lines.specs.declared.headings.Heading.{Heading}
use Rattle.document_lines.specs.declared.headings.Heading.TheVariants.{Found, Empty}

-- an order within a line
pub order_within : (order : ℕ) → order ≤ 6 → InOneLine (decimal order)
order_within order small = only_more digit_bytes (other_than 10) (decimal order) refl (only_decimal order (omega arith))

heading_within : (order : ℕ) → order ≤ 6 → (h : Heading) → InOneLine (heading_text order h)
heading_within order small Found = only_append (other_than 10) (codes "found ") (decimal order) refl (order_within order small)
heading_within order small Empty = only_append (other_than 10) (codes "empty ") (decimal order) refl (order_within order small)

heading_told : (order : ℕ) (g h : Heading) → heading_text order g ≡ heading_text order h → g ≡ h
heading_told order Found Found e = refl
heading_told order Found Empty e = absurd (omega (arith, ap (λ t. get_or t 0 0) e))
heading_told order Empty Found e = absurd (omega (arith, ap (λ t. get_or t 0 0) e))
heading_told order Empty Empty e = refl

-- headings are within a line, and their texts tell them
pub headings_within_line : (order : ℕ) → order ≤ 6 → AreWithinLine (headings order)
headings_within_line order small = record {
  some = (Found, tt);
  within = λ h _. heading_within order small h;
  determined = λ g h _ _ e. heading_told order g h e;
}
