-- The text of a fraction tells the fraction.
-- These are lemmas: they stand here, and not in proofs/, since the spellings of fractions name them.
use Rattle.std.specs.Prelude.{◌≡◌, ◌≢◌, ℕ, Bool, true, false, nat_eq, ℤ, pos, negsuc, ◌<ℤ◌, unsigned_abs, codes, [], ◌∷◌, drop}
use Rattle.std.specs.List.{AllByRecursion}
use Rattle.std.specs.Fmt.{signed_decimal}
use Rattle.std.specs.Str.{byte}
use Rattle.std.proofs.Common.{refl, ap, sym, subst, ◌∙◌, arith, cond, lit<, append-nil}
use Rattle.std.proofs.lemmas.Bool.{eqb-true}
use Rattle.std.proofs.lemmas.Int.{ints}
use Rattle.std.proofs.Math.Nat.{eq-one_of_dvd-one}
use Rattle.hypergeometric.specs.Fraction.{Fraction, of_whole}
use Rattle.hypergeometric.specs.TermFacts.{IsNumber, IsLowest}
use Rattle.proper_term.specs.Runs.{AreNumbers, IsInLowestTerms}
use Rattle.exact_texts.specs.Texts.{◌⧺◌, Only, other_than, joined}
use Rattle.exact_texts.specs.Lines.{AreWithinLine}
use Rattle.exact_texts.specs.Lists.{AreItems}
use Rattle.exact_texts.proofs.Cuts.{only_more}
use Rattle.exact_texts.proofs.Numerals.{signed_bytes, only_signed_decimal, signed_decimal_determines, wholes_are_items}
use Rattle.exact_texts.proofs.Joined.{only_joined, joined_determines}
use Rattle.document_text.specs.Spelling.{fraction_text}
use Rattle.number_lines.specs.Fractions.{fractions, nonzero_fractions, fraction_pieces}

-- a fraction is its pieces with slashes between them
pub pieces_joined : (f : Fraction) → fraction_text f ≡ joined (codes "/") (fraction_pieces f)
pieces_joined f = go (nat_eq (unsigned_abs f.bottom) 1)
  where
    go : (b : Bool) → signed_decimal f.top ⧺ cond b [] (byte "/" ∷ signed_decimal f.bottom)
        ≡ joined (codes "/") (signed_decimal f.top ∷ cond b [] (signed_decimal f.bottom ∷ []))
    go true = append-nil (signed_decimal f.top)
    go false = refl

-- the pieces have digits and a minus only
pub pieces_only : (class : ℕ → Bool) → Only class signed_bytes → (f : Fraction) → AreNumbers f → AllByRecursion (Only class) (fraction_pieces f)
pieces_only class h f p = (number f.top p.top, go (nat_eq (unsigned_abs f.bottom) 1))
  where
    number : (z : ℤ) → IsNumber z → Only class (signed_decimal z)
    number z small = only_more signed_bytes class (signed_decimal z) h (only_signed_decimal z small)

    go : (b : Bool) → AllByRecursion (Only class) (cond b [] (signed_decimal f.bottom ∷ []))
    go true = tt
    go false = (number f.bottom p.bottom, tt)

fraction_only : (class : ℕ → Bool) → Only class signed_bytes → Only class (codes "/") → (f : Fraction) → AreNumbers f → Only class (fraction_text f)
fraction_only class h k f p =
    subst (Only class) (sym (pieces_joined f)) (only_joined class (codes "/") k (fraction_pieces f) (pieces_only class h f p))

-- positive numbers of one magnitude are one
positive_told : (y z : ℤ) → pos 0 <ℤ y → pos 0 <ℤ z → unsigned_abs y ≡ unsigned_abs z → y ≡ z
positive_told (pos a) (pos b) p q e = ap pos e
positive_told (pos a) (negsuc b) p q e = omega (arith, ints)
positive_told (negsuc a) z p q e = omega (arith, ints)

denominator_told : (y z : ℤ) → IsNumber y → IsNumber z → pos 0 <ℤ y → pos 0 <ℤ z
    → drop 1 (fraction_pieces (record { top = pos 0; bottom = y })) ≡ drop 1 (fraction_pieces (record { top = pos 0; bottom = z })) → y ≡ z
denominator_told y z h k p q e = go (nat_eq (unsigned_abs y) 1) refl (nat_eq (unsigned_abs z) 1) refl e
  where
    go : (a : Bool) → nat_eq (unsigned_abs y) 1 ≡ a → (b : Bool) → nat_eq (unsigned_abs z) 1 ≡ b
        → cond a [] (signed_decimal y ∷ []) ≡ cond b [] (signed_decimal z ∷ []) → y ≡ z
    go true s true t x = positive_told y z p q (eqb-true (unsigned_abs y) 1 s ∙ sym (eqb-true (unsigned_abs z) 1 t))
    go true s false t x = absurd cc
    go false s true t x = absurd cc
    go false s false t x = signed_decimal_determines y z h k cc

-- the pieces tell the fraction
pub pieces_tell : (f g : Fraction) → AreNumbers f → AreNumbers g → pos 0 <ℤ f.bottom → pos 0 <ℤ g.bottom
    → fraction_pieces f ≡ fraction_pieces g → f ≡ g
pieces_tell f g p q h k e =
    let head : signed_decimal f.top ≡ signed_decimal g.top = cc in
    let top = signed_decimal_determines f.top g.top p.top q.top head in
    let bottom = denominator_told f.bottom g.bottom p.bottom q.bottom h k (ap (drop 1) e) in
    λ i. record { top = top i; bottom = bottom i }

text_tells : (f g : Fraction) → AreNumbers f → AreNumbers g → pos 0 <ℤ f.bottom → pos 0 <ℤ g.bottom → fraction_text f ≡ fraction_text g → f ≡ g
text_tells f g p q h k e = pieces_tell f g p q h k (joined_determines (other_than 47) 47 [] refl _ _ _ _
    (pieces_only (other_than 47) refl f p) (pieces_only (other_than 47) refl g q) (sym (pieces_joined f) ∙ e ∙ pieces_joined g))

-- a fraction isn't a lone minus
text_not_minus : (f : Fraction) → AreNumbers f → fraction_text f ≢ codes "-"
text_not_minus f p e =
    let same = joined_determines (other_than 47) 47 [] refl _ (codes "-") _ []
    (pieces_only (other_than 47) refl f p) (refl, tt) (sym (pieces_joined f) ∙ e) in
    let head : signed_decimal f.top ≡ codes "-" = cc in
    wholes_are_items.not_none f.top p.top head

-- the fraction 1
one_numbers : AreNumbers (of_whole (pos 1))
one_numbers = record { top = lit< tt; bottom = lit< tt }

one_terms : IsInLowestTerms (of_whole (pos 1))
one_terms = record { positive = omega (arith, ints); coprime = λ d p q. eq-one_of_dvd-one q }

-- the text of a fraction in lowest terms stands in one line and tells the fraction
pub fractions_within_line : AreWithinLine fractions
fractions_within_line = record {
  some = (of_whole (pos 1), (one_numbers, one_terms));
  within = λ f p. fraction_only (other_than 10) refl refl f p.0;
  determined = λ f g p q e. text_tells f g p.0 q.0 p.1.positive q.1.positive e;
}

-- fractions in lowest terms can stand in a list
pub fractions_are_items : AreItems fractions
fractions_are_items = record {
  commas = λ f p. fraction_only (other_than 44) refl refl f p.0;
  semicolons = λ f p. fraction_only (other_than 59) refl refl f p.0;
  not_none = λ f p. text_not_minus f p.0;
}

are_numbers : (f : Fraction) → IsLowest f → AreNumbers f
are_numbers f p = record { top = p.top; bottom = p.bottom }

lowest_of : (f : Fraction) → AreNumbers f → IsInLowestTerms f → f.top ≢ pos 0 → IsLowest f
lowest_of f p q some = record { top = p.top; bottom = p.bottom; not_zero = some; positive = q.positive; coprime = q.coprime }

-- the text of a fraction in lowest terms other than 0 stands in one line and tells the fraction
pub nonzero_within_line : AreWithinLine nonzero_fractions
nonzero_within_line = record {
  some = (of_whole (pos 1), lowest_of (of_whole (pos 1)) one_numbers one_terms (λ e. omega (arith, ap unsigned_abs e)));
  within = λ f p. fraction_only (other_than 10) refl refl f (are_numbers f p);
  determined = λ f g p q e. text_tells f g (are_numbers f p) (are_numbers g q) p.positive q.positive e;
}

-- fractions in lowest terms other than 0 can stand in a list
pub nonzero_are_items : AreItems nonzero_fractions
nonzero_are_items = record {
  commas = λ f p. fraction_only (other_than 44) refl refl f (are_numbers f p);
  semicolons = λ f p. fraction_only (other_than 59) refl refl f (are_numbers f p);
  not_none = λ f p. text_not_minus f (are_numbers f p);
}
