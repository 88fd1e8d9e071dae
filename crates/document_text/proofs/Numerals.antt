-- The text of a number, of a fraction and of a power determines it.
use Rattle.std.specs.Prelude.{◌≡◌, ◌≢◌, ℕ, ◌^◌, ◌<◌, Bool, true, false, if◌then◌else◌, nat_eq, ◌⊎◌, ℤ, pos, negsuc, ◌<ℤ◌, unsigned_abs, codes, List, [], ◌∷◌, ◌++◌, drop}
use Rattle.std.specs.Fmt.{decimal, signed_decimal}
use Rattle.std.specs.Str.{byte}
use Rattle.std.proofs.Common.{refl, ap, sym, ◌∙◌, inl, inr, ⊎_elim, arith}
use Rattle.std.proofs.lemmas.Bool.{eqb-true}
use Rattle.std.proofs.lemmas.Int.{ints}
use Rattle.hypergeometric.specs.Fraction.{Fraction}
use Rattle.hypergeometric.specs.TermFacts.{IsLowest}
use Rattle.exact_texts.specs.Texts.{◌⧺◌, Only}
use Rattle.exact_texts.proofs.Numerals.{digit_bytes, only_decimal, decimal_not_empty, decimal_determines, signed_bytes, only_signed_decimal, signed_decimal_determines}
use Rattle.document_text.specs.Spelling.{fraction_text}
use Rattle.document_text.specs.TermText.{times_text}
use Rattle.exact_texts.proofs.Cuts.{among, Stops, only_append, only_more, cut}

-- a decimal ends where what follows it begins with no digit
pub decimal_before : (m n : ℕ) (r s : List ℕ) → m < 2 ^ 127 → n < 2 ^ 127 → Stops (among digit_bytes) r → Stops (among digit_bytes) s
    → decimal m ++ r ≡ decimal n ++ s → (m ≡ n) × (r ≡ s)
decimal_before m n r s p q u v e =
    let parts = cut (among digit_bytes) (decimal m) (decimal n) r s (only_decimal m p) (only_decimal n q) u v e in
    (decimal_determines m n p q parts.0, parts.1)

-- what begins with a decimal doesn't begin with anything else than a digit
pub decimal_starts : (n : ℕ) (r s : List ℕ) → n < 2 ^ 127 → Stops (among digit_bytes) r → Stops (among digit_bytes) s → decimal n ++ r ≢ s
decimal_starts n r s h u v e = decimal_not_empty n h (cut (among digit_bytes) (decimal n) [] r s (only_decimal n h) refl u v e).0

-- a text that is left out where a test holds
abbrev pub left_out : Bool → List ℕ → List ℕ
left_out b xs = if b then [] else xs

-- What is left out or begins with a byte c begins with no byte of a class without c, and is of each class that has its bytes.
pub left_out_stops : (class : ℕ → Bool) (b : Bool) (c : ℕ) (xs : List ℕ) → class c ≡ false → Stops class (left_out b (c ∷ xs))
left_out_stops class true c xs h = tt
left_out_stops class false c xs h = h

pub left_out_only : (class : ℕ → Bool) (b : Bool) (xs : List ℕ) → Only class xs → Only class (left_out b xs)
left_out_only class true xs h = refl
left_out_only class false xs h = h

-- equal texts are both left out, or are equal where they stand
pub left_out_same : (b d : Bool) (c : ℕ) (xs ys : List ℕ) → left_out b (c ∷ xs) ≡ left_out d (c ∷ ys) → ((b ≡ true) × (d ≡ true)) ⊎ (xs ≡ ys)
left_out_same true true c xs ys e = inl (refl, refl)
left_out_same true false c xs ys e = absurd cc
left_out_same false true c xs ys e = absurd cc
left_out_same false false c xs ys e = inr cc

-- a positive number of the magnitude 1 is 1
positive_one : (z : ℤ) → pos 0 <ℤ z → nat_eq (unsigned_abs z) 1 ≡ true → z ≡ pos 1
positive_one (pos n) h e = ap pos (eqb-true n 1 e)
positive_one (negsuc n) h e = omega (arith, ints)

abbrev pub fraction_bytes : List ℕ
fraction_bytes = codes "0123456789-/"

-- a fraction has the bytes of its two numbers and a slash only, and its text determines it
pub only_fraction : (f : Fraction) → IsLowest f → Only (among fraction_bytes) (fraction_text f)
only_fraction f h =
    let top = only_more signed_bytes (among fraction_bytes) (signed_decimal f.top) refl (only_signed_decimal f.top h.top) in
    let bottom = only_more signed_bytes (among fraction_bytes) (signed_decimal f.bottom) refl (only_signed_decimal f.bottom h.bottom) in
    only_append (among fraction_bytes) (signed_decimal f.top) _ top
    (left_out_only (among fraction_bytes) (nat_eq (unsigned_abs f.bottom) 1) (byte "/" ∷ signed_decimal f.bottom) bottom)

pub fraction_determines : (f g : Fraction) → IsLowest f → IsLowest g → fraction_text f ≡ fraction_text g → f ≡ g
fraction_determines f g p q e =
    let stops = λ (z : ℤ). left_out_stops (among signed_bytes) (nat_eq (unsigned_abs z) 1) (byte "/") (signed_decimal z) refl in
    let parts = cut (among signed_bytes) (signed_decimal f.top) (signed_decimal g.top) _ _
    (only_signed_decimal f.top p.top) (only_signed_decimal g.top q.top) (stops f.bottom) (stops g.bottom) e in
    let top = signed_decimal_determines f.top g.top p.top q.top parts.0 in
    let bottom : f.bottom ≡ g.bottom = ⊎_elim
    (λ ones. positive_one f.bottom p.positive ones.0 ∙ sym (positive_one g.bottom q.positive ones.1))
    (λ same. signed_decimal_determines f.bottom g.bottom p.bottom q.bottom same)
    (left_out_same _ _ (byte "/") (signed_decimal f.bottom) (signed_decimal g.bottom) parts.1) in
    λ i. record { top = top i; bottom = bottom i }

abbrev pub times_bytes : List ℕ
times_bytes = codes "0123456789 x"

-- a power of a factor, and its text determines it
pub only_times : (n : ℕ) → n < 2 ^ 127 → Only (among times_bytes) (times_text n)
only_times n h = left_out_only (among times_bytes) (nat_eq n 1) (codes " x" ⧺ decimal n)
    (only_more digit_bytes (among times_bytes) (decimal n) refl (only_decimal n h))

pub times_determines : (m n : ℕ) → m < 2 ^ 127 → n < 2 ^ 127 → times_text m ≡ times_text n → m ≡ n
times_determines m n p q e = ⊎_elim
    (λ ones. eqb-true m 1 ones.0 ∙ sym (eqb-true n 1 ones.1))
    (λ same. decimal_determines m n p q (ap (drop 1) same))
    (left_out_same (nat_eq m 1) (nat_eq n 1) (byte " ") (byte "x" ∷ decimal m) (byte "x" ∷ decimal n) e)
