-- The text of a number has digits and a sign only, and tells the number.
use Rattle.std.specs.Prelude.{◌≡◌, ◌≢◌, ℕ, suc, ◌+◌, ◌%◌, ◌^◌, ◌≤◌, ◌<◌, true, ℤ, pos, negsuc, neg_ℤ, unsigned_abs, codes, List, [], ◌∷◌, length, drop}
use Rattle.std.specs.List.{list_all}
use Rattle.std.specs.Fmt.{decimal, signed_decimal}
use Rattle.std.specs.Str.Parse.{digits_value}
use Rattle.std.proofs.Common.{refl, ap, sym, subst, ◌∙◌, arith, lit<, lit≤}
use Rattle.std.proofs.lemmas.Bool.{agree_below_at, false≢true}
use Rattle.std.proofs.lemmas.Fmt.{decimal_is_IsNumeral_wide, decimal_by_steps_wide}
use Rattle.exact_texts.specs.Texts.{Only, other_than}
use Rattle.exact_texts.specs.Lines.{AreWithinLine}
use Rattle.exact_texts.specs.Lists.{AreItems}
use Rattle.exact_texts.specs.Beside.{IsWithout}
use Rattle.exact_texts.specs.Numbers.{numbers_below, naturals, whole_numbers}
use Rattle.exact_texts.proofs.Cuts.{among, only_append, only_more}

abbrev pub digit_bytes : List ℕ
digit_bytes = codes "0123456789"

-- a digit is among the digits
only_digit : (d : ℕ) → d < 10 → Only (among digit_bytes) ((48 + d) ∷ [])
only_digit d h = agree_below_at (λ e. list_all (among digit_bytes) ((48 + e) ∷ [])) (λ e. true) 10 d refl h

-- a decimal has digits only, and at least one, and determines its number
pub only_decimal : (n : ℕ) → n < 2 ^ 127 → Only (among digit_bytes) (decimal n)
only_decimal n h = decimal_by_steps_wide (λ m ds. Only (among digit_bytes) ds) only_digit
    (λ m ds l p. only_append (among digit_bytes) ds ((48 + m % 10) ∷ []) p (only_digit (m % 10) (omega arith))) n (omega arith)

pub decimal_not_empty : (n : ℕ) → n < 2 ^ 127 → decimal n ≢ []
decimal_not_empty n h e = omega (arith, (decimal_is_IsNumeral_wide n (omega arith)).0.0, ap length e)

pub decimal_determines : (m n : ℕ) → m < 2 ^ 127 → n < 2 ^ 127 → decimal m ≡ decimal n → m ≡ n
decimal_determines m n p q e =
    sym (decimal_is_IsNumeral_wide m (omega arith)).1 ∙ ap (digits_value 10) e ∙ (decimal_is_IsNumeral_wide n (omega arith)).1

-- no decimal begins with a minus
decimal_no_minus : (n : ℕ) (xs : List ℕ) → n < 2 ^ 127 → decimal n ≢ 45 ∷ xs
decimal_no_minus n xs h e = false≢true (subst (Only (among digit_bytes)) e (only_decimal n h))

abbrev pub signed_bytes : List ℕ
signed_bytes = codes "0123456789-"

-- a signed number has digits and a minus only, and its text determines it
pub only_signed_decimal : (z : ℤ) → unsigned_abs z < 2 ^ 127 → Only (among signed_bytes) (signed_decimal z)
only_signed_decimal (pos n) h = only_more digit_bytes (among signed_bytes) (decimal n) refl (only_decimal n h)
only_signed_decimal (negsuc n) h = only_more digit_bytes (among signed_bytes) (decimal (suc n)) refl (only_decimal (suc n) h)

pub signed_decimal_determines : (y z : ℤ) → unsigned_abs y < 2 ^ 127 → unsigned_abs z < 2 ^ 127 → signed_decimal y ≡ signed_decimal z → y ≡ z
signed_decimal_determines (pos m) (pos n) p q e = ap pos (decimal_determines m n p q e)
signed_decimal_determines (pos m) (negsuc n) p q e = absurd (decimal_no_minus m _ p e)
signed_decimal_determines (negsuc m) (pos n) p q e = absurd (decimal_no_minus n _ q (sym e))
signed_decimal_determines (negsuc m) (negsuc n) p q e =
    let rest : decimal (suc m) ≡ decimal (suc n) = ap (drop 1) e in
    let same = decimal_determines (suc m) (suc n) p q rest in
    ap negsuc (omega arith)

-- behind a minus stands the magnitude
pub behind_minus : (z : ℤ) (rest : List ℕ) → unsigned_abs z < 2 ^ 127 → 45 ∷ rest ≡ signed_decimal z
    → (rest ≡ decimal (unsigned_abs z)) × (neg_ℤ (pos (unsigned_abs z)) ≡ z)
behind_minus (pos n) rest h e = absurd (decimal_no_minus n rest h (sym e))
behind_minus (negsuc n) rest h e = (ap (drop 1) e, refl)

pub numbers_within_line : (bound : ℕ) → 1 ≤ bound → bound ≤ 2 ^ 127 → AreWithinLine (numbers_below bound)
numbers_within_line bound some small = record {
  some = (0, some);
  within = λ n h. only_more digit_bytes (other_than 10) (decimal n) refl (only_decimal n (omega arith));
  determined = λ m n h k e. decimal_determines m n (omega arith) (omega arith) e;
}

pub wholes_within_line : AreWithinLine whole_numbers
wholes_within_line = record {
  some = (pos 0, lit< tt);
  within = λ z h. only_more signed_bytes (other_than 10) (signed_decimal z) refl (only_signed_decimal z h);
  determined = signed_decimal_determines;
}

pub naturals_within_line : AreWithinLine naturals
naturals_within_line = numbers_within_line (2 ^ 127) (lit≤ tt) (lit≤ tt)

-- a number has no space
pub naturals_spaceless : IsWithout 32 naturals
naturals_spaceless n h = only_more digit_bytes (other_than 32) (decimal n) refl (only_decimal n h)

no_digits : (n : ℕ) → n < 2 ^ 127 → decimal n ≢ codes "-"
no_digits n h e = false≢true (subst (Only (among digit_bytes)) e (only_decimal n h))

pub naturals_are_items : AreItems naturals
naturals_are_items = record {
  commas = λ n h. only_more digit_bytes (other_than 44) (decimal n) refl (only_decimal n h);
  semicolons = λ n h. only_more digit_bytes (other_than 59) (decimal n) refl (only_decimal n h);
  not_none = no_digits;
}

-- a signed number isn't a lone minus
no_minus : (z : ℤ) → unsigned_abs z < 2 ^ 127 → signed_decimal z ≢ codes "-"
no_minus (pos n) h e = no_digits n h e
no_minus (negsuc n) h e = decimal_not_empty (suc n) h (ap (drop 1) e)

pub wholes_are_items : AreItems whole_numbers
wholes_are_items = record {
  commas = λ z h. only_more signed_bytes (other_than 44) (signed_decimal z) refl (only_signed_decimal z h);
  semicolons = λ z h. only_more signed_bytes (other_than 59) (signed_decimal z) refl (only_signed_decimal z h);
  not_none = no_minus;
}

-- a signed number has no space
pub wholes_spaceless : IsWithout 32 whole_numbers
wholes_spaceless z h = only_more signed_bytes (other_than 32) (signed_decimal z) refl (only_signed_decimal z h)
