-- The sign in front of a text, and what follows it.
use Rattle.std.specs.Prelude.{◌≡◌, ◌≢◌, ℕ, suc, ◌^◌, ◌<◌, Bool, ℤ, pos, negsuc, List, [], ◌∷◌, ◌++◌}
use Rattle.std.specs.List.{list_all}
use Rattle.std.specs.Fmt.{decimal, signed_decimal}
use Rattle.std.proofs.Common.{refl, ap, sym, subst, ◌∙◌}
use Rattle.std.proofs.lemmas.Bool.{and_parts}
use Rattle.hypergeometric.specs.TermFacts.{IsNumber}
use Rattle.exact_texts.specs.Texts.{Only}
use Rattle.exact_texts.proofs.Cuts.{only_more}
use Rattle.exact_texts.proofs.Numerals.{digit_bytes, only_decimal, decimal_not_empty}
use Rattle.cert_text.specs.Reading.{unsigned, Begins, IsSignOf, signed_number}

-- a text of the class that isn't empty begins in it, whatever follows
pub begins_only : (class : ℕ → Bool) (xs r : List ℕ) → Only class xs → xs ≢ [] → Begins class (xs ++ r)
begins_only class [] r all some = absurd (some refl)
begins_only class (x ∷ xs) r all some = (and_parts (class x) (list_all class xs) all).0

begins_alone : (class : ℕ → Bool) (xs : List ℕ) → Only class xs → xs ≢ [] → Begins class xs
begins_alone class [] all some = absurd (some refl)
begins_alone class (x ∷ xs) all some = (and_parts (class x) (list_all class xs) all).0

-- digits have no sign
pub digits_unsigned : (n : ℕ) → n < 2 ^ 127 → Begins unsigned (decimal n)
digits_unsigned n h =
    begins_alone unsigned (decimal n) (only_more digit_bytes unsigned (decimal n) refl (only_decimal n h)) (decimal_not_empty n h)

-- the sign and the digits of a number
pub sign_of_number : (z : ℤ) (text : List ℕ) (negative : Bool) (rest : List ℕ) → IsNumber z → text ≡ signed_decimal z → IsSignOf text negative rest
    → (n : ℕ) × (n < 2 ^ 127) × (rest ≡ decimal n) × (signed_number negative n ≡ z)
sign_of_number (pos n) text negative rest h e is =
    let bare = is.bare (subst (Begins unsigned) (sym e) (digits_unsigned n h)) in
    (n, h, bare.1 ∙ e, ap (λ b. signed_number b n) bare.0)
sign_of_number (negsuc n) text negative rest h e is =
    let minus = is.minus (decimal (suc n)) e in (suc n, h, minus.1, ap (λ b. signed_number b (suc n)) minus.0)
