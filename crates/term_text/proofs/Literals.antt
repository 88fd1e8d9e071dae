-- Runs of digits and names, and the numbers that digits write.
use Rattle.std.proofs.Common.{ltb-false, Bool, true, false, cond, [], ◌∷◌, drop, ◌≡◌, ℕ, ◌+◌, ◌-◌, ◌*◌, ◌/◌, ◌^◌, ◌<◌, ◌≤◌, List, length, take, get_or, suc, subst, ap, sym, ◌∙◌, arith, refl, Some, None}
use Rattle.std.proofs.Math.Seq.{drop-cons}
use Rattle.std.proofs.lemmas.Bool.Decides.{nat_tests}
use Rattle.std.proofs.lemmas.Int.Digits.{digits_value_more}
use Rattle.std.proofs.lemmas.Str.Parse.{digits_value-take-le, digit_at}
use Rattle.std.specs.Prelude.{nat_lt, pos, if◌then◌else◌}
use Rattle.std.specs.List.{prefix_len}
use Rattle.std.specs.Str.Parse.{digits_value, AllDigits}
use Rattle.std.specs.Char.{digit_value, is_ascii_digit, is_ascii_alphabetic, is_ascii_alphanumeric}
use Rattle.grammar.specs.Tokens.{front, name_token, token, flawed, literal_too_large, number_token}
use Rattle.grammar.specs.Token.{digits}
use Rattle.ring_laws.specs.declared.wholes.Whole.{Whole}
use Rattle.term_text.specs.Code.Literals.{whole_where, whole_of}
use Rattle.term_text.specs.declared.state.Token.TheVariants.{Digits}
use Rattle.term_text.specs.declared.front.Front.TheVariants.{Token}
use Rattle.term_text.specs.Code.Fronts.{below_limit, front_image}

digit_is : (c : ℕ) → 48 ≤ c → c ≤ 57 → digit_value c ≡ c - 48
digit_is c low high = grind (arith, nat_tests)

pub value_step : (text : List ℕ) (i value : ℕ) → i < length text → AllDigits 10 text → value ≡ digits_value 10 (take i text) →
    value * 10 + (get_or text i 0 - 48) ≡ digits_value 10 (take (i + 1) text)
value_step text i value h all e =
    let r = digit_at text i all h in
    ap (λ z. z * 10 + (get_or text i 0 - 48)) e
    ∙ ap (λ z. digits_value 10 (take i text) * 10 + z) (sym (digit_is (get_or text i 0) r.0 r.1))
    ∙ sym (digits_value_more 10 text i h)

not_less : (a b : ℕ) → b ≤ a → nat_lt a b ≡ false
not_less a b h = grind (arith, nat_tests)

over : (v d : ℕ) → d ≤ 9 → (2 ^ 127 - 1 - d) / 10 < v → 2 ^ 127 ≤ v * 10 + d
over v d k h = omega arith

pub too_large : (text : List ℕ) (i value : ℕ) → i < length text → AllDigits 10 text → value ≡ digits_value 10 (take i text) →
    (2 ^ 127 - 1 - (get_or text i 0 - 48)) / 10 < value → None ≡ below_limit (digits_value 10 text)
too_large text i value h all e more =
    let r = digit_at text i all h in
    let step = value_step text i value h all e in
    let le = digits_value-take-le 10 text (i + 1) (omega arith) in
    let big = over value (get_or text i 0 - 48) (omega (arith, r)) more in
    sym (ap (λ b. if b then Some (digits_value 10 text) else None) (not_less (digits_value 10 text) (2 ^ 127) (omega (arith, step, le, big))))

digit_small : (c : ℕ) → is_ascii_digit c ≡ true → digit_value c < 10
digit_small c e = grind (arith, nat_tests)

pub digits_front : (xs : List ℕ) → AllDigits 10 (take (prefix_len is_ascii_digit xs) xs)
digits_front [] = tt
digits_front (x ∷ xs) = go (is_ascii_digit x) refl (digits_front xs)
  where
    one_more : (n : ℕ) → suc n ≡ 1 + n
    one_more n = omega arith

    go : (b : Bool) → is_ascii_digit x ≡ b → AllDigits 10 (take (prefix_len is_ascii_digit xs) xs) → AllDigits 10 (take (cond b (1 + prefix_len is_ascii_digit xs) 0) (x ∷ xs))
    go true e all = subst (λ k. AllDigits 10 (take k (x ∷ xs))) (one_more (prefix_len is_ascii_digit xs)) (digit_small x e, all)
    go false e all = tt

same_run : (at end n : ℕ) → end ≡ at + n → n ≡ end - at
same_run at end n e = omega (arith, e)

pub digits_run : (text : List ℕ) (at end : ℕ) → end ≡ at + prefix_len is_ascii_digit (drop at text) → AllDigits 10 (take (end - at) (drop at text))
digits_run text at end e = subst (λ k. AllDigits 10 (take k (drop at text))) (same_run at end (prefix_len is_ascii_digit (drop at text)) e) (digits_front (drop at text))

pub name_run : (text : List ℕ) (at end : ℕ) → at < length text → is_ascii_digit (get_or text at 0) ≡ false → is_ascii_alphabetic (get_or text at 0) ≡ true →
    end ≡ at + prefix_len is_ascii_alphanumeric (drop at text) → name_token (take (end - at) (drop at text)) ≡ front (drop at text)
name_run text at end h no_digit letter e =
    ap (λ k. name_token (take k (drop at text))) (sym (same_run at end (prefix_len is_ascii_alphanumeric (drop at text)) e))
    ∙ go (drop at text) (drop-cons text at 0 h)
  where
    go : (xs : List ℕ) → xs ≡ get_or text at 0 ∷ drop (suc at) text → name_token (take (prefix_len is_ascii_alphanumeric xs) xs) ≡ front xs
    go [] f = absurd (empty f)
      where
        empty : [] ≡ get_or text at 0 ∷ drop (suc at) text → ⊥
        empty d = cc
    go (x ∷ xs) f =
        let same : x ≡ get_or text at 0 = cc in
        let d : is_ascii_digit x ≡ false = ap is_ascii_digit same ∙ no_digit in
        let l : is_ascii_alphabetic x ≡ true = ap is_ascii_alphabetic same ∙ letter in
        rw (d, l) refl

-- the number of the code is the number
pub whole_value : (value : ℕ) → value < 2 ^ 127 → (whole_of value).value ≡ pos value
whole_value value h = go (nat_lt value (2 ^ 127)) refl
  where
    go : (test : Bool) (e : nat_lt value (2 ^ 127) ≡ test) → (whole_where value test e).value ≡ pos value
    go true e = refl
    go false e = absurd (omega (arith, ltb-false value (2 ^ 127) e, h))

-- the token that digits make
pub number_is : (ds : List ℕ) (value : ℕ) (w : Whole) → Some value ≡ below_limit (digits_value 10 ds) → w ≡ whole_of value → Token (Digits w) (length ds) ≡ front_image (number_token ds)
number_is ds value w given same = go (nat_lt (digits_value 10 ds) (2 ^ 127)) given
  where
    go : (test : Bool) → Some value ≡ (if test then Some (digits_value 10 ds) else None) →
        Token (Digits w) (length ds) ≡ front_image (if test then token (digits (digits_value 10 ds)) (length ds) else flawed literal_too_large)
    go true e = ap (λ z. Token (Digits z) (length ds)) (same ∙ ap whole_of (some_of e))
      where
        some_of : Some value ≡ Some (digits_value 10 ds) → value ≡ digits_value 10 ds
        some_of p = cc
    go false e = absurd (differ e)
      where
        differ : Some value ≡ None → ⊥
        differ d = cc
