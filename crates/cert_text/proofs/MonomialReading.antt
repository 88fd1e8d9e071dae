-- The parts of a monomial as they are read from its text.
use Rattle.std.specs.Prelude.{◌≡◌, ℕ, zero, suc, ◌^◌, ◌<◌, Bool, true, false, if◌then◌else◌, nat_eq, codes, List, [], ◌∷◌, ◌++◌}
use Rattle.std.specs.Fmt.{decimal}
use Rattle.std.proofs.Common.{refl, sym, ◌∙◌, append-nil, inl, inr}
use Rattle.std.proofs.lemmas.Bool.{eqb-true}
use Rattle.exact_texts.specs.Texts.{◌⧺◌, Only}
use Rattle.document_text.specs.Spelling.{power_text, magnitude_text}
use Rattle.exact_texts.proofs.Cuts.{Stops, only_more}
use Rattle.exact_texts.proofs.Numerals.{digit_bytes, only_decimal, decimal_not_empty}
use Rattle.cert_text.specs.Reading.{outside, IsMagnitudeText, IsStarOf}

-- every byte but a star and a k
abbrev pub before_power : ℕ → Bool
before_power = outside (codes "*k")

-- a monomial without its sign is cut in front of the star or the k: its magnitude, and its power behind the star
pub record IsUnsigned (text : List ℕ) (magnitude : ℕ) (power : List ℕ) : Type 0 where
  pub front : List ℕ
  pub back : List ℕ
  pub whole : text ≡ front ++ back
  pub only : Only before_power front
  pub stops : Stops before_power back
  pub digits : IsMagnitudeText front magnitude
  pub behind : (rest : List ℕ) → IsStarOf back rest → rest ≡ power

only_digits : (n : ℕ) → n < 2 ^ 127 → Only before_power (decimal n)
only_digits n h = only_more digit_bytes before_power (decimal n) refl (only_decimal n h)

-- in front of a power, a magnitude of 1 is left out
with_power : (n : ℕ) (tail text : List ℕ) → n < 2 ^ 127 → text ≡ magnitude_text n (107 ∷ tail) → IsUnsigned text n (107 ∷ tail)
with_power n tail text h e = go (nat_eq n 1) refl e
  where
    go : (b : Bool) → nat_eq n 1 ≡ b → text ≡ (if b then 107 ∷ tail else decimal n ⧺ 42 ∷ 107 ∷ tail) → IsUnsigned text n (107 ∷ tail)
    go true one e = record {
      front = [];
      back = 107 ∷ tail;
      whole = e;
      only = refl;
      stops = refl;
      digits = inl (refl, eqb-true n 1 one);
      behind = λ rest is. is.bare refl;
    }
    go false one e = record {
      front = decimal n;
      back = 42 ∷ 107 ∷ tail;
      whole = e;
      only = only_digits n h;
      stops = refl;
      digits = inr refl;
      behind = λ rest is. is.star (107 ∷ tail) refl;
    }

-- so is each monomial without its sign
pub unsigned_parts : (n power : ℕ) (text : List ℕ) → n < 2 ^ 127 → text ≡ magnitude_text n (power_text 107 power)
    → IsUnsigned text n (power_text 107 power)
unsigned_parts n zero text h e = record {
  front = decimal n;
  back = [];
  whole = e ∙ sym (append-nil (decimal n));
  only = only_digits n h;
  stops = tt;
  digits = inr refl;
  behind = λ rest is. is.none refl;
}
unsigned_parts n (suc zero) text h e = with_power n [] text h e
unsigned_parts n (suc (suc p)) text h e = with_power n (94 ∷ decimal (suc (suc p))) text h e

-- no magnitude above 0 is spelled by nothing but 1
pub magnitude_of_none : (n : ℕ) (digits : List ℕ) → n < 2 ^ 127 → digits ≡ [] → IsMagnitudeText digits n → n ≡ 1
magnitude_of_none n digits h none (inl one) = one.1
magnitude_of_none n digits h none (inr e) = absurd (decimal_not_empty n h (sym e ∙ none))
