-- The text of a monomial without its sign determines its magnitude and its powers.
use Rattle.std.specs.Prelude.{◌≡◌, ◌≢◌, ℕ, ◌^◌, ◌<◌, Bool, true, false, if◌then◌else◌, nat_eq, pos, unsigned_abs, List, [], ◌∷◌, drop}
use Rattle.std.specs.Fmt.{decimal}
use Rattle.std.specs.Str.{byte}
use Rattle.std.proofs.Common.{refl, ap, sym, subst, ◌∙◌, append-nil}
use Rattle.std.proofs.lemmas.Bool.{eqb-true}
use Rattle.exact_texts.specs.Texts.{◌⧺◌, Only}
use Rattle.document_text.specs.Spelling.{Monomial, powers_text, magnitude_text, unsigned_text}
use Rattle.hypergeometric.specs.TermFacts.{IsNumber}
use Rattle.exact_texts.proofs.Cuts.{among, Stops, only_append, only_more}
use Rattle.exact_texts.proofs.Numerals.{digit_bytes, only_decimal, decimal_not_empty, decimal_determines}
use Rattle.document_text.proofs.Numerals.{decimal_before, decimal_starts}
use Rattle.document_text.proofs.Powers.{unsigned_bytes, only_powers, powers_stop, powers_determine}

-- the numbers of the monomial are below 2^127 in magnitude
pub record IsMonomial (m : Monomial) : Type 0 where
  pub coefficient : IsNumber m.coefficient
  pub n_power : m.n_power < 2 ^ 127
  pub k_power : m.k_power < 2 ^ 127

-- the coefficient isn't 0
abbrev pub HasCoefficient : Monomial → Type 0
HasCoefficient m = m.coefficient ≢ pos 0

-- a magnitude in front of powers, left out where b says so and a power follows
abbrev spelled : Bool → ℕ → List ℕ → List ℕ
spelled b c [] = decimal c
spelled b c (p ∷ ps) = if b then p ∷ ps else (decimal c ⧺ byte "*" ∷ p ∷ ps)

-- the text of a magnitude is of this kind
spelled_magnitude : (c : ℕ) (xs : List ℕ) → magnitude_text c xs ≡ spelled (nat_eq c 1) c xs
spelled_magnitude c [] = refl
spelled_magnitude c (x ∷ xs) = refl

-- Where the tests hold of a magnitude of 1 only, the text determines the magnitude and the powers.
magnitudes : (b e : Bool) (c d : ℕ) (xs ys : List ℕ) → (b ≡ true → c ≡ 1) → (e ≡ true → d ≡ 1) → c < 2 ^ 127 → d < 2 ^ 127
    → Stops (among digit_bytes) xs → Stops (among digit_bytes) ys → spelled b c xs ≡ spelled e d ys → (c ≡ d) × (xs ≡ ys)
magnitudes b e c d [] [] one same hc hd sx sy q = (decimal_determines c d hc hd q, refl)
magnitudes b true c d [] (y ∷ ys) one same hc hd sx sy q = absurd (decimal_starts c [] (y ∷ ys) hc tt sy (append-nil (decimal c) ∙ q))
magnitudes b false c d [] (y ∷ ys) one same hc hd sx sy q =
    let parts = decimal_before c d [] (byte "*" ∷ y ∷ ys) hc hd tt refl (append-nil (decimal c) ∙ q) in
    let no = parts.1 in
    cc
magnitudes true e c d (x ∷ xs) [] one same hc hd sx sy q = absurd (decimal_starts d [] (x ∷ xs) hd tt sx (append-nil (decimal d) ∙ sym q))
magnitudes false e c d (x ∷ xs) [] one same hc hd sx sy q =
    let parts = decimal_before c d (byte "*" ∷ x ∷ xs) [] hc hd refl tt (q ∙ sym (append-nil (decimal d))) in
    let no = parts.1 in
    cc
magnitudes true true c d (x ∷ xs) (y ∷ ys) one same hc hd sx sy q = (one refl ∙ sym (same refl), q)
magnitudes true false c d (x ∷ xs) (y ∷ ys) one same hc hd sx sy q = absurd (decimal_starts d (byte "*" ∷ y ∷ ys) (x ∷ xs) hd refl sx (sym q))
magnitudes false true c d (x ∷ xs) (y ∷ ys) one same hc hd sx sy q = absurd (decimal_starts c (byte "*" ∷ x ∷ xs) (y ∷ ys) hc refl sy q)
magnitudes false false c d (x ∷ xs) (y ∷ ys) one same hc hd sx sy q =
    let parts = decimal_before c d (byte "*" ∷ x ∷ xs) (byte "*" ∷ y ∷ ys) hc hd refl refl q in
    (parts.0, ap (drop 1) parts.1)

-- the text of a monomial without its sign determines its magnitude and its powers
pub unsigned_determines : (x y : Monomial) → IsMonomial x → IsMonomial y → unsigned_text x ≡ unsigned_text y
    → (unsigned_abs x.coefficient ≡ unsigned_abs y.coefficient) × (x.n_power ≡ y.n_power) × (x.k_power ≡ y.k_power)
unsigned_determines x y p q e =
    let c = unsigned_abs x.coefficient in
    let d = unsigned_abs y.coefficient in
    let parts = magnitudes (nat_eq c 1) (nat_eq d 1) c d (powers_text x) (powers_text y) (eqb-true c 1) (eqb-true d 1) p.coefficient q.coefficient
    (powers_stop x.n_power x.k_power) (powers_stop y.n_power y.k_power)
    (sym (spelled_magnitude c (powers_text x)) ∙ e ∙ spelled_magnitude d (powers_text y)) in
    let powers = powers_determine x.n_power x.k_power y.n_power y.k_power p.n_power p.k_power q.n_power q.k_power parts.1 in
    (parts.0, powers.0, powers.1)

-- a monomial's text isn't empty
magnitude_not_empty : (c : ℕ) (xs : List ℕ) (b : Bool) → c < 2 ^ 127 → spelled b c xs ≢ []
magnitude_not_empty c [] b h e = decimal_not_empty c h e
magnitude_not_empty c (x ∷ xs) true h e = cc
magnitude_not_empty c (x ∷ xs) false h e = decimal_starts c (byte "*" ∷ x ∷ xs) [] h refl tt e

pub unsigned_not_empty : (m : Monomial) → IsMonomial m → unsigned_text m ≢ []
unsigned_not_empty m h e =
    let c = unsigned_abs m.coefficient in
    magnitude_not_empty c (powers_text m) (nat_eq c 1) h.coefficient (sym (spelled_magnitude c (powers_text m)) ∙ e)

-- a monomial without its sign has digits, stars, carets and names only
only_spelled : (c : ℕ) (xs : List ℕ) (b : Bool) → c < 2 ^ 127 → Only (among unsigned_bytes) xs → Only (among unsigned_bytes) (spelled b c xs)
only_spelled c [] b h all = only_more digit_bytes (among unsigned_bytes) (decimal c) refl (only_decimal c h)
only_spelled c (x ∷ xs) true h all = all
only_spelled c (x ∷ xs) false h all =
    only_append (among unsigned_bytes) (decimal c) (byte "*" ∷ x ∷ xs)
    (only_more digit_bytes (among unsigned_bytes) (decimal c) refl (only_decimal c h)) all

pub only_unsigned : (m : Monomial) → IsMonomial m → Only (among unsigned_bytes) (unsigned_text m)
only_unsigned m h =
    let c = unsigned_abs m.coefficient in
    subst (Only (among unsigned_bytes)) (sym (spelled_magnitude c (powers_text m)))
    (only_spelled c (powers_text m) (nat_eq c 1) h.coefficient (only_powers m.n_power m.k_power h.n_power h.k_power))
