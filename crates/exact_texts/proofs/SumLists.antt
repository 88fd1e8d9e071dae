-- Signed monomials one after another, a plus left out at the front.
use Rattle.std.specs.Prelude.{◌≡◌, ◌≢◌, ℕ, ◌^◌, ◌<◌, Bool, true, false, not, nat_eq, ◌||◌, ℤ, pos, negsuc, unsigned_abs, List, [], ◌∷◌, ◌++◌, codes, drop}
use Rattle.std.specs.List.{AllByRecursion, flat_map}
use Rattle.std.specs.Fmt.{decimal}
use Rattle.std.proofs.Common.{refl, ap, sym, subst, ◌∙◌, arith, lit<, get_or, cond}
use Rattle.std.proofs.lemmas.Fmt.{decimal_digit}
use Rattle.exact_texts.specs.Texts.{Only, other_than, joined}
use Rattle.exact_texts.specs.Sums.{Monomial, power_factors, with_magnitude, body_text, sign_of, signed_text, without_plus, sum_text, IsMonomial}
use Rattle.exact_texts.proofs.Cuts.{among, Stops, only_more, cut}
use Rattle.exact_texts.proofs.Numerals.{digit_bytes, decimal_not_empty}
use Rattle.exact_texts.proofs.Joined.{joined_determines}
use Rattle.exact_texts.proofs.Bodies.{Apart, magnitudes_determine}
use Rattle.exact_texts.proofs.SumTexts.{body_bytes, body_only, factors_without_star, magnitude_some, apart_digits, SameBodies, body_determines}

-- every byte but the signs
abbrev pub unsigned : ℕ → Bool
unsigned b = not (nat_eq b 43 || nat_eq b 45)

pub body_unsigned : (m : Monomial) → IsMonomial m → Only unsigned (body_text m)
body_unsigned m h = only_more body_bytes unsigned (body_text m) refl (body_only m h)

sign_stops : (m : Monomial) (r : List ℕ) → Stops unsigned (signed_text m ++ r)
sign_stops m r = go m.coefficient
  where
    go : (z : ℤ) → unsigned (sign_of z) ≡ false
    go (pos c) = refl
    go (negsuc c) = refl

pub signed_stop : (ms : List Monomial) → Stops unsigned (flat_map signed_text ms)
signed_stop [] = tt
signed_stop (m ∷ ms) = sign_stops m (flat_map signed_text ms)

coefficient_told : (y z : ℤ) → sign_of y ≡ sign_of z → unsigned_abs y ≡ unsigned_abs z → y ≡ z
coefficient_told (pos a) (pos b) s e = ap pos e
coefficient_told (pos a) (negsuc b) s e = absurd (omega (arith, s))
coefficient_told (negsuc a) (pos b) s e = absurd (omega (arith, s))
coefficient_told (negsuc a) (negsuc b) s e =
    let same : a ≡ b = omega (arith, e) in
    ap negsuc same

monomial_told : (m w : Monomial) → sign_of m.coefficient ≡ sign_of w.coefficient → SameBodies m w → m ≡ w
monomial_told m w s b =
    let c = coefficient_told m.coefficient w.coefficient s b.magnitude in
    λ i. record { coefficient = c i; n_power = b.n_power i; k_power = b.k_power i; x_power = b.x_power i }

-- signed monomials one after another tell the monomials
signed_determine : (ms ws : List Monomial) → AllByRecursion IsMonomial ms → AllByRecursion IsMonomial ws
    → flat_map signed_text ms ≡ flat_map signed_text ws → ms ≡ ws
signed_determine [] [] p q e = refl
signed_determine [] (w ∷ ws) p q e = absurd cc
signed_determine (m ∷ ms) [] p q e = absurd cc
signed_determine (m ∷ ms) (w ∷ ws) p q e =
    let sign : sign_of m.coefficient ≡ sign_of w.coefficient = ap (λ t. get_or t 0 0) e in
    let parts = cut unsigned (body_text m) (body_text w) (flat_map signed_text ms) (flat_map signed_text ws)
    (body_unsigned m p.0) (body_unsigned w q.0) (signed_stop ms) (signed_stop ws) (ap (drop 1) e) in
    let first = monomial_told m w sign (body_determines m w p.0 q.0 parts.0) in
    let rest = signed_determine ms ws p.1 q.1 parts.1 in
    λ i. first i ∷ rest i

-- a body is there, and begins with no sign
body_apart : (m : Monomial) → IsMonomial m → (r xs : List ℕ) → Stops unsigned r → body_text m ++ r ≡ 45 ∷ xs → body_text m ≡ []
body_apart m h r xs s e = (cut unsigned (body_text m) [] r (45 ∷ xs) (body_unsigned m h) refl s refl e).0

joined_some : (xs : List (List ℕ)) → xs ≢ [] → AllByRecursion (Only (other_than 42)) xs → joined (codes "*") xs ≡ [] → xs ≡ [] ∷ []
joined_some [] some p e = absurd (some refl)
joined_some (x ∷ xs) some p e = joined_determines (other_than 42) 42 [] refl x [] xs [] p (refl, tt) e

head_some : (c : ℕ) (fs : List (List ℕ)) → c < 2 ^ 127 → Apart (among digit_bytes) fs → with_magnitude c fs ≡ [] ∷ [] → ⊥
head_some c [] h a e = decimal_not_empty c h cc
head_some c (f ∷ fs) h a e = go (nat_eq c 1) e
  where
    go : (b : Bool) → cond b (f ∷ fs) (decimal c ∷ f ∷ fs) ≡ [] ∷ [] → ⊥
    go true x = subst (Apart (among digit_bytes)) x a
    go false x = decimal_not_empty c h cc

pub body_some : (m : Monomial) → IsMonomial m → body_text m ≢ []
body_some m h e = head_some (unsigned_abs m.coefficient) (power_factors m) h.number (apart_digits m)
    (joined_some _ (magnitude_some (unsigned_abs m.coefficient) (power_factors m)) (factors_without_star m h) e)

no_zero_digit : (m : Monomial) → IsMonomial m → body_text m ≢ codes "0"
no_zero_digit m h e =
    let factors = with_magnitude (unsigned_abs m.coefficient) (power_factors m) in
    let same = whole factors (magnitude_some (unsigned_abs m.coefficient) (power_factors m)) (factors_without_star m h) e in
    let zero_told = magnitudes_determine (unsigned_abs m.coefficient) 0 (power_factors m) [] h.number (lit< tt) (apart_digits m) tt
    (same ∙ ap (λ t. t ∷ []) (sym (decimal_digit 0 (lit< tt)))) in
    h.not_zero (no_magnitude m.coefficient zero_told.0)
  where
    whole : (xs : List (List ℕ)) → xs ≢ [] → AllByRecursion (Only (other_than 42)) xs → joined (codes "*") xs ≡ codes "0" → xs ≡ codes "0" ∷ []
    whole [] some p x = absurd (some refl)
    whole (y ∷ ys) some p x = joined_determines (other_than 42) 42 [] refl y (codes "0") ys [] p (refl, tt) x

    no_magnitude : (z : ℤ) → unsigned_abs z ≡ 0 → z ≡ pos 0
    no_magnitude (pos n) x = ap pos x
    no_magnitude (negsuc n) x = absurd (omega (arith, x))

abbrev pub rest_text : Monomial → List Monomial → List ℕ
rest_text m ms = body_text m ++ flat_map signed_text ms

-- a body begins with no sign
pub no_sign : (m : Monomial) (ms : List Monomial) (xs : List ℕ) → IsMonomial m → rest_text m ms ≡ 45 ∷ xs → ⊥
no_sign m ms xs h e = body_some m h (body_apart m h (flat_map signed_text ms) xs (signed_stop ms) e)

-- the plus at the front is known to be left out
plus_told : (m w : Monomial) (ms ws : List Monomial) → IsMonomial m → IsMonomial w → sum_text (m ∷ ms) ≡ sum_text (w ∷ ws)
    → flat_map signed_text (m ∷ ms) ≡ flat_map signed_text (w ∷ ws)
plus_told m w ms ws h k e = go m.coefficient w.coefficient e
  where
    go : (y z : ℤ) → without_plus (sign_of y ∷ rest_text m ms) ≡ without_plus (sign_of z ∷ rest_text w ws)
        → sign_of y ∷ rest_text m ms ≡ sign_of z ∷ rest_text w ws
    go (pos a) (pos b) x = ap (λ t. 43 ∷ t) x
    go (pos a) (negsuc b) x = absurd (no_sign m ms (rest_text w ws) h x)
    go (negsuc a) (pos b) x = absurd (no_sign w ws (rest_text m ms) k (sym x))
    go (negsuc a) (negsuc b) x = x

zero_apart : (m : Monomial) (ms : List Monomial) → IsMonomial m → codes "0" ≢ sum_text (m ∷ ms)
zero_apart m ms h e = go m.coefficient e
  where
    go : (z : ℤ) → codes "0" ≡ without_plus (sign_of z ∷ rest_text m ms) → ⊥
    go (pos a) x = no_zero_digit m h (sym (cut unsigned (codes "0") (body_text m) [] (flat_map signed_text ms) refl (body_unsigned m h) tt
        (signed_stop ms) x).0)
    go (negsuc a) x = omega (arith, ap (λ t. get_or t 0 0) x)

pub sum_determines : (ms ws : List Monomial) → AllByRecursion IsMonomial ms → AllByRecursion IsMonomial ws → sum_text ms ≡ sum_text ws → ms ≡ ws
sum_determines [] [] p q e = refl
sum_determines [] (w ∷ ws) p q e = absurd (zero_apart w ws q.0 e)
sum_determines (m ∷ ms) [] p q e = absurd (zero_apart m ms p.0 (sym e))
sum_determines (m ∷ ms) (w ∷ ws) p q e = signed_determine (m ∷ ms) (w ∷ ws) p q (plus_told m w ms ws p.0 q.0 e)
