-- The text of a sum of monomials is within a line, and tells the monomials.
use Rattle.std.specs.Prelude.{◌≡◌, ◌≢◌, ℕ, zero, suc, ◌^◌, ◌<◌, Bool, true, false, nat_eq, unsigned_abs, List, [], ◌∷◌, ◌++◌, codes}
use Rattle.std.specs.List.{AllByRecursion}
use Rattle.std.specs.Fmt.{decimal}
use Rattle.std.specs.Str.{byte}
use Rattle.std.proofs.Common.{refl, sym, ◌∙◌, arith, append-nil, cond}
use Rattle.exact_texts.specs.Texts.{Only, other_than, joined}
use Rattle.exact_texts.specs.Sums.{Monomial, power_factor, power_factors, with_magnitude, body_text, IsMonomial}
use Rattle.exact_texts.proofs.Cuts.{among, only_append, only_more}
use Rattle.exact_texts.proofs.Numerals.{digit_bytes, only_decimal}
use Rattle.exact_texts.proofs.Joined.{joined_determines, only_joined}
use Rattle.exact_texts.proofs.Bodies.{Apart, powers_determine, magnitudes_determine}

abbrev pub factor_bytes : List ℕ
factor_bytes = codes "0123456789^nkx"

abbrev pub body_bytes : List ℕ
body_bytes = codes "0123456789*^nkx"

all_append : (xs ys : List (List ℕ)) → AllByRecursion (Only (among factor_bytes)) xs → AllByRecursion (Only (among factor_bytes)) ys
    → AllByRecursion (Only (among factor_bytes)) (xs ++ ys)
all_append [] ys p q = q
all_append (x ∷ xs) ys p q = (p.0, all_append xs ys p.1 q)

power_only : (name p : ℕ) → p < 256 → Only (among factor_bytes) (name ∷ []) → AllByRecursion (Only (among factor_bytes)) (power_factor name p)
power_only name zero h n = tt
power_only name (suc zero) h n = (n, tt)
power_only name (suc (suc p)) h n = (
  only_append (among factor_bytes) (name ∷ []) (byte "^" ∷ decimal (suc (suc p))) n
      (only_more digit_bytes (among factor_bytes) (decimal (suc (suc p))) refl (only_decimal (suc (suc p)) (omega arith))),
  tt,
)

factors_only : (m : Monomial) → IsMonomial m → AllByRecursion (Only (among factor_bytes)) (power_factors m)
factors_only m h = all_append (power_factor (byte "n") m.n_power) _ (power_only (byte "n") m.n_power h.n_power refl)
    (all_append (power_factor (byte "k") m.k_power) _ (power_only (byte "k") m.k_power h.k_power refl)
    (power_only (byte "x") m.x_power h.x_power refl))

magnitude_only : (c : ℕ) (fs : List (List ℕ)) → c < 2 ^ 127 → AllByRecursion (Only (among factor_bytes)) fs
    → AllByRecursion (Only (among factor_bytes)) (with_magnitude c fs)
magnitude_only c [] h p = (only_more digit_bytes (among factor_bytes) (decimal c) refl (only_decimal c h), tt)
magnitude_only c (f ∷ fs) h p = go (nat_eq c 1)
  where
    go : (b : Bool) → AllByRecursion (Only (among factor_bytes)) (cond b (f ∷ fs) (decimal c ∷ f ∷ fs))
    go true = p
    go false = (only_more digit_bytes (among factor_bytes) (decimal c) refl (only_decimal c h), p)

pub body_factors : (m : Monomial) → IsMonomial m
    → AllByRecursion (Only (among factor_bytes)) (with_magnitude (unsigned_abs m.coefficient) (power_factors m))
body_factors m h = magnitude_only (unsigned_abs m.coefficient) (power_factors m) h.number (factors_only m h)

more_all : (class : ℕ → Bool) → Only class factor_bytes → (xs : List (List ℕ)) → AllByRecursion (Only (among factor_bytes)) xs
    → AllByRecursion (Only class) xs
more_all class h [] p = tt
more_all class h (x ∷ xs) p = (only_more factor_bytes class x h p.0, more_all class h xs p.1)

pub factors_without_star : (m : Monomial) → IsMonomial m
    → AllByRecursion (Only (other_than 42)) (with_magnitude (unsigned_abs m.coefficient) (power_factors m))
factors_without_star m h = more_all (other_than 42) refl _ (body_factors m h)

pub body_only : (m : Monomial) → IsMonomial m → Only (among body_bytes) (body_text m)
body_only m h = only_joined (among body_bytes) (codes "*") refl _ (more_all (among body_bytes) refl _ (body_factors m h))

pub magnitude_some : (c : ℕ) (fs : List (List ℕ)) → with_magnitude c fs ≢ []
magnitude_some c [] e = cc
magnitude_some c (f ∷ fs) e = go (nat_eq c 1) e
  where
    go : (b : Bool) → cond b (f ∷ fs) (decimal c ∷ f ∷ fs) ≡ [] → ⊥
    go true x = cc
    go false x = cc

joined_tell : (xs ys : List (List ℕ)) → xs ≢ [] → ys ≢ [] → AllByRecursion (Only (other_than 42)) xs → AllByRecursion (Only (other_than 42)) ys
    → joined (codes "*") xs ≡ joined (codes "*") ys → xs ≡ ys
joined_tell [] ys some more p q e = absurd (some refl)
joined_tell (x ∷ xs) [] some more p q e = absurd (more refl)
joined_tell (x ∷ xs) (y ∷ ys) some more p q e = joined_determines (other_than 42) 42 [] refl x y xs ys p q e

-- powers begin with their names
apart_power : (class : ℕ → Bool) (name p : ℕ) (fs : List (List ℕ)) → class name ≡ false → Apart class fs → Apart class (power_factor name p ++ fs)
apart_power class name zero fs h a = a
apart_power class name (suc zero) fs h a = h
apart_power class name (suc (suc p)) fs h a = h

pub apart_last : (class : ℕ → Bool) (name p : ℕ) → class name ≡ false → Apart class (power_factor name p)
apart_last class name zero h = tt
apart_last class name (suc zero) h = h
apart_last class name (suc (suc p)) h = h

pub apart_digits : (m : Monomial) → Apart (among digit_bytes) (power_factors m)
apart_digits m = apart_power (among digit_bytes) (byte "n") m.n_power _ refl
    (apart_power (among digit_bytes) (byte "k") m.k_power _ refl (apart_last (among digit_bytes) (byte "x") m.x_power refl))

pub apart_n : (m : Monomial) → Apart (nat_eq (byte "n")) (power_factor (byte "k") m.k_power ++ power_factor (byte "x") m.x_power)
apart_n m = apart_power (nat_eq (byte "n")) (byte "k") m.k_power _ refl (apart_last (nat_eq (byte "n")) (byte "x") m.x_power refl)

pub apart_k : (m : Monomial) → Apart (nat_eq (byte "k")) (power_factor (byte "x") m.x_power)
apart_k m = apart_last (nat_eq (byte "k")) (byte "x") m.x_power refl

-- monomials with one magnitude and the same powers
pub record SameBodies (m w : Monomial) : Type 0 where
  pub magnitude : unsigned_abs m.coefficient ≡ unsigned_abs w.coefficient
  pub n_power : m.n_power ≡ w.n_power
  pub k_power : m.k_power ≡ w.k_power
  pub x_power : m.x_power ≡ w.x_power

pub factors_determine : (m w : Monomial) → IsMonomial m → IsMonomial w
    → with_magnitude (unsigned_abs m.coefficient) (power_factors m) ≡ with_magnitude (unsigned_abs w.coefficient) (power_factors w) → SameBodies m w
factors_determine m w h k e =
    let magnitudes = magnitudes_determine (unsigned_abs m.coefficient) (unsigned_abs w.coefficient) (power_factors m) (power_factors w)
    h.number k.number (apart_digits m) (apart_digits w) e in
    let ns = powers_determine (byte "n") m.n_power w.n_power _ _ h.n_power k.n_power (apart_n m) (apart_n w) refl magnitudes.1 in
    let ks = powers_determine (byte "k") m.k_power w.k_power _ _ h.k_power k.k_power (apart_k m) (apart_k w) refl ns.1 in
    let xs = powers_determine (byte "x") m.x_power w.x_power [] [] h.x_power k.x_power tt tt refl
    (append-nil (power_factor (byte "x") m.x_power) ∙ ks.1 ∙ sym (append-nil (power_factor (byte "x") w.x_power))) in
    record { magnitude = magnitudes.0; n_power = ns.0; k_power = ks.0; x_power = xs.0 }

pub body_determines : (m w : Monomial) → IsMonomial m → IsMonomial w → body_text m ≡ body_text w → SameBodies m w
body_determines m w h k e = factors_determine m w h k (joined_tell _ _ (magnitude_some (unsigned_abs m.coefficient) (power_factors m))
    (magnitude_some (unsigned_abs w.coefficient) (power_factors w)) (factors_without_star m h) (factors_without_star w k) e)
