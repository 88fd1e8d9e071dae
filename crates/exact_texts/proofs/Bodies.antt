-- The text of a monomial without its sign tells its magnitude and its powers.
use Rattle.std.specs.Prelude.{◌≡◌, ◌≢◌, ℕ, zero, suc, ◌^◌, ◌<◌, Bool, true, false, nat_eq, List, [], ◌∷◌, ◌++◌, drop}
use Rattle.std.specs.List.{list_all}
use Rattle.std.specs.Fmt.{decimal}
use Rattle.std.proofs.Common.{refl, ap, sym, subst, ◌∙◌, arith, cond}
use Rattle.std.proofs.lemmas.Bool.{and_parts, eqb-true}
use Rattle.exact_texts.specs.Texts.{Only}
use Rattle.exact_texts.specs.Sums.{power_factor, with_magnitude}
use Rattle.exact_texts.proofs.Cuts.{among}
use Rattle.exact_texts.proofs.Numerals.{digit_bytes, only_decimal, decimal_not_empty, decimal_determines}

-- the first text begins with no byte of the class
abbrev pub Apart : (ℕ → Bool) → List (List ℕ) → Type 0
Apart class [] = Unit {0}
Apart class ([] ∷ fs) = ⊥
Apart class ((b ∷ f) ∷ fs) = class b ≡ false

-- powers of a name in front of what doesn't begin with the name
pub powers_determine : (name p q : ℕ) (fs gs : List (List ℕ)) → p < 256 → q < 256 → Apart (nat_eq name) fs → Apart (nat_eq name) gs
    → nat_eq name name ≡ true
    → power_factor name p ++ fs ≡ power_factor name q ++ gs → (p ≡ q) × (fs ≡ gs)
powers_determine name zero zero fs gs h k u v t e = (refl, e)
powers_determine name zero (suc zero) fs gs h k u v t e = absurd (differ t (subst (Apart (nat_eq name)) e u))
  where
    differ : nat_eq name name ≡ true → nat_eq name name ≡ false → ⊥
    differ a b = let never = sym a ∙ b in cc
powers_determine name zero (suc (suc q)) fs gs h k u v t e = absurd (differ t (subst (Apart (nat_eq name)) e u))
  where
    differ : nat_eq name name ≡ true → nat_eq name name ≡ false → ⊥
    differ a b = let never = sym a ∙ b in cc
powers_determine name (suc zero) zero fs gs h k u v t e = absurd (differ t (subst (Apart (nat_eq name)) (sym e) v))
  where
    differ : nat_eq name name ≡ true → nat_eq name name ≡ false → ⊥
    differ a b = let never = sym a ∙ b in cc
powers_determine name (suc zero) (suc zero) fs gs h k u v t e = (refl, ap (drop 1) e)
powers_determine name (suc zero) (suc (suc q)) fs gs h k u v t e = absurd cc
powers_determine name (suc (suc p)) zero fs gs h k u v t e = absurd (differ t (subst (Apart (nat_eq name)) (sym e) v))
  where
    differ : nat_eq name name ≡ true → nat_eq name name ≡ false → ⊥
    differ a b = let never = sym a ∙ b in cc
powers_determine name (suc (suc p)) (suc zero) fs gs h k u v t e = absurd cc
powers_determine name (suc (suc p)) (suc (suc q)) fs gs h k u v t e =
    let digits : decimal (suc (suc p)) ≡ decimal (suc (suc q)) = cc in
    (decimal_determines (suc (suc p)) (suc (suc q)) (omega arith) (omega arith) digits, ap (drop 1) e)

-- a magnitude in front of powers
decimal_apart : (n : ℕ) (fs : List (List ℕ)) → n < 2 ^ 127 → Apart (among digit_bytes) (decimal n ∷ fs) → ⊥
decimal_apart n fs h = go (decimal n) (only_decimal n h) (decimal_not_empty n h)
  where
    go : (ds : List ℕ) → Only (among digit_bytes) ds → ds ≢ [] → Apart (among digit_bytes) (ds ∷ fs) → ⊥
    go [] p some a = a
    go (d ∷ ds) p some a = let never = sym (and_parts (among digit_bytes d) (list_all (among digit_bytes) ds) p).0 ∙ a in cc

pub magnitudes_determine : (c d : ℕ) (fs gs : List (List ℕ)) → c < 2 ^ 127 → d < 2 ^ 127 → Apart (among digit_bytes) fs → Apart (among digit_bytes) gs
    → with_magnitude c fs ≡ with_magnitude d gs → (c ≡ d) × (fs ≡ gs)
magnitudes_determine c d [] [] h k u v e =
    let digits : decimal c ≡ decimal d = cc in
    (decimal_determines c d h k digits, refl)
magnitudes_determine c d [] (g ∷ gs) h k u v e = go (nat_eq d 1) e
  where
    go : (b : Bool) → decimal c ∷ [] ≡ cond b (g ∷ gs) (decimal d ∷ g ∷ gs) → (c ≡ d) × ([] ≡ g ∷ gs)
    go true x = absurd (decimal_apart c [] h (subst (Apart (among digit_bytes)) (sym x) v))
    go false x = absurd cc
magnitudes_determine c d (f ∷ fs) [] h k u v e = go (nat_eq c 1) e
  where
    go : (b : Bool) → cond b (f ∷ fs) (decimal c ∷ f ∷ fs) ≡ decimal d ∷ [] → (c ≡ d) × (f ∷ fs ≡ [])
    go true x = absurd (decimal_apart d [] k (subst (Apart (among digit_bytes)) x u))
    go false x = absurd cc
magnitudes_determine c d (f ∷ fs) (g ∷ gs) h k u v e = go (nat_eq c 1) refl (nat_eq d 1) refl e
  where
    go : (a : Bool) → nat_eq c 1 ≡ a → (b : Bool) → nat_eq d 1 ≡ b → cond a (f ∷ fs) (decimal c ∷ f ∷ fs) ≡ cond b (g ∷ gs) (decimal d ∷ g ∷ gs)
        → (c ≡ d) × (f ∷ fs ≡ g ∷ gs)
    go true s true t x = (eqb-true c 1 s ∙ sym (eqb-true d 1 t), x)
    go true s false t x = absurd (decimal_apart d (g ∷ gs) k (subst (Apart (among digit_bytes)) x u))
    go false s true t x = absurd (decimal_apart c (f ∷ fs) h (subst (Apart (among digit_bytes)) (sym x) v))
    go false s false t x =
        let digits : decimal c ≡ decimal d = cc in
        (decimal_determines c d h k digits, ap (drop 1) x)

-- a first factor that begins with no digit is no magnitude
decimal_begins : (n : ℕ) → n < 2 ^ 127 → ((b : ℕ) (rest : List ℕ) → decimal n ≡ b ∷ rest → false ≡ among digit_bytes b) → ⊥
decimal_begins n h none = go (decimal n) refl (only_decimal n h) (decimal_not_empty n h)
  where
    go : (ds : List ℕ) → decimal n ≡ ds → Only (among digit_bytes) ds → ds ≢ [] → ⊥
    go [] e p some = some refl
    go (d ∷ ds) e p some = let never = none d ds e ∙ (and_parts (among digit_bytes d) (list_all (among digit_bytes) ds) p).0 in cc

pub no_magnitude : (c : ℕ) (fs : List (List ℕ)) (first : List ℕ) (others : List (List ℕ)) → c < 2 ^ 127 → first ∷ others ≡ with_magnitude c fs
    → ((b : ℕ) (rest : List ℕ) → first ≡ b ∷ rest → false ≡ among digit_bytes b) → (1 ≡ c) × (first ∷ others ≡ fs)
no_magnitude c [] first others h e none =
    let same : first ≡ decimal c = cc in
    absurd (decimal_begins c h (λ b rest x. none b rest (same ∙ x)))
no_magnitude c (f ∷ fs) first others h e none = go (nat_eq c 1) refl e
  where
    go : (a : Bool) → nat_eq c 1 ≡ a → first ∷ others ≡ cond a (f ∷ fs) (decimal c ∷ f ∷ fs) → (1 ≡ c) × (first ∷ others ≡ f ∷ fs)
    go true t x = (sym (eqb-true c 1 t), x)
    go false t x =
        let same : first ≡ decimal c = cc in
        absurd (decimal_begins c h (λ b rest y. none b rest (same ∙ y)))
