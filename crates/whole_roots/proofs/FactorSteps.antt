-- The factors of a slope, root by root from the greatest root down, so that the constants rise.
use Rattle.std.specs.Prelude.{◌≡◌, ◌⊎◌, ℕ, zero, suc, ◌+◌, ◌≤◌, ◌<◌, ◌^◌, ℤ, neg_ℤ, ◌-◌, ◌<ℤ◌, unsigned_abs, IsTrue, List, [], ◌∷◌, map, drop, length, get_or, refl}
use Rattle.std.specs.List.{AllByRecursion}
use Rattle.std.proofs.Common.{sym, ◌∙◌, subst, inl, inr, ⊎_elim, arith}
use Rattle.std.proofs.lemmas.Bool.{cases_lt}
use Rattle.std.proofs.lemmas.Int.{ints}
use Rattle.std.proofs.lemmas.List.{drop_more}
use Rattle.ring_laws.specs.Meaning.{Meaning, number, listed}
use Rattle.ring_laws.specs.Wholes.{whole_algebra}
use Rattle.ring_laws.specs.declared.wholes.Whole.{Whole}
use Rattle.poly_laws.specs.Lists.{is_trimmed}
use Rattle.whole_roots.specs.LinearFactors.{PowerDivides, Entry, IsBefore}
use Rattle.whole_roots.specs.FactorSearch.{AreFactorsAmong, AddsFactor}
use Rattle.whole_roots.specs.Roots.{IsRoot, IsItem, IsRising, AreRoots}
use Rattle.whole_roots.proofs.RootBounds.{root_within}
use Rattle.whole_roots.proofs.FactorLists.{each_kept, widened, added}

-- the forms of smaller slopes, and those of the slope whose roots are listed
abbrev pub SeenAt : ℕ → List ℤ → ℕ → ℤ → Type 0
SeenAt slope roots u v = (u < slope) ⊎ ((u ≡ slope) × IsItem (neg_ℤ v) roots)

rising_behind : (xs : List ℤ) (k : ℕ) → IsRising xs → IsRising (drop k xs)
rising_behind [] zero h = tt
rising_behind [] (suc k) h = tt
rising_behind (x ∷ xs) zero h = h
rising_behind (x ∷ xs) (suc k) h = rising_behind xs k h.1

item_at : (xs : List ℤ) (k : ℕ) (d : ℤ) → k < length xs → IsItem (get_or xs k d) xs
item_at [] k d b = absurd (omega (arith, b))
item_at (x ∷ xs) zero d b = inl refl
item_at (x ∷ xs) (suc k) d b = inr (item_at xs k d (omega (arith, b)))

pub root_at : (roots : List ℤ) (k : ℕ) (z : ℤ) → 0 < k → k ≤ length roots → z ≡ get_or roots (k - 1) z → (g : Meaning) → AreRoots g roots → IsRoot g z
root_at roots k z some b e g h =
    h.each z (subst (λ (y : ℤ). IsItem y roots) (sym e) (item_at roots (k - 1) z (omega (arith, some, b))))

pub twice_negative : (z y : ℤ) → y ≡ neg_ℤ z → neg_ℤ y ≡ z
twice_negative z y e = omega (arith, ints, e)

-- a root at an index has 127 bits
pub root_at_small : (list : List Whole) (roots : List ℤ) → IsTrue (is_trimmed whole_algebra.ops (map (λ (w : Whole). number w.value) list))
    → ¬ (listed (map (λ (w : Whole). number w.value) list) ≡ listed []) → AreRoots (listed (map (λ (w : Whole). number w.value) list)) roots
    → (k : ℕ) (z : ℤ) → k < length roots → z ≡ get_or roots k z → unsigned_abs z < 2 ^ 127
root_at_small list roots t n h k z b e = root_within list t n z (h.each z (subst (λ (y : ℤ). IsItem y roots) (sym e) (item_at roots k z b)))

-- the roots from an index on
pub roots_from_index : (roots : List ℤ) (k : ℕ) (z : ℤ) → 0 < k → k ≤ length roots → z ≡ get_or roots (k - 1) z
    → drop (k - 1) roots ≡ z ∷ drop k roots
roots_from_index roots k z some b e =
    let n : k - 1 + 1 ≡ k = omega (arith, some) in
    drop_more roots (k - 1) z (omega (arith, some, b)) ∙ (λ i. sym e i ∷ drop (n i) roots)

-- they rise
pub root_below : (roots : List ℤ) (k : ℕ) (z : ℤ) → 0 < k → k ≤ length roots → z ≡ get_or roots (k - 1) z → IsRising roots
    → (y : ℤ) → IsItem y (drop k roots) → z <ℤ y
root_below roots k z some b e h = (subst IsRising (roots_from_index roots k z some b e) (rising_behind roots (k - 1) h)).0

-- no root of the slope is listed yet
pub no_root_yet : (slope : ℕ) (f : Meaning) (xs : List Entry) → AreFactorsAmong (λ u v. u < slope) f xs → AreFactorsAmong (SeenAt slope []) f xs
no_root_yet slope f xs h =
    widened (λ u v. u < slope) (SeenAt slope []) f xs (λ u v. inl)
    (λ u v q form d. ⊎_elim (λ p. p) (λ (e : (u ≡ slope) × IsItem (neg_ℤ v) []). absurd e.1) q) h

-- the form of the next root comes behind all that were seen
pub comes_last : (slope : ℕ) (root : ℤ) (roots : List ℤ) → ((z : ℤ) → IsItem z roots → root <ℤ z) → (xs : List Entry)
    → AllByRecursion (λ (x : Entry). SeenAt slope roots x.0.0 x.0.1) xs → AllByRecursion (λ (x : Entry). IsBefore x.0 (slope, neg_ℤ root)) xs
comes_last slope root roots above xs h =
    each_kept (λ (x : Entry). SeenAt slope roots x.0.0 x.0.1) (λ (x : Entry). IsBefore x.0 (slope, neg_ℤ root)) (λ x. before x.0.0 x.0.1) xs h
  where
    turned : (z w : ℤ) → z <ℤ neg_ℤ w → w <ℤ neg_ℤ z
    turned z w h = omega (arith, ints, h)

    before : (u : ℕ) (v : ℤ) → SeenAt slope roots u v → IsBefore (u, v) (slope, neg_ℤ root)
    before u v (inl p) = inl p
    before u v (inr p) = inr (p.0, turned root v (above (neg_ℤ v) p.1))

-- one root more
pub root_added : (slope : ℕ) (root : ℤ) (roots : List ℤ) (f : Meaning) (old new : List Entry) → ((z : ℤ) → IsItem z roots → root <ℤ z)
    → unsigned_abs root < 2 ^ 127 → AddsFactor f slope (neg_ℤ root) old new → AreFactorsAmong (SeenAt slope roots) f old
    → AreFactorsAmong (SeenAt slope (root ∷ roots)) f new
root_added slope root roots f old new above small adds h =
    widened (λ u v. SeenAt slope roots u v ⊎ ((u ≡ slope) × (v ≡ neg_ℤ root))) (SeenAt slope (root ∷ roots)) f new into (λ u v q form d. back u v q)
    (added (SeenAt slope roots) f slope (neg_ℤ root) old new (comes_last slope root roots above old h.seen) (size root small) adds h)
  where
    size : (z : ℤ) → unsigned_abs z < 2 ^ 127 → unsigned_abs (neg_ℤ z) < 2 ^ 127
    size z b = omega (arith, ints, b)

    turned : (v z : ℤ) → v ≡ neg_ℤ z → neg_ℤ v ≡ z
    turned v z e = omega (arith, ints, e)

    turned_back : (v z : ℤ) → neg_ℤ v ≡ z → v ≡ neg_ℤ z
    turned_back v z e = omega (arith, ints, e)

    into : (u : ℕ) (v : ℤ) → SeenAt slope roots u v ⊎ ((u ≡ slope) × (v ≡ neg_ℤ root)) → SeenAt slope (root ∷ roots) u v
    into u v (inl (inl p)) = inl p
    into u v (inl (inr p)) = inr (p.0, inr p.1)
    into u v (inr p) = inr (p.0, inl (turned v root p.1))

    back : (u : ℕ) (v : ℤ) → SeenAt slope (root ∷ roots) u v → SeenAt slope roots u v ⊎ ((u ≡ slope) × (v ≡ neg_ℤ root))
    back u v (inl p) = inl (inl p)
    back u v (inr (e, inl p)) = inr (e, turned_back v root p)
    back u v (inr (e, inr p)) = inl (inr (e, p))

-- no form of the slope divides f
pub no_factor : (slope : ℕ) (f : Meaning) (xs : List Entry) → ((v : ℤ) → ¬ (PowerDivides slope v 1 f)) → AreFactorsAmong (λ u v. u < slope) f xs
    → AreFactorsAmong (λ u v. u < slope + 1) f xs
no_factor slope f xs none h =
    widened (λ u v. u < slope) (λ u v. u < slope + 1) f xs (λ u v p. omega (arith, p)) (λ u v q form d. back u v q d) h
  where
    back : (u : ℕ) (v : ℤ) → u < slope + 1 → PowerDivides u v 1 f → u < slope
    back u v b d =
        ⊎_elim (λ p. p)
        (λ (p : slope ≤ u). let e : u ≡ slope = omega (arith, p, b) in absurd (none v (subst (λ z. PowerDivides z v 1 f) e d)))
        (cases_lt u slope)

-- all roots are listed
pub all_roots_seen : (slope : ℕ) (roots : List ℤ) (f : Meaning) (xs : List Entry) → ((v : ℤ) → PowerDivides slope v 1 f → IsItem (neg_ℤ v) roots)
    → AreFactorsAmong (SeenAt slope roots) f xs → AreFactorsAmong (λ u v. u < slope + 1) f xs
all_roots_seen slope roots f xs listed h = widened (SeenAt slope roots) (λ u v. u < slope + 1) f xs into (λ u v q form d. back u v q d) h
  where
    into : (u : ℕ) (v : ℤ) → SeenAt slope roots u v → u < slope + 1
    into u v (inl p) = omega (arith, p)
    into u v (inr p) = omega (arith, p.0)

    back : (u : ℕ) (v : ℤ) → u < slope + 1 → PowerDivides u v 1 f → SeenAt slope roots u v
    back u v b d =
        ⊎_elim inl
        (λ (p : slope ≤ u). let e : u ≡ slope = omega (arith, p, b) in inr (e, listed v (subst (λ z. PowerDivides z v 1 f) e d)))
        (cases_lt u slope)
