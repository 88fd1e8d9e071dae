-- Combinations of polynomials of which each is above those before it.
use Rattle.std.proofs.Common.{◌≡◌, ℕ, zero, suc, ◌<◌, ◌≤◌, List, [], ◌∷◌, length, refl, ap, sym, ◌∙◌, subst, arith, ⊎_elim}
use mathlib.Core.Path.{ap₂}
use Rattle.std.proofs.lemmas.Nat.Gcd.{dvd-zero}
use Rattle.std.specs.Int.{◌∣◌}
use Rattle.std.specs.List.{AllByRecursion}
use Rattle.std.specs.Prelude.{ℤ, pos, ◌+ℤ◌, ◌*ℤ◌, unsigned_abs}
use Rattle.ring_solver.proofs.Linear.{product_zero}
use Rattle.ring_solver.proofs.Read.{ring_z, reading_z}
use Rattle.ring_laws.specs.Meaning.{Meaning, items}
use Rattle.ring_laws.specs.Wholes.{number_of}
use Rattle.poly_laws.specs.Values.{level}
use Rattle.poly_laws.proofs.Trimming.{beyond}
use Rattle.hyper_laws.specs.DegreeBounds.{HasDegree}
use Rattle.hyper_laws.specs.ReducedLists.{IsNormalized, IsAbove, AreRisingAbove}
use Rattle.hyper_laws.proofs.Leads.{lead_not_zero, items_none}
use Rattle.hyper_laws.proofs.Powers.{at_power}
use Rattle.hyper_laws.proofs.Mixtures.{mixed}

abbrev pub at : Meaning → ℕ → ℤ
at c k = at_power (items c) k

abbrev pub Normal : List Meaning → Type 0
Normal cs = AllByRecursion IsNormalized cs

abbrev pub Above : ℕ → List Meaning → Type 0
Above size cs = AllByRecursion (λ c. size < length (items c)) cs

pub past : (c : Meaning) (k : ℕ) → length (items c) ≤ k → at c k ≡ pos 0
past c k b = ap number_of (beyond (level 0).ops (items c) k b)

-- a primitive polynomial isn't zero
pub has_degree : (c : Meaning) → IsNormalized c → (degree : ℕ) × HasDegree c degree
has_degree c w = by (length (items c)) refl
  where
    two : (d : ℕ) → d ≡ 2 → d ≡ 1 → ⊥
    two d e f = omega (arith, e, f)

    by : (size : ℕ) → length (items c) ≡ size → (degree : ℕ) × HasDegree c degree
    by zero e =
        absurd (two 2 refl (w.primitive 2 (λ k. subst (λ t. 2 ∣ t) (sym (ap (λ xs. unsigned_abs (at_power xs k)) (items_none c e))) (dvd-zero 2))))
    by (suc degree) e = (degree, e)

-- ---- mixtures of polynomials of which each is above those before it
none_mixed : (cs : List Meaning) (m : ℕ → ℤ) (k : ℕ) → AllByRecursion (λ c. at c k ≡ pos 0) cs → mixed m cs k ≡ pos 0
none_mixed [] m k h = refl
none_mixed (c ∷ cs) m k h =
    ap₂ (λ x y. m 0 *ℤ x +ℤ y) h.0 (none_mixed cs (λ i. m (suc i)) k h.1) ∙ gone (m 0)
  where
    gone : (x : ℤ) → x *ℤ pos 0 +ℤ pos 0 ≡ pos 0
    gone x = ring_z (x ∷ []) (search reading_z depth 40 fits 20000) refl

no_terms : (d : Meaning) (f : ℕ) → HasDegree d f → (cs : List Meaning) → AllByRecursion (IsAbove d) cs → AllByRecursion (λ c. at c f ≡ pos 0) cs
no_terms d f h [] a = tt
no_terms d f h (c ∷ cs) a = (a.0.no_term f h, no_terms d f h cs a.1)

pub sizes_above : (d : Meaning) (size : ℕ) → size ≤ length (items d) → (cs : List Meaning) → AllByRecursion (IsAbove d) cs → Above size cs
sizes_above d size b [] a = tt
sizes_above d size b (c ∷ cs) a = (omega (arith, b, a.0.greater), sizes_above d size b cs a.1)

-- at the degree of the first only the first counts
pub first_factor : (d : Meaning) (ds : List Meaning) (m : ℕ → ℤ) (f : ℕ) → IsNormalized d → HasDegree d f → AllByRecursion (IsAbove d) ds
    → mixed m (d ∷ ds) f ≡ pos 0 → m 0 ≡ pos 0
first_factor d ds m f w h a z =
    ⊎_elim (λ e. e) (λ e. absurd (lead_not_zero d f w.polynomial h e))
    (product_zero (m 0) (at d f)
    (sym (alone (m 0 *ℤ at d f)) ∙ ap (λ t. m 0 *ℤ at d f +ℤ t) (sym (none_mixed ds (λ i. m (suc i)) f (no_terms d f h ds a))) ∙ z))
  where
    alone : (x : ℤ) → x +ℤ pos 0 ≡ x
    alone x = ring_z (x ∷ []) (search reading_z depth 40 fits 20000) refl

pub without_first : (d : Meaning) (ds : List Meaning) (m : ℕ → ℤ) → m 0 ≡ pos 0 → (k : ℕ) → mixed m (d ∷ ds) k ≡ mixed (λ i. m (suc i)) ds k
without_first d ds m e k =
    ap (λ t. t *ℤ at d k +ℤ mixed (λ i. m (suc i)) ds k) e ∙ gone (at d k) (mixed (λ i. m (suc i)) ds k)
  where
    gone : (x y : ℤ) → pos 0 *ℤ x +ℤ y ≡ y
    gone x y = ring_z (x ∷ y ∷ []) (search reading_z depth 40 fits 20000) refl

-- a mixture that is 0 from some power on, which is below each degree, is 0
pub vanishes : (ds : List Meaning) (m : ℕ → ℤ) (size : ℕ) → Normal ds → AreRisingAbove ds → Above size ds
    → ((k : ℕ) → size ≤ k → mixed m ds k ≡ pos 0) → (k : ℕ) → mixed m ds k ≡ pos 0
vanishes [] m size w a b z k = refl
vanishes (d ∷ ds) m size w a b z k =
    let top = has_degree d w.0 in
    let first : m 0 ≡ pos 0 = first_factor d ds m top.0 w.0 top.1 a.0 (z top.0 (omega (arith, b.0, top.1))) in
    without_first d ds m first k
    ∙ vanishes ds (λ i. m (suc i)) size w.1 a.1 b.1 (λ j c. sym (without_first d ds m first j) ∙ z j c) k
