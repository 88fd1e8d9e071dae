-- A root of a polynomial that isn't zero is at most the magnitude of one of its coefficients.
use Rattle.std.specs.Prelude.{◌≡◌, ℕ, zero, suc, ◌*◌, ◌≤◌, ◌<◌, ◌-◌, ◌^◌, ℤ, pos, negsuc, ◌+ℤ◌, ◌*ℤ◌, ◌≤ℤ◌, ◌<ℤ◌, unsigned_abs, IsTrue, not, List, [], ◌∷◌, map, refl}
use Rattle.std.proofs.Common.{ap, sym, ◌∙◌, arith}
use Rattle.std.proofs.lemmas.Int.{ints, unsigned_abs-mul}
use Rattle.ring_laws.specs.Meaning.{number, listed}
use Rattle.ring_laws.specs.Wholes.{whole_algebra, is_zero}
use Rattle.ring_laws.specs.declared.wholes.Whole.{Whole}
use Rattle.ring_solver.proofs.Read.{ring_z, reading_z}
use Rattle.poly_laws.specs.Lists.{is_trimmed}
use Rattle.poly_laws.specs.Values.{horner}
use Rattle.whole_roots.specs.Roots.{IsRoot, AreRoots}
use Rattle.whole_roots.specs.Turns.{greatest, AreAll}
use Rattle.whole_roots.proofs.AllOf.{all_rising, each_has, is_item}
use Rattle.whole_roots.proofs.SignLemmas.{false_true}
use Rattle.whole_roots.proofs.Values.{value_is}

grows : (z n : ℕ) → z ≤ z * suc n
grows z n = omega arith

opposite_sizes : (w p : ℤ) → w +ℤ p ≡ pos 0 → unsigned_abs w ≡ unsigned_abs p
opposite_sizes w p e = omega (arith, ints, e)

-- a coefficient that isn't 0 is a multiple of the root, and else the root is one of what stands behind it
root_step : (z w h : ℤ) → unsigned_abs w < 2 ^ 127 → w +ℤ z *ℤ h ≡ pos 0 → (h ≡ pos 0 → unsigned_abs z < 2 ^ 127) → unsigned_abs z < 2 ^ 127
root_step z w (pos zero) b e k = k refl
root_step z w (pos (suc n)) b e k =
    omega (arith, b, opposite_sizes w (z *ℤ pos (suc n)) e, unsigned_abs-mul z (pos (suc n)), grows (unsigned_abs z) n)
root_step z w (negsuc n) b e k =
    omega (arith, b, opposite_sizes w (z *ℤ negsuc n) e, unsigned_abs-mul z (negsuc n), grows (unsigned_abs z) n)

no_last_zero : (w z : ℤ) → w +ℤ z *ℤ pos 0 ≡ pos 0 → w ≡ pos 0
no_last_zero w z e = sym (ring_z (w ∷ z ∷ []) (search reading_z depth 40 fits 20000) refl) ∙ e

root_small : (z : ℤ) (list : List Whole) → IsTrue (is_trimmed whole_algebra.ops (map (λ (w : Whole). number w.value) list)) → ¬ (list ≡ [])
    → horner (λ (w : Whole). w.value) z list ≡ pos 0 → unsigned_abs z < 2 ^ 127
root_small z [] t n e = absurd (n refl)
root_small z (w ∷ []) t n e =
    absurd (false_true (sym (ap (λ (y : ℤ). not (is_zero y)) (no_last_zero w.value z e)) ∙ t))
root_small z (w ∷ v ∷ list) t n e =
    root_step z w.value (horner (λ (w : Whole). w.value) z (v ∷ list)) w.small e (root_small z (v ∷ list) t (λ h. cc))

pub root_within : (list : List Whole) → IsTrue (is_trimmed whole_algebra.ops (map (λ (w : Whole). number w.value) list))
    → ¬ (listed (map (λ (w : Whole). number w.value) list) ≡ listed []) → (z : ℤ) → IsRoot (listed (map (λ (w : Whole). number w.value) list)) z
    → unsigned_abs z < 2 ^ 127
root_within list t n z root =
    root_small z list t (λ e. n (ap (λ (ws : List Whole). listed (map (λ (w : Whole). number w.value) ws)) e))
    (sym (value_is z (listed (map (λ (w : Whole). number w.value) list)) list refl) ∙ root)

-- so the list of all roots of 127 bits is that of all roots
pub are_roots : (list : List Whole) (xs : List ℤ) → IsTrue (is_trimmed whole_algebra.ops (map (λ (w : Whole). number w.value) list))
    → ¬ (listed (map (λ (w : Whole). number w.value) list) ≡ listed [])
    → AreAll (IsRoot (listed (map (λ (w : Whole). number w.value) list))) (negsuc (2 ^ 127 - 1)) greatest xs
    → AreRoots (listed (map (λ (w : Whole). number w.value) list)) xs
are_roots list xs t n h =
    let m = listed (map (λ (w : Whole). number w.value) list) in
    record {
      rising = all_rising (IsRoot m) (negsuc (2 ^ 127 - 1)) greatest xs h;
      each = each_has (IsRoot m) (negsuc (2 ^ 127 - 1)) greatest xs h;
      all = λ z root. is_item (IsRoot m) (negsuc (2 ^ 127 - 1)) greatest xs h z (above z (root_within list t n z root)) (below z (root_within list t n z root)) root;
    }
  where
    above : (z : ℤ) → unsigned_abs z < 2 ^ 127 → negsuc (2 ^ 127 - 1) <ℤ z
    above z b = omega (arith, ints, b)

    below : (z : ℤ) → unsigned_abs z < 2 ^ 127 → z ≤ℤ greatest
    below z b = omega (arith, ints, b)
