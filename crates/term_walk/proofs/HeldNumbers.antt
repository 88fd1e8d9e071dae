-- A power of a walk and its opposite are held in 64 bits as they are.
use Rattle.std.proofs.Common.{◌≡◌, ◌≢◌, ◌≤◌, ap, sym, ◌∙◌, subst, arith, w64, to_z, of_z, FitsSigned}
use Rattle.std.proofs.lemmas.Int.{ints, to_z-of_z, fits_signed_from_abs}
use Rattle.std.specs.Int.{w128}
use Rattle.std.specs.Prelude.{ℤ, pos, ◌-ℤ◌, ◌*ℤ◌, neg_ℤ, unsigned_abs}

pub held : (w : ℤ) → unsigned_abs w ≤ 12 → to_z w64 (of_z w64 w) ≡ w
held w small = to_z-of_z w64 w (fits_signed_from_abs w64 w (omega (arith, small)))

pub opposite_held : (w : ℤ) → unsigned_abs w ≤ 12 → to_z w64 (of_z w64 (pos 0 -ℤ to_z w64 (of_z w64 w))) ≡ neg_ℤ w
opposite_held w small =
    let opposite : pos 0 -ℤ w ≡ neg_ℤ w = omega (arith, ints) in
    let also_small : unsigned_abs (neg_ℤ w) ≤ 12 = omega (arith, ints, small) in
    ap (λ z. to_z w64 (of_z w64 (pos 0 -ℤ z))) (held w small) ∙ ap (λ z. to_z w64 (of_z w64 z)) opposite ∙ held (neg_ℤ w) also_small

-- such a power may be walked to, where it isn't 0
pub asked : (w : ℤ) → w ≢ pos 0 → unsigned_abs w ≤ 12 → (to_z w64 (of_z w64 w) ≡ pos 0 → ⊥) × unsigned_abs (to_z w64 (of_z w64 w)) ≤ 12
asked w some small = (λ e. some (sym (held w small) ∙ e), subst (λ z. unsigned_abs z ≤ 12) (sym (held w small)) small)

-- and so is that of the base of a power
pub product_held : (w c : ℤ) → unsigned_abs w ≤ 12 → unsigned_abs c ≤ 12 → unsigned_abs (w *ℤ c) ≤ 12
    → to_z w64 (of_z w64 (to_z w64 (of_z w64 w) *ℤ to_z w64 (of_z w64 c))) ≡ w *ℤ c
product_held w c small also_small both_small =
    ap (λ z. to_z w64 (of_z w64 (z *ℤ to_z w64 (of_z w64 c)))) (held w small)
    ∙ ap (λ z. to_z w64 (of_z w64 (w *ℤ z))) (held c also_small) ∙ held (w *ℤ c) both_small

-- a small number of 128 bits is one of 64 bits
pub read_back : (z x : ℤ) → x ≡ z → unsigned_abs z ≤ 12 → to_z w128 (of_z w128 x) ≡ z
read_back z x e small = ap (λ y. to_z w128 (of_z w128 y)) e ∙ to_z-of_z w128 z (fits_signed_from_abs w128 z (omega (arith, small)))

pub cast_fits : (z x : ℤ) → x ≡ z → unsigned_abs z ≤ 12 → FitsSigned w64 (to_z w128 (of_z w128 x))
cast_fits z x e small = subst (FitsSigned w64) (sym (read_back z x e small)) (fits_signed_from_abs w64 z (omega (arith, small)))

pub cast_held : (z x : ℤ) → x ≡ z → unsigned_abs z ≤ 12 → to_z w64 (of_z w64 (to_z w128 (of_z w128 x))) ≡ z
cast_held z x e small = ap (λ y. to_z w64 (of_z w64 y)) (read_back z x e small) ∙ held z small
