-- Small signed numbers of 64 bits: what the code computes is what the numbers give.
use Rattle.std.proofs.Common.{◌≡◌, ◌*◌, ℕ, ◌+◌, ◌<◌, ◌≤◌, ap, ◌∙◌, arith, w64, to_z, of_z, FitsSigned}
use Rattle.std.proofs.lemmas.Int.{ints, to_z-of_z, fits_signed_from_abs, unsigned_abs-mul}
use Rattle.std.specs.Prelude.{ℤ, ◌+ℤ◌, ◌*ℤ◌, unsigned_abs}

small_fits : (z : ℤ) → unsigned_abs z ≤ 1500000000 → FitsSigned w64 z
small_fits z h = fits_signed_from_abs w64 z (omega (arith, h))

-- a small number is read back as it was written
pub held : (z : ℤ) → unsigned_abs z ≤ 1500000000 → to_z w64 (of_z w64 z) ≡ z
held z h = to_z-of_z w64 z (small_fits z h)

product_small : (w x : ℤ) → unsigned_abs w ≤ 60 → unsigned_abs x ≤ 5000000 → unsigned_abs (w *ℤ x) ≤ 300000000
product_small w x h k = grind (arith, unsigned_abs-mul)

product_held : (w x : ℤ) → unsigned_abs w ≤ 60 → unsigned_abs x ≤ 5000000
    → to_z w64 (of_z w64 (to_z w64 (of_z w64 w) *ℤ to_z w64 (of_z w64 x))) ≡ w *ℤ x
product_held w x h k =
    ap (λ z. to_z w64 (of_z w64 (z *ℤ to_z w64 (of_z w64 x)))) (held w (omega (arith, h)))
    ∙ ap (λ z. to_z w64 (of_z w64 (w *ℤ z))) (held x (omega (arith, k)))
    ∙ held (w *ℤ x) (omega (arith, product_small w x h k))

-- one product more: it fits, it is the sum, and it is small
module _
    (s w x : ℤ) (i : ℕ) (within : i < 5) (so_far : unsigned_abs s ≤ 300000000 * i)
    (light : unsigned_abs w ≤ 60) (small : unsigned_abs x ≤ 5000000)
  where
    abbrev added : ℤ
    added = to_z w64 (of_z w64 (to_z w64 (of_z w64 w) *ℤ to_z w64 (of_z w64 x)))

    sum_small : unsigned_abs (s +ℤ w *ℤ x) ≤ 300000000 * (i + 1)
    sum_small = omega (arith, ints, so_far, product_small w x light small)

    pub sum_fits : FitsSigned w64 (s +ℤ added)
    sum_fits = rw (product_held w x light small) (small_fits (s +ℤ w *ℤ x) (omega (arith, sum_small, within)))

    pub sum_held : to_z w64 (of_z w64 (s +ℤ added)) ≡ s +ℤ w *ℤ x
    sum_held = rw (product_held w x light small) (held (s +ℤ w *ℤ x) (omega (arith, sum_small, within)))

    pub sum_held_small : unsigned_abs (to_z w64 (of_z w64 (s +ℤ added))) ≤ 300000000 * (i + 1)
    sum_held_small = rw sum_held sum_small
