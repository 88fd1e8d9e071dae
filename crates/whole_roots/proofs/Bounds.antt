-- Numbers of 127 bits and a sign.
use Rattle.std.specs.Prelude.{◌≡◌, ◌^◌, ◌-◌, ◌<◌, unsigned_abs, neg_ℤ, ℤ, pos, negsuc, ◌+ℤ◌, ◌-ℤ◌, ◌≤ℤ◌, ◌<ℤ◌}
use Rattle.std.proofs.Common.{FitsSigned, to_z, of_z, false, ap, sym, subst, ◌∙◌, ⊎_elim, arith}
use Rattle.std.specs.Int.{w128}
use lib.Signed.{lt_z}
use Rattle.std.proofs.lemmas.Int.{ints, to_z-of_z, fits_signed_from_abs}
use Rattle.whole_roots.specs.Turns.{greatest, least}
use Rattle.whole_roots.proofs.AllOf.{at_most_or_above}

pub above_fits : (z : ℤ) → FitsSigned w128 z → negsuc (2 ^ 127 - 1) ≤ℤ z
above_fits (pos n) h = omega (arith, ints)
above_fits (negsuc n) h = omega (arith, ints, h)

pub below_fits : (z : ℤ) → FitsSigned w128 z → z ≤ℤ greatest
below_fits (pos n) h = omega (arith, ints, h)
below_fits (negsuc n) h = omega (arith, ints)

pub fits_between : (z : ℤ) → negsuc (2 ^ 127 - 1) ≤ℤ z → z ≤ℤ greatest → FitsSigned w128 z
fits_between (pos n) low high = omega (arith, ints, high)
fits_between (negsuc n) low high = omega (arith, ints, low)

-- all but the least number
pub not_least : (z : ℤ) → FitsSigned w128 z → ¬ (z ≡ negsuc (2 ^ 127 - 1)) → least ≤ℤ z
not_least z h n =
    ⊎_elim (λ t. t) (λ t. absurd (n (same z (above_fits z h) t))) (at_most_or_above least z)
  where
    same : (x : ℤ) → negsuc (2 ^ 127 - 1) ≤ℤ x → x <ℤ least → x ≡ negsuc (2 ^ 127 - 1)
    same x a b = omega (arith, ints, a, b)

-- the test of bisection
pub neighbours : (low high : ℤ) → FitsSigned w128 low → low <ℤ high → high ≤ℤ greatest
    → lt_z low (to_z w128 (of_z w128 (high -ℤ pos 1))) ≡ false → high ≤ℤ (low +ℤ pos 1)
neighbours low high fits apart bound test =
    let e : to_z w128 (of_z w128 (high -ℤ pos 1)) ≡ high -ℤ pos 1 =
    to_z-of_z w128 (high -ℤ pos 1)
    (fits_between (high -ℤ pos 1) (omega (arith, ints, apart, above_fits low fits)) (omega (arith, ints, bound))) in
    grind (arith, ints, e, test)

-- the number before one that is above another
pub held_before : (low high : ℤ) → least ≤ℤ low → low <ℤ high → high ≤ℤ greatest
    → to_z w128 (of_z w128 (to_z w128 (of_z w128 high) -ℤ pos 1)) ≡ high -ℤ pos 1
held_before low high bound apart top =
    ap (λ (z : ℤ). to_z w128 (of_z w128 (z -ℤ pos 1)))
    (to_z-of_z w128 high (fits_between high (omega (arith, ints, bound, apart)) (omega (arith, ints, top))))
    ∙ to_z-of_z w128 (high -ℤ pos 1) (fits_between (high -ℤ pos 1) (omega (arith, ints, bound, apart)) (omega (arith, ints, top)))

-- the negative of a number of 127 bits
pub negative_fits : (z : ℤ) → unsigned_abs z < 2 ^ 127 → FitsSigned w128 (pos 0 -ℤ to_z w128 (of_z w128 z))
negative_fits z b =
    subst (λ (y : ℤ). FitsSigned w128 (pos 0 -ℤ y)) (sym (to_z-of_z w128 z (fits_signed_from_abs w128 z b)))
    (fits_signed_from_abs w128 (pos 0 -ℤ z) (omega (arith, ints, b)))

pub held_negative : (z : ℤ) → unsigned_abs z < 2 ^ 127 → to_z w128 (of_z w128 (pos 0 -ℤ to_z w128 (of_z w128 z))) ≡ neg_ℤ z
held_negative z b =
    to_z-of_z w128 (pos 0 -ℤ to_z w128 (of_z w128 z)) (negative_fits z b)
    ∙ ap (λ (y : ℤ). pos 0 -ℤ y) (to_z-of_z w128 z (fits_signed_from_abs w128 z b)) ∙ turned z
  where
    turned : (y : ℤ) → pos 0 -ℤ y ≡ neg_ℤ y
    turned y = omega (arith, ints)

pub negative_not_least : (z y : ℤ) → unsigned_abs z < 2 ^ 127 → y ≡ neg_ℤ z → ¬ (y ≡ negsuc (2 ^ 127 - 1))
negative_not_least z y b e h = absurd (omega (arith, ints, b, e, h))
