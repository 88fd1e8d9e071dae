-- Powers and numbers as the code passes them on.
use Rattle.std.proofs.Common.{◌≡◌, ℕ, zero, suc, ◌≤◌, Bool, true, false, ap, sym, ◌∙◌, arith, w64, FitsSigned, to_z, of_z}
use Rattle.std.proofs.lemmas.Int.{ints, to_z-of_z, fits_signed_from_abs}
use Rattle.std.specs.Int.{w128}
use Rattle.std.specs.Prelude.{ℤ, pos, negsuc, ◌-ℤ◌, ◌*ℤ◌, ◌<ℤ◌, neg_ℤ, unsigned_abs, int_lt}
use Rattle.hypergeometric.specs.Fraction.{Fraction, of_whole}

-- what the test whether a power is positive says
pub is_positive : (w : ℤ) → FitsSigned w64 w → int_lt (pos 0) (to_z w64 (of_z w64 w)) ≡ true → pos 0 <ℤ w
is_positive w fits e = omega (arith, ints, ap (int_lt (pos 0)) (sym (to_z-of_z w64 w fits)) ∙ e)

pub is_not_positive : (w : ℤ) → FitsSigned w64 w → int_lt (pos 0) (to_z w64 (of_z w64 w)) ≡ false → ¬ (pos 0 <ℤ w)
is_not_positive w fits e h = omega (arith, ints, h, ap (int_lt (pos 0)) (sym (to_z-of_z w64 w fits)) ∙ e)

-- and what the test whether it is negative says
pub tested_sign : (w : ℤ) (negative : Bool) → FitsSigned w64 w → int_lt (to_z w64 (of_z w64 w)) (pos 0) ≡ negative → int_lt w (pos 0) ≡ negative
tested_sign w negative fits e = ap (λ z. int_lt z (pos 0)) (sym (to_z-of_z w64 w fits)) ∙ e

-- the magnitude of a power
pub size_is : (w : ℤ) (m : ℕ) → FitsSigned w64 w → m ≡ unsigned_abs (to_z w64 (of_z w64 w)) → m ≡ unsigned_abs w
size_is w m fits e = e ∙ ap unsigned_abs (to_z-of_z w64 w fits)

pub positive_is : (w : ℤ) (m : ℕ) → pos 0 <ℤ w → m ≡ unsigned_abs w → pos m ≡ w
positive_is w m h e = omega (arith, ints, h, e)

pub negative_is : (w : ℤ) (m : ℕ) → ¬ (pos 0 <ℤ w) → m ≡ unsigned_abs w → neg_ℤ (pos m) ≡ w
negative_is (pos zero) m h e = ap (λ n. neg_ℤ (pos n)) e
negative_is (pos (suc n)) m h e = absurd (h (omega (arith, ints)))
negative_is (negsuc n) m h e = ap (λ n. neg_ℤ (pos n)) e

-- a power times a number of an exponent
pub exponent_is : (r w n s : ℤ) → FitsSigned w64 r → FitsSigned w64 w → FitsSigned w64 n → r ≡ to_z w64 (of_z w64 w) *ℤ to_z w64 (of_z w64 n) → n ≡ s
    → to_z w64 (of_z w64 r) ≡ w *ℤ s
exponent_is r w n s fr fw fn e h = to_z-of_z w64 r fr ∙ e ∙ (λ i. to_z-of_z w64 w fw i *ℤ (to_z-of_z w64 n fn ∙ h) i)

-- the negative of a small count
pub opposite_is : (x : ℤ) (m : ℕ) → FitsSigned w64 x → x ≡ pos m → m ≤ 12
    → to_z w64 (of_z w64 (pos 0 -ℤ to_z w64 (of_z w64 x))) ≡ neg_ℤ (pos m)
opposite_is x m fits e small =
    let negative : pos 0 -ℤ to_z w64 (of_z w64 x) ≡ neg_ℤ (pos m) = ap (λ z. pos 0 -ℤ z) (to_z-of_z w64 x fits ∙ e) ∙ zero_less (pos m) in
    ap (λ z. to_z w64 (of_z w64 z)) negative ∙ to_z-of_z w64 (neg_ℤ (pos m)) (fits_signed_from_abs w64 (neg_ℤ (pos m)) (omega (arith, ints, small)))
  where
    zero_less : (z : ℤ) → pos 0 -ℤ z ≡ neg_ℤ z
    zero_less z = omega (arith, ints)

-- a number that became a fraction
pub fraction_is : (f : Fraction) (x y z : ℤ) → FitsSigned w128 x → FitsSigned w64 y → f ≡ of_whole (to_z w128 (of_z w128 x))
    → x ≡ to_z w64 (of_z w64 y) → y ≡ z → f ≡ of_whole z
fraction_is f x y z fx fy e g h = e ∙ ap of_whole (to_z-of_z w128 x fx ∙ g ∙ to_z-of_z w64 y fy ∙ h)
