-- The whole numbers keep the laws of a ring and those of magnitudes.
-- These are lemmas: they stand here, and not in proofs/, since the ring of `Whole` names the last of them.
use Rattle.std.specs.Prelude.{◌≡◌, ℕ, zero, suc, ◌+◌, ◌*◌, ◌≤◌, ◌<◌, ◌^◌, ℤ, pos, negsuc, ◌+ℤ◌, ◌*ℤ◌, ◌≤ℤ◌, neg_ℤ, unsigned_abs, IsTrue, ◌↔◌, refl}
use Rattle.std.proofs.Common.{ap, arith, mul-le-mul_left, sym, ◌∙◌, inl, inr, ⊎_elim, lit<}
use borrow.Author.Differences.{abs_is, le_out, at_most_in}
use Rattle.std.proofs.lemmas.Int.{ints, unsigned_abs-mul}
use Rattle.std.proofs.Math.IntN.{+ℤ_comm, +ℤ_assoc, +ℤ_idl, +ℤ_invr, *ℤ_comm}
use Rattle.ring_solver.proofs.Integers.{up-*ℤ, down-*ℤ, *ℤ_assoc, *ℤ_distrib, *ℤ_one}
use Rattle.ring_solver.proofs.Linear.{product_zero_ℕ}
use Rattle.ring_laws.specs.Meaning.{number, several}
use Rattle.ring_laws.specs.Algebra.{RingLaws, MagnitudeLaws, Passing, Closed, within, Laws, same_passing}
use Rattle.ring_laws.specs.Wholes.{number_of, is_zero, whole_algebra}

unit_whole : (a : ℤ) → pos 1 *ℤ a ≡ a
unit_whole a = *ℤ_comm (pos 1) a ∙ *ℤ_one a

is_zero_whole : (z : ℤ) → IsTrue (is_zero z) ↔ (z ≡ pos 0)
is_zero_whole (pos zero) = (λ _. refl, λ _. refl)
is_zero_whole (pos (suc n)) = (λ h. cc, λ h. cc)
is_zero_whole (negsuc n) = (λ h. cc, λ h. cc)

abs_product : (a b : ℤ) → unsigned_abs (a *ℤ b) ≡ unsigned_abs a * unsigned_abs b
abs_product a b = unsigned_abs-mul a b

abs_sum : (a b : ℤ) → unsigned_abs (a +ℤ b) ≤ unsigned_abs a + unsigned_abs b
abs_sum a b = omega (arith, ints, abs_is a, abs_is b, abs_is (a +ℤ b))

le_nat : (m n : ℕ) → m ≤ n → pos m ≤ℤ pos n
le_nat m n h = omega (arith, ints)

le_product : (x y : ℤ) (n : ℕ) → y ≤ℤ x → (y *ℤ pos n) ≤ℤ (x *ℤ pos n)
le_product x y n h = at_most_in (y *ℤ pos n) (x *ℤ pos n)
    (omega (arith, up-*ℤ x (pos n), up-*ℤ y (pos n), down-*ℤ x (pos n), down-*ℤ y (pos n), mul-le-mul_left n (le_out y x h)))

-- sums, products, negatives and absolute values of whole numbers are whole numbers
abbrev pub whole_closed : Closed whole_algebra
whole_closed = record {
  nought = refl;
  unit = refl;
  whole = λ w. refl;
  neg = λ x. refl;
  sum = λ x y. refl;
  product = λ x y. refl;
  magnitude = λ x. refl;
}

abbrev at : ℤ → Passing whole_algebra
at z = (number z, refl)

number_again : (x : Passing whole_algebra) → number (number_of x.0) ≡ x.0
number_again (number z, p) = refl
number_again (several xs, p) = cc

again : (x : Passing whole_algebra) → at (number_of x.0) ≡ x
again x = same_passing whole_algebra (at (number_of x.0)) x (number_again x)

from_number : (x : Passing whole_algebra) (z : ℤ) → number_of x.0 ≡ z → x ≡ at z
from_number x z e = sym (again x) ∙ ap at e

whole_ring : RingLaws (within whole_algebra whole_closed)
whole_ring = record {
  nought_sum = λ x. ap at (+ℤ_idl (number_of x.0)) ∙ again x;
  sum_comm = λ x y. ap at (+ℤ_comm (number_of x.0) (number_of y.0));
  sum_assoc = λ x y z. ap at (+ℤ_assoc (number_of x.0) (number_of y.0) (number_of z.0));
  sum_neg = λ x. ap at (+ℤ_invr (number_of x.0));
  unit_product = λ x. ap at (unit_whole (number_of x.0)) ∙ again x;
  product_comm = λ x y. ap at (*ℤ_comm (number_of x.0) (number_of y.0));
  product_assoc = λ x y z. ap at (*ℤ_assoc (number_of x.0) (number_of y.0) (number_of z.0));
  distributes = λ x y z. ap at (*ℤ_distrib (number_of x.0) (number_of y.0) (number_of z.0));
  whole_zero = refl;
  whole_one = refl;
  whole_sum = λ v w. refl;
  whole_product = λ v w. refl;
  is_nought = λ x. (
    (λ h. from_number x (pos 0) ((is_zero_whole (number_of x.0)).0 h)),
    (λ e. (is_zero_whole (number_of x.0)).1 (ap (λ (t : Passing whole_algebra). number_of t.0) e)),
  );
}

abs_zero : (z : ℤ) → pos (unsigned_abs z) ≡ pos 0 → z ≡ pos 0
abs_zero z e = omega (arith, ints, abs_is z)

below_factor : (m n b : ℕ) → m * n < b → ¬ (n ≡ 0) → m < b
below_factor m zero b h ne = absurd (ne refl)
below_factor m (suc n) b h ne = omega arith

number_at : (z : ℤ) (x : Passing whole_algebra) → at z ≡ x → z ≡ number_of x.0
number_at z x e = ap (λ (t : Passing whole_algebra). number_of t.0) e

whole_magnitudes : MagnitudeLaws (within whole_algebra whole_closed)
whole_magnitudes = record {
  of_magnitude = λ x. refl;
  of_nought = refl;
  of_neg = λ x. ap (λ n. at (pos n)) (omega (arith, ints, abs_is (neg_ℤ (number_of x.0)), abs_is (number_of x.0)));
  of_whole = λ w. refl;
  of_sum = λ x y. refl;
  of_product = λ x y. refl;
  only_nought = λ x e. from_number x (pos 0) (abs_zero (number_of x.0) (number_at (pos (unsigned_abs (number_of x.0))) (at (pos 0)) e));
  fits = λ x. ((λ h. h), (λ h. h));
  fits_nought = lit< tt;
  covers_same = λ x. omega (arith, ints);
  covers_trans = λ x y z p q. omega (arith, ints);
  covers_sum = λ x y z p. omega (arith, ints);
  covers_product = λ x y z p. le_product (number_of x.0) (number_of y.0) (unsigned_abs (number_of z.0)) p;
  sum_covers = λ x y. le_nat (unsigned_abs (number_of x.0 +ℤ number_of y.0)) (unsigned_abs (number_of x.0) + unsigned_abs (number_of y.0))
      (abs_sum (number_of x.0) (number_of y.0));
  product_covers = λ x y. le_nat (unsigned_abs (number_of x.0 *ℤ number_of y.0)) (unsigned_abs (number_of x.0) * unsigned_abs (number_of y.0))
      (omega (arith, abs_product (number_of x.0) (number_of y.0)));
  part_covered = λ x y. omega (arith, ints);
  fits_covered = λ x y h p. omega (arith, ints, abs_is (number_of x.0));
  nought_covers = λ x p. ap (λ n. at (pos n)) (omega (arith, ints));
  factors = λ x y e. ⊎_elim (λ h. inl (ap (λ n. at (pos n)) h)) (λ h. inr (ap (λ n. at (pos n)) h))
      (product_zero_ℕ (unsigned_abs (number_of x.0)) (unsigned_abs (number_of y.0))
      (omega (arith, ints, number_at (pos (unsigned_abs (number_of x.0) * unsigned_abs (number_of y.0))) (at (pos 0)) e)));
  fits_factor = λ x y h ne. below_factor (unsigned_abs (number_of x.0)) (unsigned_abs (number_of y.0)) (2 ^ 127) h
      (λ e. ne (from_number y (pos 0) (abs_zero (number_of y.0) (ap pos e))));
}

-- the whole numbers keep all laws of a ring
pub whole_laws : Laws whole_algebra
whole_laws = record { closed = whole_closed; ring = whole_ring; magnitudes = whole_magnitudes }
