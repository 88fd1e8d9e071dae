-- What divides two whole numbers divides their sum, and what divides one divides its products.
use Rattle.std.specs.Prelude.{◌≡◌, ℕ, suc, ◌+◌, ℤ, pos, negsuc, ◌+ℤ◌, ◌*ℤ◌, unsigned_abs, ◌⊎◌}
use Rattle.std.specs.Int.{◌∣◌}
use Rattle.std.proofs.Common.{sym, subst, arith, inl, inr, ⊎_elim}
use Rattle.std.proofs.lemmas.Bool.{cases_lt}
use Rattle.std.proofs.lemmas.Int.{ints, unsigned_abs-mul}
use Rattle.std.proofs.Math.Nat.{dvd-add, dvd-add_iff_right, dvd-mul_left_of_dvd}

-- the magnitude of a sum is the sum of the magnitudes, or one of these is the other and the magnitude of the sum
sum_sizes : (a b : ℤ) → (unsigned_abs (a +ℤ b) ≡ unsigned_abs a + unsigned_abs b)
    ⊎ ((unsigned_abs a ≡ unsigned_abs b + unsigned_abs (a +ℤ b)) ⊎ (unsigned_abs b ≡ unsigned_abs a + unsigned_abs (a +ℤ b)))
sum_sizes (pos m) (pos n) = inl (omega (arith, ints))
sum_sizes (negsuc m) (negsuc n) = inl (omega (arith, ints))
sum_sizes (pos m) (negsuc n) =
    ⊎_elim (λ b. inr (inr (omega (arith, ints, b)))) (λ b. inr (inl (omega (arith, ints, b)))) (cases_lt m (suc n))
sum_sizes (negsuc m) (pos n) =
    ⊎_elim (λ b. inr (inr (omega (arith, ints, b)))) (λ b. inr (inl (omega (arith, ints, b)))) (cases_lt (suc m) n)

pub divides_sum : (d : ℕ) (a b : ℤ) → d ∣ unsigned_abs a → d ∣ unsigned_abs b → d ∣ unsigned_abs (a +ℤ b)
divides_sum d a b h k =
    ⊎_elim (λ e. subst (λ n. d ∣ n) (sym e) (dvd-add d h k))
    (λ t. ⊎_elim (λ e. (dvd-add_iff_right d k).1 (subst (λ n. d ∣ n) e h)) (λ e. (dvd-add_iff_right d h).1 (subst (λ n. d ∣ n) e k)) t)
    (sum_sizes a b)

pub divides_product : (d : ℕ) (a b : ℤ) → d ∣ unsigned_abs b → d ∣ unsigned_abs (a *ℤ b)
divides_product d a b h = subst (λ n. d ∣ n) (sym (unsigned_abs-mul a b)) (dvd-mul_left_of_dvd d h (unsigned_abs a))
