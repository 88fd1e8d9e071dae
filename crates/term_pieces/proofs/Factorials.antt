-- A factorial is a rising product times a lower factorial, and one over a factorial is one times one over a higher factorial.
use Rattle.std.proofs.Common.{◌≡◌, ◌≢◌, ℕ, zero, suc, ◌+◌, ◌*◌, ◌≤◌, [], ◌∷◌, refl, ap, sym, ◌∙◌, add-one, arith, ◌⊎◌, inl, inr}
use Rattle.std.proofs.lemmas.Int.{ints}
use Rattle.std.specs.Prelude.{ℤ, pos, negsuc, ◌+ℤ◌, ◌*ℤ◌, ◌<ℤ◌, ◌≤ℤ◌}
use Rattle.ring_solver.specs.Ranges.{over, rising}
use Rattle.ring_solver.proofs.Read.{ring_z, reading_z}
use Rattle.hypergeometric.specs.Fraction.{◌≈◌, of_whole, fraction_product}
use Rattle.hypergeometric.specs.LinearForm.{factorial, factorial_value, inverse_factorial_value}
use Rattle.hypergeometric.proofs.SameValues.{times_zero, zero_times}

-- no factorial is 0
factorial_some : (a : ℕ) → 1 ≤ factorial a
factorial_some zero = omega arith
factorial_some (suc a) = grind (arith, factorial_some a)

factorial_not_zero : (a : ℕ) → pos (factorial a) ≢ pos 0
factorial_not_zero a e = omega (arith, ints, e, factorial_some a)

one_more : (a : ℕ) → pos (factorial (suc a)) ≡ (pos a +ℤ pos 1) *ℤ pos (factorial a)
one_more a = ap (λ x. pos (x * factorial a)) (sym (add-one a))

last_factor : (x y r f : ℤ) → ((x +ℤ y) +ℤ pos 1) *ℤ (r *ℤ f) ≡ (r *ℤ ((x +ℤ pos 1) +ℤ y)) *ℤ f
last_factor x y r f = ring_z (x ∷ y ∷ r ∷ f ∷ []) (search reading_z depth 40 fits 20000) refl

one_times : (x : ℤ) → x ≡ pos 1 *ℤ x
one_times x = ring_z (x ∷ []) (search reading_z depth 40 fits 20000) refl

pub factorial_rises : (a m : ℕ) → pos (factorial (a + m)) ≡ rising (pos a +ℤ pos 1) m *ℤ pos (factorial a)
unfolding over
factorial_rises a zero =
    let same : a + 0 ≡ a = omega arith in
    ap (λ x. pos (factorial x)) same ∙ one_times (pos (factorial a))
factorial_rises a (suc m) =
    let same : a + suc m ≡ suc (a + m) = omega arith in
    ap (λ x. pos (factorial x)) same ∙ one_more (a + m)
    ∙ ap (λ x. (pos (a + m) +ℤ pos 1) *ℤ x) (factorial_rises a m)
    ∙ last_factor (pos a) (pos m) (rising (pos a +ℤ pos 1) m) (pos (factorial a))

below_or_not : (x : ℤ) → (pos 0 ≤ℤ x) ⊎ (x <ℤ pos 0)
below_or_not (pos n) = inl (omega (arith, ints))
below_or_not (negsuc n) = inr (omega (arith, ints))

-- a rising product over 0 is 0
rising_zero : (z : ℤ) (m : ℕ) → z <ℤ pos 0 → pos 0 ≤ℤ (z +ℤ pos m) → rising (z +ℤ pos 1) m ≡ pos 0
unfolding over
rising_zero z zero below above = absurd (omega (arith, ints, below, above))
rising_zero z (suc m) below above = by (rising_zero z m below) (below_or_not (z +ℤ pos m))
  where
    by : ((pos 0 ≤ℤ (z +ℤ pos m)) → rising (z +ℤ pos 1) m ≡ pos 0) → ((pos 0 ≤ℤ (z +ℤ pos m)) ⊎ ((z +ℤ pos m) <ℤ pos 0))
        → rising (z +ℤ pos 1) m *ℤ ((z +ℤ pos 1) +ℤ pos m) ≡ pos 0
    by before (inl h) = ap (λ x. x *ℤ ((z +ℤ pos 1) +ℤ pos m)) (before h) ∙ zero_times ((z +ℤ pos 1) +ℤ pos m)
    by before (inr h) =
        let last : (z +ℤ pos 1) +ℤ pos m ≡ pos 0 = omega (arith, ints, above, h) in
        ap (λ x. rising (z +ℤ pos 1) m *ℤ x) last ∙ times_zero (rising (z +ℤ pos 1) m)

pub factorial_times : (z : ℤ) (m : ℕ) → pos 0 ≤ℤ z
    → factorial_value (z +ℤ pos m) ≈ fraction_product (of_whole (rising (z +ℤ pos 1) m)) (factorial_value z)
factorial_times (pos a) m h = record {
  left_defined = λ e. omega (arith, ints, e);
  right_defined = λ e. omega (arith, ints, e);
  cross = cross (pos (factorial (a + m))) (rising (pos a +ℤ pos 1) m *ℤ pos (factorial a)) (factorial_rises a m);
}
  where
    cross : (x y : ℤ) → x ≡ y → x *ℤ (pos 1 *ℤ pos 1) ≡ y *ℤ pos 1
    cross x y e = ap (λ t. t *ℤ (pos 1 *ℤ pos 1)) e
factorial_times (negsuc a) m h = absurd (omega (arith, ints, h))

pub inverse_factorial_times : (z : ℤ) (m : ℕ)
    → inverse_factorial_value z ≈ fraction_product (of_whole (rising (z +ℤ pos 1) m)) (inverse_factorial_value (z +ℤ pos m))
inverse_factorial_times (pos a) m = record {
  left_defined = factorial_not_zero a;
  right_defined = λ e. factorial_not_zero (a + m) (one_times (pos (factorial (a + m))) ∙ e);
  cross = cross (pos (factorial (a + m))) (rising (pos a +ℤ pos 1) m) (pos (factorial a)) (factorial_rises a m);
}
  where
    cross : (x r f : ℤ) → x ≡ r *ℤ f → pos 1 *ℤ (pos 1 *ℤ x) ≡ (r *ℤ pos 1) *ℤ f
    cross x r f e = ap (λ t. pos 1 *ℤ (pos 1 *ℤ t)) e ∙ ring_z (r ∷ f ∷ []) (search reading_z depth 40 fits 20000) refl
inverse_factorial_times (negsuc a) m = by (negsuc a +ℤ pos m) refl
  where
    by : (x : ℤ) → negsuc a +ℤ pos m ≡ x
        → of_whole (pos 0) ≈ fraction_product (of_whole (rising (negsuc a +ℤ pos 1) m)) (inverse_factorial_value x)
    by (negsuc b) e = record {
      left_defined = λ e. omega (arith, ints, e);
      right_defined = λ e. omega (arith, ints, e);
      cross = zero_times (pos 1 *ℤ pos 1) ∙ sym (ap (λ t. t *ℤ pos 1) (times_zero (rising (negsuc a +ℤ pos 1) m)));
    }
    by (pos b) e =
        let nothing : rising (negsuc a +ℤ pos 1) m ≡ pos 0 = rising_zero (negsuc a) m (omega (arith, ints)) (omega (arith, ints, e)) in
        record {
          left_defined = λ e. omega (arith, ints, e);
          right_defined = λ e. factorial_not_zero b (one_times (pos (factorial b)) ∙ e);
          cross = zero_times (pos 1 *ℤ pos (factorial b)) ∙ sym (ap (λ t. (t *ℤ pos 1) *ℤ pos 1) nothing);
        }
