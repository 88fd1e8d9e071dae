-- Powers of fractions other than 0, and where they are the same although the numbers aren't.
use Rattle.std.proofs.Common.{◌≡◌, ◌≢◌, ℕ, zero, suc, ◌*◌, refl, ap, sym, ◌∙◌, [], ◌∷◌, ⊎_elim, arith, add-one}
use Rattle.std.proofs.lemmas.Int.{ints}
use Rattle.std.specs.Prelude.{ℤ, pos, negsuc, ◌+ℤ◌, ◌*ℤ◌, neg_ℤ}
use Rattle.ring_solver.proofs.Linear.{product_zero}
use Rattle.ring_solver.proofs.Read.{ring_z, reading_z}
use Rattle.hypergeometric.specs.Fraction.{Fraction, of_whole, fraction_product, reciprocal, fraction_inverse, natural_power, whole_power}
use Rattle.hypergeometric.specs.ProperTerm.{IsNonzero}
use Rattle.hypergeometric.proofs.FractionLaws.{one_not_zero, product_not_zero}
use Rattle.hypergeometric.proofs.SameValues.{◌≅◌, same, same_itself, same_chain, same_symmetric, same_products, same_natural_powers}
use Rattle.hypergeometric.proofs.FractionPowers.{product_comm, product_assoc, one_product, product_one, negated_power, natural_then_whole, negative_then_natural, negative_then_negative}

pub product_nonzero : (f g : Fraction) → IsNonzero f → IsNonzero g → IsNonzero (fraction_product f g)
product_nonzero f g p q = record {
  top = product_not_zero f.top g.top p.top q.top;
  bottom = product_not_zero f.bottom g.bottom p.bottom q.bottom;
}

pub inverse_nonzero : (f : Fraction) → IsNonzero f → IsNonzero (fraction_inverse f)
inverse_nonzero f p = record {
  top = product_not_zero f.bottom f.bottom p.bottom p.bottom;
  bottom = product_not_zero f.top f.bottom p.top p.bottom;
}

pub natural_power_nonzero : (f : Fraction) (n : ℕ) → IsNonzero f → IsNonzero (natural_power f n)
natural_power_nonzero f zero p = record { top = one_not_zero; bottom = one_not_zero }
natural_power_nonzero f (suc n) p = product_nonzero f (natural_power f n) p (natural_power_nonzero f n p)

pub whole_power_nonzero : (f : Fraction) (w : ℤ) → IsNonzero f → IsNonzero (whole_power f w)
whole_power_nonzero f (pos n) p = natural_power_nonzero f n p
whole_power_nonzero f (negsuc n) p = natural_power_nonzero (fraction_inverse f) (suc n) (inverse_nonzero f p)

-- numerator and denominator change places
pub reciprocal_nonzero : (f : Fraction) → IsNonzero f → IsNonzero (reciprocal f)
reciprocal_nonzero f p = record { top = p.bottom; bottom = p.top }

inverse_cross : (t b : ℤ) → (b *ℤ b) *ℤ t ≡ b *ℤ (t *ℤ b)
inverse_cross t b = ring_z (t ∷ b ∷ []) (search reading_z depth 40 fits 20000) refl

pub inverse_is_reciprocal : (f : Fraction) → IsNonzero f → fraction_inverse f ≅ reciprocal f
inverse_is_reciprocal f p = record {
  zero_right = λ z. absurd (product_not_zero f.top f.bottom p.top p.bottom z);
  zero_left = λ z. absurd (p.top z);
  cross = inverse_cross f.top f.bottom;
}

-- the inverse of the inverse, where the numerator isn't 0
inverse_twice_cross : (t b : ℤ) → ((t *ℤ b) *ℤ (t *ℤ b)) *ℤ b ≡ t *ℤ ((b *ℤ b) *ℤ (t *ℤ b))
inverse_twice_cross t b = ring_z (t ∷ b ∷ []) (search reading_z depth 40 fits 20000) refl

zero_in_square : (t b : ℤ) → t ≢ pos 0 → (b *ℤ b) *ℤ (t *ℤ b) ≡ pos 0 → b ≡ pos 0
zero_in_square t b n z =
    ⊎_elim (λ s. ⊎_elim (λ e. e) (λ e. e) (product_zero b b s)) (λ s. ⊎_elim (λ e. absurd (n e)) (λ e. e) (product_zero t b s))
    (product_zero (b *ℤ b) (t *ℤ b) z)

zero_makes_square : (t b : ℤ) → b ≡ pos 0 → (b *ℤ b) *ℤ (t *ℤ b) ≡ pos 0
zero_makes_square t b z = ap (λ x. (x *ℤ x) *ℤ (t *ℤ x)) z ∙ none t
  where
    none : (t : ℤ) → (pos 0 *ℤ pos 0) *ℤ (t *ℤ pos 0) ≡ pos 0
    none t = ring_z (t ∷ []) (search reading_z depth 40 fits 20000) refl

pub inverse_twice : (f : Fraction) → f.top ≢ pos 0 → fraction_inverse (fraction_inverse f) ≅ f
inverse_twice f n = record {
  zero_right = zero_in_square f.top f.bottom n;
  zero_left = zero_makes_square f.top f.bottom;
  cross = inverse_twice_cross f.top f.bottom;
}

-- a power to a power, where no 0 is raised to a negative power
pub power_then_power : (f : Fraction) (a w : ℤ) → f.top ≢ pos 0 → whole_power (whole_power f a) w ≅ whole_power f (a *ℤ w)
power_then_power f (pos a) w n = same (natural_then_whole f a w)
power_then_power f (negsuc a) (pos m) n = same (negative_then_natural f a m)
power_then_power f (negsuc a) (negsuc m) n =
    same_chain (same (negative_then_negative f a m)) (same_natural_powers (suc a * suc m) (inverse_twice f n))

pub negated_exponent : (f : Fraction) (w : ℤ) → f.top ≢ pos 0 → whole_power f (neg_ℤ w) ≅ whole_power (fraction_inverse f) w
negated_exponent f (pos n) h = same (negated_power f n)
negated_exponent f (negsuc n) h = same_natural_powers (suc n) (same_symmetric (inverse_twice f h))

-- f divided by f
pub inverse_cancels : (f : Fraction) → IsNonzero f → fraction_product (fraction_inverse f) f ≅ of_whole (pos 1)
inverse_cancels f p = record {
  zero_right = λ z. absurd (product_not_zero (f.top *ℤ f.bottom) f.bottom (product_not_zero f.top f.bottom p.top p.bottom) p.bottom z);
  zero_left = λ z. absurd (one_not_zero z);
  cross = cancels f.top f.bottom;
}
  where
    cancels : (t b : ℤ) → ((b *ℤ b) *ℤ t) *ℤ pos 1 ≡ pos 1 *ℤ ((t *ℤ b) *ℤ b)
    cancels t b = ring_z (t ∷ b ∷ []) (search reading_z depth 40 fits 20000) refl

pub inverse_then_itself : (f g : Fraction) → IsNonzero f → fraction_product (fraction_inverse f) (fraction_product f g) ≅ g
inverse_then_itself f g p =
    same_chain (same (sym (product_assoc (fraction_inverse f) f g)))
    (same_chain (same_products (inverse_cancels f p) (same_itself g)) (same (one_product g)))

pub itself_then_inverse : (f g : Fraction) → IsNonzero f → fraction_product f (fraction_product (fraction_inverse f) g) ≅ g
itself_then_inverse f g p =
    same_chain (same (sym (product_assoc f (fraction_inverse f) g)))
    (same_chain (same_products (same_chain (same (product_comm f (fraction_inverse f))) (inverse_cancels f p)) (same_itself g))
    (same (one_product g)))

pub product_moved : (g x y : Fraction) → fraction_product g (fraction_product x y) ≡ fraction_product x (fraction_product g y)
product_moved g x y = sym (product_assoc g x y) ∙ ap (λ t. fraction_product t y) (product_comm g x) ∙ product_assoc x g y

module _ (f : Fraction) (p : IsNonzero f) where
  up_one : (w : ℤ) → whole_power f (w +ℤ pos 1) ≅ fraction_product f (whole_power f w)
  up_one (pos n) = same (ap (natural_power f) (add-one n))
  up_one (negsuc zero) = same_symmetric (itself_then_inverse f (of_whole (pos 1)) p)
  up_one (negsuc (suc n)) =
      let next : negsuc (suc n) +ℤ pos 1 ≡ negsuc n = omega (arith, ints) in
      same_chain (same (ap (whole_power f) next)) (same_symmetric (itself_then_inverse f (natural_power (fraction_inverse f) (suc n)) p))

  down_one : (w : ℤ) → whole_power f (w +ℤ negsuc 0) ≅ fraction_product (fraction_inverse f) (whole_power f w)
  down_one w =
      let back : w +ℤ negsuc 0 +ℤ pos 1 ≡ w = omega (arith, ints) in
      same_symmetric (same_chain (same_products (same_itself (fraction_inverse f))
      (same_chain (same (ap (whole_power f) (sym back))) (up_one (w +ℤ negsuc 0))))
      (inverse_then_itself f (whole_power f (w +ℤ negsuc 0)) p))

  pub power_at_sum : (a b : ℤ) → whole_power f (a +ℤ b) ≅ fraction_product (whole_power f a) (whole_power f b)
  power_at_sum a (pos zero) =
      let none : a +ℤ pos 0 ≡ a = omega (arith, ints) in
      same (ap (whole_power f) none ∙ sym (product_one (whole_power f a)))
  power_at_sum a (pos (suc n)) =
      let next : a +ℤ pos (suc n) ≡ a +ℤ pos n +ℤ pos 1 = omega (arith, ints) in
      same_chain (same (ap (whole_power f) next)) (same_chain (up_one (a +ℤ pos n))
      (same_chain (same_products (same_itself f) (power_at_sum a (pos n))) (same (product_moved f (whole_power f a) (natural_power f n)))))
  power_at_sum a (negsuc zero) =
      same_chain (down_one a) (same (product_comm (fraction_inverse f) (whole_power f a)
      ∙ ap (fraction_product (whole_power f a)) (sym (product_one (fraction_inverse f)))))
  power_at_sum a (negsuc (suc n)) =
      let next : a +ℤ negsuc (suc n) ≡ a +ℤ negsuc n +ℤ negsuc 0 = omega (arith, ints) in
      same_chain (same (ap (whole_power f) next)) (same_chain (down_one (a +ℤ negsuc n))
      (same_chain (same_products (same_itself (fraction_inverse f)) (power_at_sum a (negsuc n)))
      (same (product_moved (fraction_inverse f) (whole_power f a) (natural_power (fraction_inverse f) (suc n))))))
