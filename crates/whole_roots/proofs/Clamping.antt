-- Horner's rule with values that are cut off at 127 bits.
use Rattle.std.specs.Prelude.{◌≡◌, ℕ, zero, suc, ◌≤◌, ◌<◌, ◌+◌, ◌*◌, ◌-◌, ◌^◌, ℤ, pos, negsuc, ◌+ℤ◌, ◌*ℤ◌, ◌-ℤ◌, false, neg_ℤ, ◌≤ℤ◌, unsigned_abs, [], ◌∷◌, refl}
use mathlib.Core.Bool.{beq}
use lib.Signed.{lt_z}
use Rattle.ring_solver.proofs.Read.{ring_z, reading_z}
use Rattle.std.proofs.Common.{ap, sym, ◌∙◌, subst, inl, inr, arith}
use Rattle.std.proofs.lemmas.Int.{ints}
use Rattle.whole_roots.specs.Signs.{sign_of}
use Rattle.whole_roots.specs.Turns.{greatest, least}
use Rattle.whole_roots.specs.Clamps.{IsClamped}
use Rattle.whole_roots.proofs.SignLemmas.{positive_sign, negative_sign}

-- a number of magnitude 2 or more times one that is large is twice as large
twice : (x : ℕ) (m k : ℕ) → 2 ≤ x → m ≤ k → m + m ≤ x * k
twice zero m k h p = absurd (omega (arith, h))
twice (suc zero) m k h p = absurd (omega (arith, h))
twice (suc (suc x)) m k h p = omega (arith, p)

-- the four cases of signs
positive_product : (at v : ℤ) (m : ℕ) → pos 2 ≤ℤ at → pos m ≤ℤ v → (pos m +ℤ pos m) ≤ℤ (at *ℤ v)
positive_product (pos x) (pos k) m h p = omega (arith, ints, twice x m k (omega (arith, ints, h)) (omega (arith, ints, p)))
positive_product (pos x) (negsuc k) m h p = absurd (omega (arith, ints, p))
positive_product (negsuc x) v m h p = absurd (omega (arith, ints, h))

neg_product : (at v : ℤ) → neg_ℤ at *ℤ v ≡ neg_ℤ (at *ℤ v)
neg_product at v = ring_z (at ∷ v ∷ []) (search reading_z depth 40 fits 20000) refl

product_neg : (at v : ℤ) → at *ℤ neg_ℤ v ≡ neg_ℤ (at *ℤ v)
product_neg at v = ring_z (at ∷ v ∷ []) (search reading_z depth 40 fits 20000) refl

-- what follows of a value that passed the bound above, and below
above_far : (c at v : ℤ) (m : ℕ) → neg_ℤ (pos m) ≤ℤ c → pos 2 ≤ℤ at → pos m ≤ℤ v → pos m ≤ℤ (c +ℤ at *ℤ v)
above_far c at v m b h p = omega (arith, ints, b, positive_product at v m h p)

below_far : (c at v : ℤ) (m : ℕ) → c ≤ℤ pos m → pos 2 ≤ℤ at → v ≤ℤ neg_ℤ (pos m) → (c +ℤ at *ℤ v) ≤ℤ neg_ℤ (pos m)
below_far c at v m b h p = omega (arith, ints, b, product_neg at v, positive_product at (neg_ℤ v) m h (omega (arith, ints, p)))

above_turned : (c at v : ℤ) (m : ℕ) → c ≤ℤ pos m → at ≤ℤ negsuc 1 → pos m ≤ℤ v → (c +ℤ at *ℤ v) ≤ℤ neg_ℤ (pos m)
above_turned c at v m b h p = omega (arith, ints, b, neg_product at v, positive_product (neg_ℤ at) v m (omega (arith, ints, h)) p)

below_turned : (c at v : ℤ) (m : ℕ) → neg_ℤ (pos m) ≤ℤ c → at ≤ℤ negsuc 1 → v ≤ℤ neg_ℤ (pos m) → pos m ≤ℤ (c +ℤ at *ℤ v)
below_turned c at v m b h p =
    omega (
      arith,
      ints,
      b,
      neg_product at (neg_ℤ v),
      product_neg at v,
      positive_product (neg_ℤ at) (neg_ℤ v) m (omega (arith, ints, h)) (omega (arith, ints, p)),
    )

is_above : (z r : ℤ) → greatest ≤ℤ z → IsClamped z r → r ≡ greatest
is_above z r h (inl e) = omega (arith, ints, h, e.0, e.1.1)
is_above z r h (inr (inl e)) = e.0
is_above z r h (inr (inr e)) = absurd (omega (arith, ints, h, e.1))

is_below : (z r : ℤ) → z ≤ℤ least → IsClamped z r → r ≡ least
is_below z r h (inl e) = omega (arith, ints, h, e.0, e.1.0)
is_below z r h (inr (inl e)) = absurd (omega (arith, ints, h, e.1))
is_below z r h (inr (inr e)) = e.0

-- the value that was cut off in the step before may stand for the value
pub clamped_far : (c at v held r : ℤ) → least ≤ℤ c → c ≤ℤ greatest → 2 ≤ unsigned_abs at → IsClamped v held
    → IsClamped (c +ℤ at *ℤ held) r → IsClamped (c +ℤ at *ℤ v) r
clamped_far c at v held r low high far (inl e) k = subst (λ (z : ℤ). IsClamped (c +ℤ at *ℤ z) r) e.0 k
clamped_far c (pos x) v held r low high far (inr (inl e)) k =
    let m = 2 ^ 127 - 1 in
    inr (inl (
      is_above (c +ℤ pos x *ℤ held) r (above_far c (pos x) held m low (omega (arith, ints, far)) (omega (arith, ints, e.0))) k,
      above_far c (pos x) v m low (omega (arith, ints, far)) e.1,
    ))
clamped_far c (negsuc x) v held r low high far (inr (inl e)) k =
    let m = 2 ^ 127 - 1 in
    inr (inr (
      is_below (c +ℤ negsuc x *ℤ held) r (above_turned c (negsuc x) held m high (omega (arith, ints, far)) (omega (arith, ints, e.0))) k,
      above_turned c (negsuc x) v m high (omega (arith, ints, far)) e.1,
    ))
clamped_far c (pos x) v held r low high far (inr (inr e)) k =
    let m = 2 ^ 127 - 1 in
    inr (inr (
      is_below (c +ℤ pos x *ℤ held) r (below_far c (pos x) held m high (omega (arith, ints, far)) (omega (arith, ints, e.0))) k,
      below_far c (pos x) v m high (omega (arith, ints, far)) e.1,
    ))
clamped_far c (negsuc x) v held r low high far (inr (inr e)) k =
    let m = 2 ^ 127 - 1 in
    inr (inl (
      is_above (c +ℤ negsuc x *ℤ held) r (below_turned c (negsuc x) held m low (omega (arith, ints, far)) (omega (arith, ints, e.0))) k,
      below_turned c (negsuc x) v m low (omega (arith, ints, far)) e.1,
    ))

-- what is cut off keeps its sign
pub clamped_sign : (z r : ℤ) → IsClamped z r → sign_of r ≡ sign_of z
clamped_sign z r (inl e) = ap sign_of e.0
clamped_sign z r (inr (inl e)) = positive_sign r (omega (arith, ints, e.0)) ∙ sym (positive_sign z (omega (arith, ints, e.1)))
clamped_sign z r (inr (inr e)) = negative_sign r (omega (arith, ints, e.0)) ∙ sym (negative_sign z (omega (arith, ints, e.1)))

turned : (z r : ℤ) → IsClamped z r → IsClamped (neg_ℤ z) (neg_ℤ r)
turned z r (inl e) = inl (ap neg_ℤ e.0, (omega (arith, ints, e.1.1), omega (arith, ints, e.1.0)))
turned z r (inr (inl e)) = inr (inr (omega (arith, ints, e.0), omega (arith, ints, e.1)))
turned z r (inr (inr e)) = inr (inl (omega (arith, ints, e.0), omega (arith, ints, e.1)))

-- a sum with a negative product, from that of the negatives
pub turned_sum : (c p x r y : ℤ) (size : ℕ) → IsClamped (x +ℤ pos size) r → x ≡ pos 0 -ℤ c → y ≡ pos 0 -ℤ r → p ≡ neg_ℤ (pos size)
    → IsClamped (c +ℤ p) y
turned_sum c p x r y size h e f g =
    let a : neg_ℤ (x +ℤ pos size) ≡ c +ℤ p = omega (arith, ints, e, g) in
    let b : neg_ℤ r ≡ y = omega (arith, ints, f) in
    subst (λ (z : ℤ). IsClamped z y) a (subst (λ (z : ℤ). IsClamped (neg_ℤ (x +ℤ pos size)) z) b (turned (x +ℤ pos size) r h))

-- a product of numbers of different signs
pub opposite_product : (at held : ℤ) → beq (lt_z at (pos 0)) (lt_z held (pos 0)) ≡ false
    → at *ℤ held ≡ neg_ℤ (pos (unsigned_abs at * unsigned_abs held))
opposite_product (pos m) (pos n) h = absurd (grind (arith, ints, h))
opposite_product (pos m) (negsuc n) h = omega (arith, ints)
opposite_product (negsuc m) (pos n) h = omega (arith, ints)
opposite_product (negsuc m) (negsuc n) h = absurd (grind (arith, ints, h))

-- what is cut off is a number of 127 bits
pub clamped_fits : (z r : ℤ) → IsClamped z r → unsigned_abs r < 2 ^ 127
clamped_fits z r (inl e) = omega (arith, ints, e.0, e.1.0, e.1.1)
clamped_fits z r (inr (inl e)) = omega (arith, ints, e.0)
clamped_fits z r (inr (inr e)) = omega (arith, ints, e.0)

-- a step with the coefficient of a power
pub far_step : (u at item x w v held r y : ℤ) → 2 ≤ unsigned_abs u → at ≡ u → unsigned_abs item < 2 ^ 127 → x ≡ item → item ≡ w
    → IsClamped v held → IsClamped (x +ℤ at *ℤ held) r → y ≡ r → IsClamped (w +ℤ at *ℤ v) y
far_step u at item x w v held r y far e small f g h k s =
    let a : 2 ≤ unsigned_abs at = subst (λ (z : ℤ). 2 ≤ unsigned_abs z) (sym e) far in
    let p : x ≡ w = f ∙ g in
    subst (λ (z : ℤ). IsClamped (z +ℤ at *ℤ v) y) p
    (subst (λ (z : ℤ). IsClamped (x +ℤ at *ℤ v) z) (sym s)
    (clamped_far x at v held r (omega (arith, ints, f, small)) (omega (arith, ints, f, small)) a h k))
