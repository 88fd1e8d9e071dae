-- Products and powers of fractions whose numbers are the same, also where they are not defined.
use Rattle.std.proofs.Common.{◌≡◌, ℕ, zero, suc, ◌+◌, ◌*◌, refl, ap, sym, ◌∙◌, [], ◌∷◌, arith}
use Rattle.std.specs.Prelude.{ℤ, pos, negsuc, ◌*ℤ◌, neg_ℤ}
use Rattle.ring_solver.proofs.Read.{ring_z, reading_z}
use Rattle.hypergeometric.specs.Fraction.{Fraction, of_whole, fraction_product, fraction_inverse, natural_power, whole_power}

abbrev pub fraction_with : ℤ → ℤ → Fraction
fraction_with a b = record { top = a; bottom = b }

pub fraction_same : {a b c d : ℤ} → a ≡ c → b ≡ d → fraction_with a b ≡ fraction_with c d
fraction_same p q = λ i. fraction_with (p i) (q i)

pub product_comm : (f g : Fraction) → fraction_product f g ≡ fraction_product g f
product_comm f g = fraction_same (swapped f.top g.top) (swapped f.bottom g.bottom)
  where
    swapped : (a b : ℤ) → a *ℤ b ≡ b *ℤ a
    swapped a b = ring_z (a ∷ b ∷ []) (search reading_z depth 40 fits 20000) refl

pub product_assoc : (f g h : Fraction) → fraction_product (fraction_product f g) h ≡ fraction_product f (fraction_product g h)
product_assoc f g h = fraction_same (grouped f.top g.top h.top) (grouped f.bottom g.bottom h.bottom)
  where
    grouped : (a b c : ℤ) → (a *ℤ b) *ℤ c ≡ a *ℤ (b *ℤ c)
    grouped a b c = ring_z (a ∷ b ∷ c ∷ []) (search reading_z depth 40 fits 20000) refl

pub one_product : (f : Fraction) → fraction_product (of_whole (pos 1)) f ≡ f
one_product f = fraction_same (once f.top) (once f.bottom)
  where
    once : (a : ℤ) → pos 1 *ℤ a ≡ a
    once a = ring_z (a ∷ []) (search reading_z depth 40 fits 20000) refl

pub product_one : (f : Fraction) → fraction_product f (of_whole (pos 1)) ≡ f
product_one f = product_comm f (of_whole (pos 1)) ∙ one_product f

-- (f * g) * (h * k) is (f * h) * (g * k)
pub products_exchange : (f g h k : Fraction)
    → fraction_product (fraction_product f g) (fraction_product h k) ≡ fraction_product (fraction_product f h) (fraction_product g k)
products_exchange f g h k =
    fraction_same (exchanged f.top g.top h.top k.top) (exchanged f.bottom g.bottom h.bottom k.bottom)
  where
    exchanged : (a b c d : ℤ) → (a *ℤ b) *ℤ (c *ℤ d) ≡ (a *ℤ c) *ℤ (b *ℤ d)
    exchanged a b c d = ring_z (a ∷ b ∷ c ∷ d ∷ []) (search reading_z depth 40 fits 20000) refl

pub inverse_of_product : (f g : Fraction) → fraction_inverse (fraction_product f g) ≡ fraction_product (fraction_inverse f) (fraction_inverse g)
inverse_of_product f g = fraction_same (exchanged f.bottom g.bottom f.bottom g.bottom) (exchanged f.top g.top f.bottom g.bottom)
  where
    exchanged : (a b c d : ℤ) → (a *ℤ b) *ℤ (c *ℤ d) ≡ (a *ℤ c) *ℤ (b *ℤ d)
    exchanged a b c d = ring_z (a ∷ b ∷ c ∷ d ∷ []) (search reading_z depth 40 fits 20000) refl

pub power_of_product : (f g : Fraction) (n : ℕ) → natural_power (fraction_product f g) n ≡ fraction_product (natural_power f n) (natural_power g n)
power_of_product f g zero = sym (one_product (of_whole (pos 1)))
power_of_product f g (suc n) =
    ap (fraction_product (fraction_product f g)) (power_of_product f g n) ∙ products_exchange f g (natural_power f n) (natural_power g n)

pub whole_power_of_product : (f g : Fraction) (w : ℤ) → whole_power (fraction_product f g) w ≡ fraction_product (whole_power f w) (whole_power g w)
whole_power_of_product f g (pos n) = power_of_product f g n
whole_power_of_product f g (negsuc n) =
    ap (λ h. natural_power h (suc n)) (inverse_of_product f g) ∙ power_of_product (fraction_inverse f) (fraction_inverse g) (suc n)

pub power_of_sum : (f : Fraction) (a b : ℕ) → natural_power f (a + b) ≡ fraction_product (natural_power f a) (natural_power f b)
power_of_sum f zero b = ap (natural_power f) (omega arith) ∙ sym (one_product (natural_power f b))
power_of_sum f (suc a) b =
    let next : suc a + b ≡ suc (a + b) = omega arith in
    ap (natural_power f) next ∙ ap (fraction_product f) (power_of_sum f a b)
    ∙ sym (product_assoc f (natural_power f a) (natural_power f b))

pub power_twice : (f : Fraction) (a b : ℕ) → natural_power (natural_power f a) b ≡ natural_power f (a * b)
power_twice f a zero =
    let none : 0 ≡ a * 0 = omega arith in
    ap (natural_power f) none
power_twice f a (suc b) =
    let next : a + a * b ≡ a * suc b = omega arith in
    ap (fraction_product (natural_power f a)) (power_twice f a b) ∙ sym (power_of_sum f a (a * b)) ∙ ap (natural_power f) next

pub power_of_inverse : (f : Fraction) (n : ℕ) → natural_power (fraction_inverse f) n ≡ fraction_inverse (natural_power f n)
power_of_inverse f zero = refl
power_of_inverse f (suc n) =
    ap (fraction_product (fraction_inverse f)) (power_of_inverse f n) ∙ sym (inverse_of_product f (natural_power f n))

-- a power with a negated natural exponent is that of the inverse, also for the exponent 0
pub negated_power : (f : Fraction) (n : ℕ) → whole_power f (neg_ℤ (pos n)) ≡ natural_power (fraction_inverse f) n
negated_power f zero = refl
negated_power f (suc n) = refl

-- a natural power of any fraction to a whole power
pub natural_then_whole : (f : Fraction) (a : ℕ) (w : ℤ) → whole_power (natural_power f a) w ≡ whole_power f (pos a *ℤ w)
natural_then_whole f a (pos n) = power_twice f a n
natural_then_whole f a (negsuc n) =
    ap (λ h. natural_power h (suc n)) (sym (power_of_inverse f a)) ∙ power_twice (fraction_inverse f) a (suc n)
    ∙ sym (negated_power f (a * suc n))

-- a negative power to a natural power
pub negative_then_natural : (f : Fraction) (a n : ℕ) → natural_power (whole_power f (negsuc a)) n ≡ whole_power f (negsuc a *ℤ pos n)
negative_then_natural f a n = power_twice (fraction_inverse f) (suc a) n ∙ sym (negated_power f (suc a * n))

-- two negative powers
pub negative_then_negative : (f : Fraction) (a n : ℕ)
    → whole_power (whole_power f (negsuc a)) (negsuc n) ≡ natural_power (fraction_inverse (fraction_inverse f)) (suc a * suc n)
negative_then_negative f a n =
    ap (λ h. natural_power h (suc n)) (sym (power_of_inverse (fraction_inverse f) (suc a)))
    ∙ power_twice (fraction_inverse (fraction_inverse f)) (suc a) (suc n)
