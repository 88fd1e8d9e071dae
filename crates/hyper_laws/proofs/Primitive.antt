-- Lists of whole numbers without a common divisor above 1, some multiples of which are the same, are the same where one place has their sign.
use Rattle.std.proofs.Common.{◌≡◌, ◌≢◌, ℕ, zero, suc, ◌≤◌, ⊎_elim, ◌+◌, ◌-◌, ◌*◌, ◌/◌, ◌<◌, [], ◌∷◌, sym, subst, arith, refl, ap, ◌∙◌}
use Rattle.std.proofs.lemmas.Int.{ints, unsigned_abs-mul}
use Rattle.std.proofs.lemmas.Nat.Gcd.{dvd_antisymm}
use Rattle.std.proofs.Math.Nat.{dvd-sub, dvd-mul_right, dvd-mul_left, dvd_of_mul-dvd-mul_left, mul-sub, mul-one, mul-div_cancel', mul_comm, eq_of_mul-eq-mul_left}
use Rattle.std.proofs.Math.IntN.{*ℤ_comm}
use Rattle.std.specs.Int.{◌∣◌}
use Rattle.std.specs.Prelude.{ℤ, pos, ◌*ℤ◌, ◌<ℤ◌, unsigned_abs}
use Rattle.ring_solver.proofs.Linear.{product_zero}
use Rattle.ring_solver.proofs.Read.{ring_z, reading_z}
use Rattle.hypergeometric.proofs.FractionLaws.{cancel_factor}
use Rattle.hyper_laws.proofs.CommonDivisors.{Common, common}

-- no number above 1 divides each
abbrev pub Primitive : (ℕ → ℕ) → Type 0
Primitive g = (d : ℕ) → ((k : ℕ) → d ∣ g k) → d ≡ 1

-- a divides each of the numbers, m times
abbrev Within : ℕ → (ℕ → ℕ) → ℕ → Type 0
Within a g m = (k : ℕ) → a ∣ g k * m

-- what divides b times each of numbers without a common divisor divides b
divides : (a b : ℕ) (g : ℕ → ℕ) → 0 < a → Primitive g → Within a g b → a ∣ b
divides a b g some primitive within = by (common (Within a g) keeps (a + b) a b (omega arith) (λ k. dvd-mul_left a (g k)) within)
  where
    keeps : (m n : ℕ) → n ≤ m → Within a g m → Within a g n → Within a g (m - n)
    keeps m n b h i k = subst (λ t. a ∣ t) (sym (mul-sub (g k) m n)) (dvd-sub a (h k) (i k))

    positive : (d q : ℕ) → d * q ≡ a → 0 < d
    positive zero q e = absurd (omega (arith, e, some))
    positive (suc d) q e = omega arith

    by : Common (Within a g) a b → a ∣ b
    by c =
        let q : ℕ = a / c.divisor in
        let split : c.divisor * q ≡ a = mul-div_cancel' c.divisor c.first in
        let one : q ≡ 1 =
        primitive q (λ k. dvd_of_mul-dvd-mul_left q (positive c.divisor q split)
        (subst (λ t. t ∣ c.divisor * g k) (sym split) (subst (λ t. a ∣ t) (mul_comm (g k) c.divisor) (c.has k)))) in
        subst (λ t. t ∣ b) (sym (mul-one c.divisor) ∙ ap (λ t. c.divisor * t) (sym one) ∙ split) c.second

sized : (a : ℤ) → a ≢ pos 0 → 0 < unsigned_abs a
sized a some = omega (arith, ints, some)

module _ (a b : ℤ) (f g : ℕ → ℤ) (some : a ≢ pos 0) (same : (k : ℕ) → a *ℤ f k ≡ b *ℤ g k) (one_f : Primitive (λ k. unsigned_abs (f k)))
    (one_g : Primitive (λ k. unsigned_abs (g k))) (e : ℕ) (f_positive : pos 0 <ℤ f e) (g_positive : pos 0 <ℤ g e) where
  some_b : b ≢ pos 0
  some_b z =
      ⊎_elim some (λ t. omega (arith, ints, t, f_positive)) (product_zero a (f e) (same e ∙ ap (λ t. t *ℤ g e) z ∙ none (g e)))
    where
      none : (x : ℤ) → pos 0 *ℤ x ≡ pos 0
      none x = ring_z (x ∷ []) (search reading_z depth 40 fits 20000) refl

  shared : (x y u v : ℤ) → x *ℤ u ≡ y *ℤ v → unsigned_abs x ∣ unsigned_abs v * unsigned_abs y
  shared x y u v h =
      subst (λ t. unsigned_abs x ∣ t)
      (sym (unsigned_abs-mul x u) ∙ ap unsigned_abs h ∙ unsigned_abs-mul y v ∙ mul_comm (unsigned_abs y) (unsigned_abs v))
      (dvd-mul_right (unsigned_abs x) (unsigned_abs u))

  same_size : unsigned_abs a ≡ unsigned_abs b
  same_size = dvd_antisymm
      (divides (unsigned_abs a) (unsigned_abs b) (λ k. unsigned_abs (g k)) (sized a some) one_g (λ k. shared a b (f k) (g k) (same k)))
      (divides (unsigned_abs b) (unsigned_abs a) (λ k. unsigned_abs (f k)) (sized b some_b) one_f (λ k. shared b a (g k) (f k) (sym (same k))))

  same_there : unsigned_abs (f e) ≡ unsigned_abs (g e)
  same_there =
      eq_of_mul-eq-mul_left (unsigned_abs a) (sized a some) (unsigned_abs (f e)) (unsigned_abs (g e))
      (sym (unsigned_abs-mul a (f e)) ∙ ap unsigned_abs (same e) ∙ unsigned_abs-mul b (g e) ∙ ap (λ t. t * unsigned_abs (g e)) (sym same_size))

  same_factor : a ≡ b
  same_factor =
      let there : f e ≡ g e = omega (arith, ints, same_there, f_positive, g_positive) in
      cancel_factor (f e) a b (λ z. omega (arith, ints, z, f_positive)) (*ℤ_comm (f e) a ∙ same e ∙ ap (λ t. b *ℤ t) (sym there) ∙ *ℤ_comm b (f e))

  pub primitive_same : (k : ℕ) → f k ≡ g k
  primitive_same k = cancel_factor a (f k) (g k) some (same k ∙ ap (λ t. t *ℤ g k) (sym same_factor))
