-- Why the quotients by the greatest common divisor, with the sign of the first number, are a primitive form.
use Rattle.std.specs.Prelude.{◌≡◌, ◌≢◌, ℕ, zero, suc, ◌*◌, ◌≤◌, ◌<◌, ◌^◌, ℤ, pos, negsuc, ◌*ℤ◌, ◌<ℤ◌, unsigned_abs, ◌⊎◌, refl}
use Rattle.std.specs.Int.{◌∣◌, IsGcd}
use Rattle.std.proofs.Common.{arith, ap, sym, ◌∙◌, subst, inl, inr}
use Rattle.std.proofs.lemmas.Int.{ints, unsigned_abs-mul}
use Rattle.std.proofs.lemmas.Nat.Gcd.{le_of_dvd, dvd_antisymm, dvd_trans}
use Rattle.std.proofs.Math.Nat.{dvd_of_mul-dvd-mul_left, mul-dvd-mul_left, one-dvd, eq-zero_of_zero-dvd}
use Rattle.ring_laws.specs.WholeDomain.{abs_nought}
use Rattle.hypergeometric.specs.LinearForm.{LinearForm}
use Rattle.hypergeometric.specs.FormOrder.{IsPositiveFirst, IsPrimitive}
use Rattle.hypergeometric.specs.Forms.{form_with, multiple, IsGreatestDivisor}
use Rattle.hypergeometric.proofs.Signs.{same_sign, turned_sign, zero_of}

-- the three numbers are those of the quotients times the factor
pub record AreQuotients (f g : LinearForm) (e : ℤ) : Type 0 where
  pub k_slope : e *ℤ g.k_slope ≡ f.k_slope
  pub n_slope : e *ℤ g.n_slope ≡ f.n_slope
  pub offset : e *ℤ g.offset ≡ f.offset

pub product : {f g : LinearForm} {e : ℤ} → AreQuotients f g e → multiple e g ≡ f
product q = λ i. form_with (q.n_slope i) (q.k_slope i) (q.offset i)

-- some number of the form isn't 0
abbrev pub IsNotZero : LinearForm → Type 0
IsNotZero f = ¬ ((f.k_slope ≡ pos 0) × (f.n_slope ≡ pos 0) × (f.offset ≡ pos 0))

-- the first number that isn't 0 is negative
abbrev IsNegativeFirst : LinearForm → Type 0
IsNegativeFirst f = (f.k_slope <ℤ pos 0)
    ⊎ (((f.k_slope ≡ pos 0) × (f.n_slope <ℤ pos 0))
    ⊎ ((f.k_slope ≡ pos 0) × (f.n_slope ≡ pos 0) × (f.offset <ℤ pos 0)))

negative_first : (f : LinearForm) → IsNotZero f → ¬ IsPositiveFirst f → IsNegativeFirst f
negative_first f some none = first f.k_slope refl
  where
    third : (c : ℤ) → f.offset ≡ c → f.k_slope ≡ pos 0 → f.n_slope ≡ pos 0 → IsNegativeFirst f
    third (pos zero) e p q = absurd (some (p, q, e))
    third (pos (suc c)) e p q = absurd (none (inr (inr (p, q, omega (arith, ints, e)))))
    third (negsuc c) e p q = inr (inr (p, q, omega (arith, ints, e)))

    second : (b : ℤ) → f.n_slope ≡ b → f.k_slope ≡ pos 0 → IsNegativeFirst f
    second (pos zero) e p = third f.offset refl p e
    second (pos (suc b)) e p = absurd (none (inr (inl (p, omega (arith, ints, e)))))
    second (negsuc b) e p = inr (inl (p, omega (arith, ints, e)))

    first : (a : ℤ) → f.k_slope ≡ a → IsNegativeFirst f
    first (pos zero) e = second f.n_slope refl e
    first (pos (suc a)) e = absurd (none (inl (omega (arith, ints, e))))
    first (negsuc a) e = inl (omega (arith, ints, e))

-- the factor with the sign of the first number leaves it positive
pub stays_positive : (f g : LinearForm) (e : ℤ) → AreQuotients f g e → pos 0 <ℤ e → IsPositiveFirst f → IsPositiveFirst g
stays_positive f g e q p (inl a) = inl (same_sign e g.k_slope p (omega (arith, ints, q.k_slope)))
stays_positive f g e q p (inr (inl (z, a))) =
    let ne : e ≢ pos 0 = λ h. omega (arith, ints, h) in
    inr (inl (zero_of e g.k_slope ne (q.k_slope ∙ z), same_sign e g.n_slope p (omega (arith, ints, q.n_slope))))
stays_positive f g e q p (inr (inr (z, y, a))) =
    let ne : e ≢ pos 0 = λ h. omega (arith, ints, h) in
    inr (inr (zero_of e g.k_slope ne (q.k_slope ∙ z), zero_of e g.n_slope ne (q.n_slope ∙ y), same_sign e g.offset p (omega (arith, ints, q.offset))))

turns_positive : (f g : LinearForm) (e : ℤ) → AreQuotients f g e → e <ℤ pos 0 → IsNegativeFirst f → IsPositiveFirst g
turns_positive f g e q p (inl a) = inl (turned_sign e g.k_slope p (omega (arith, ints, q.k_slope)))
turns_positive f g e q p (inr (inl (z, a))) =
    let ne : e ≢ pos 0 = λ h. omega (arith, ints, h) in
    inr (inl (zero_of e g.k_slope ne (q.k_slope ∙ z), turned_sign e g.n_slope p (omega (arith, ints, q.n_slope))))
turns_positive f g e q p (inr (inr (z, y, a))) =
    let ne : e ≢ pos 0 = λ h. omega (arith, ints, h) in
    inr (inr (zero_of e g.k_slope ne (q.k_slope ∙ z), zero_of e g.n_slope ne (q.n_slope ∙ y), turned_sign e g.offset p (omega (arith, ints, q.offset))))

pub becomes_positive : (f g : LinearForm) (e : ℤ) → AreQuotients f g e → IsNotZero f → e <ℤ pos 0 → ¬ IsPositiveFirst f → IsPositiveFirst g
becomes_positive f g e q some p none = turns_positive f g e q p (negative_first f some none)

times_divides : (e a b : ℤ) (d : ℕ) → e *ℤ a ≡ b → d ∣ unsigned_abs a → unsigned_abs e * d ∣ unsigned_abs b
times_divides e a b d h divides =
    subst (λ n. unsigned_abs e * d ∣ n) (sym (unsigned_abs-mul e a) ∙ ap unsigned_abs h) (mul-dvd-mul_left d (unsigned_abs e) divides)

-- the quotients by the greatest common divisor have no common divisor above 1
pub no_divisor_left : (f g : LinearForm) (e : ℤ) → AreQuotients f g e → 0 < unsigned_abs e → IsGreatestDivisor f (unsigned_abs e)
    → (d : ℕ) → d ∣ unsigned_abs g.k_slope → d ∣ unsigned_abs g.n_slope → d ∣ unsigned_abs g.offset → d ≡ 1
no_divisor_left f g e q some greatest d a b c =
    let all : unsigned_abs e * d ∣ unsigned_abs e = greatest.greatest (unsigned_abs e * d) (times_divides e g.k_slope f.k_slope d q.k_slope a)
    (times_divides e g.n_slope f.n_slope d q.n_slope b) (times_divides e g.offset f.offset d q.offset c) in
    dvd_antisymm (dvd_of_mul-dvd-mul_left d some (subst (λ n. unsigned_abs e * d ∣ n) (omega arith) all)) (one-dvd d)

-- a common divisor of numbers that aren't all 0 is no greater than the one that isn't
pub divisor_bound : (g a b c : ℕ) → g ∣ a → g ∣ b → g ∣ c → ¬ ((a ≡ 0) × (b ≡ 0) × (c ≡ 0)) → a ≤ 2 ^ 40 → b ≤ 2 ^ 40 → c ≤ 2 ^ 40
    → (0 < g) × (g ≤ 2 ^ 40)
divisor_bound g a b c p q r some x y z = (positive g p q r, below a b c p q r some x y z)
  where
    nothing : (n : ℕ) → 0 ∣ n → n ≡ 0
    nothing n h = eq-zero_of_zero-dvd h

    positive : (g : ℕ) → g ∣ a → g ∣ b → g ∣ c → 0 < g
    positive zero p q r = absurd (some (nothing a p, nothing b q, nothing c r))
    positive (suc g) p q r = omega arith

    below : (a b c : ℕ) → g ∣ a → g ∣ b → g ∣ c → ¬ ((a ≡ 0) × (b ≡ 0) × (c ≡ 0)) → a ≤ 2 ^ 40 → b ≤ 2 ^ 40 → c ≤ 2 ^ 40 → g ≤ 2 ^ 40
    below (suc a) b c p q r some x y z =
        let h : g ≤ suc a = le_of_dvd (omega arith) p in
        omega arith
    below zero (suc b) c p q r some x y z =
        let h : g ≤ suc b = le_of_dvd (omega arith) q in
        omega arith
    below zero zero (suc c) p q r some x y z =
        let h : g ≤ suc c = le_of_dvd (omega arith) r in
        omega arith
    below zero zero zero p q r some x y z = absurd (some (refl, refl, refl))

pub some_number : (f : LinearForm) → f ≢ form_with (pos 0) (pos 0) (pos 0) → IsNotZero f
some_number f n h = n (λ i. form_with (h.1 i) (h.0 i) (h.2 i))

-- the divisor of two numbers, and then of it and the third, is that of the form
pub divisor_of : (f : LinearForm) (a b c s g : ℕ) → a ≡ unsigned_abs f.k_slope → b ≡ unsigned_abs f.n_slope → c ≡ unsigned_abs f.offset
    → IsGcd a b s → IsGcd s c g → IsGreatestDivisor f g
divisor_of f a b c s g p q r x y = record {
  k_slope = subst (λ t. g ∣ t) p (dvd_trans g y.0 x.0);
  n_slope = subst (λ t. g ∣ t) q (dvd_trans g y.0 x.1);
  offset = subst (λ t. g ∣ t) r y.1;
  greatest = λ d u v w. y.2 d (x.2 d (subst (λ t. d ∣ t) (sym p) u) (subst (λ t. d ∣ t) (sym q) v)) (subst (λ t. d ∣ t) (sym r) w);
}

-- it is positive and no greater than an offset can be
pub divisor_within : (f : LinearForm) (g : ℕ) → f ≢ form_with (pos 0) (pos 0) (pos 0) → IsGreatestDivisor f g
    → unsigned_abs f.k_slope ≤ 64 → unsigned_abs f.n_slope ≤ 64 → unsigned_abs f.offset ≤ 2 ^ 40 → (0 < g) × (g ≤ 2 ^ 40)
divisor_within f g n d a b c =
    divisor_bound g (unsigned_abs f.k_slope) (unsigned_abs f.n_slope) (unsigned_abs f.offset) d.k_slope d.n_slope d.offset
    (λ h. some_number f n (abs_nought f.k_slope h.0, abs_nought f.n_slope h.1, abs_nought f.offset h.2)) (omega arith) (omega arith) c

-- a divisor of a number divides it whatever its sign
pub divides_by : (d a e b : ℕ) → e ≡ d → b ≡ a → d ∣ a → e ∣ b
divides_by d a e b p q h = subst (λ t. t ∣ b) (sym p) (subst (λ t. d ∣ t) (sym q) h)

-- the factor is the divisor, with the sign of the first number
abbrev pub SignIs : LinearForm → ℤ → Type 0
SignIs f e = ((pos 0 <ℤ e) × IsPositiveFirst f) ⊎ ((e <ℤ pos 0) × (¬ IsPositiveFirst f))

-- the quotients by that factor are a primitive form
pub primitive_quotients : (f g : LinearForm) (e : ℤ) → AreQuotients f g e → f ≢ form_with (pos 0) (pos 0) (pos 0) → SignIs f e
    → IsGreatestDivisor f (unsigned_abs e) → IsPrimitive g
primitive_quotients f g e q n (inl (p, h)) d = record {
  first = stays_positive f g e q p h;
  coprime = no_divisor_left f g e q (omega (arith, ints)) d;
}
primitive_quotients f g e q n (inr (p, h)) d = record {
  first = becomes_positive f g e q (some_number f n) p h;
  coprime = no_divisor_left f g e q (omega (arith, ints)) d;
}

pub quotient_kept : (e q q' a : ℤ) {b : ℤ} → e *ℤ q ≡ b → q' ≡ q → b ≡ a → e *ℤ q' ≡ a
quotient_kept e q q' a h x y = ap (λ (z : ℤ). e *ℤ z) x ∙ h ∙ y
