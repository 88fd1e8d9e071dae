-- Why a form has one factor and one primitive form: the magnitude of the factor is the greatest common divisor, and the first
-- number that isn't 0 tells its sign.
use Rattle.std.specs.Prelude.{◌≡◌, ◌≢◌, ℕ, zero, suc, ◌*◌, ◌/◌, ◌%◌, ◌<◌, ℤ, pos, negsuc, ◌*ℤ◌, ◌<ℤ◌, unsigned_abs, refl}
use Rattle.std.specs.Int.{◌∣◌, IsGcd}
use Rattle.std.proofs.Common.{arith, ap, sym, ◌∙◌, subst, inl, inr}
use Rattle.std.proofs.lemmas.Int.{ints, unsigned_abs-mul}
use Rattle.std.proofs.lemmas.Nat.Gcd.{dvd_antisymm, dvd_trans, IsGcd-from_zero, IsGcd-from_mod}
use Rattle.std.proofs.Math.Nat.{dvd-mul_right, dvd_of_mul-dvd-mul_left, mod-lt, mul-one, mul-div_cancel', eq_of_mul-eq-mul_left}
use Rattle.std.proofs.Math.IntN.{*ℤ_comm, zero-*ℤ}
use Rattle.hypergeometric.specs.LinearForm.{LinearForm}
use Rattle.hypergeometric.specs.FormOrder.{IsPositiveFirst, IsPrimitive}
use Rattle.hypergeometric.specs.Forms.{form_with, multiple}
use Rattle.hypergeometric.proofs.PrimitiveForms.{AreQuotients, IsNotZero, some_number}
use Rattle.hypergeometric.proofs.FractionLaws.{cancel_factor}

-- Euclid's algorithm, with at most `fuel` steps
greatest_in : (fuel a b : ℕ) → b < fuel → (g : ℕ) × IsGcd a b g
greatest_in zero a b p = absurd (omega (arith, p))
greatest_in (suc fuel) a zero p = (a, IsGcd-from_zero a 0 refl)
greatest_in (suc fuel) a (suc b) p =
    let less : a % suc b < suc b = mod-lt a (omega arith) in
    let rest = greatest_in fuel (suc b) (a % suc b) (omega (arith, p, less)) in
    (rest.0, IsGcd-from_mod a (suc b) rest.0 rest.1)

greatest_of : (a b : ℕ) → (g : ℕ) × IsGcd a b g
greatest_of a b = greatest_in (suc b) a b (omega arith)

-- what divides the multiples of numbers with no common divisor above 1 divides the factor
divides_factor : (m a b c : ℕ) → 0 < m → ((d : ℕ) → d ∣ a → d ∣ b → d ∣ c → d ≡ 1)
    → (x : ℕ) → x ∣ m * a → x ∣ m * b → x ∣ m * c → x ∣ m
divides_factor m a b c some coprime x p q r =
    let s = greatest_of (m * a) (m * b) in
    let g = greatest_of s.0 (m * c) in
    let whole : m ∣ g.0 = g.1.2 m (s.1.2 m (dvd-mul_right m a) (dvd-mul_right m b)) (dvd-mul_right m c) in
    let t = g.0 / m in
    let split : m * t ≡ g.0 = mul-div_cancel' m whole in
    let lower : (y : ℕ) → g.0 ∣ m * y → t ∣ y = λ y h. dvd_of_mul-dvd-mul_left t some (subst (λ z. z ∣ m * y) (sym split) h) in
    let one : t ≡ 1 = coprime t (lower a (dvd_trans g.0 g.1.0 s.1.0)) (lower b (dvd_trans g.0 g.1.0 s.1.1)) (lower c g.1.1) in
    subst (λ z. x ∣ z) (sym split ∙ ap (λ z. m * z) one ∙ mul-one m) (g.1.2 x (s.1.2 x p q) r)

shared : (e c a b : ℤ) → e *ℤ a ≡ c *ℤ b → unsigned_abs e ∣ unsigned_abs c * unsigned_abs b
shared e c a b h =
    subst (λ z. unsigned_abs e ∣ z) (sym (unsigned_abs-mul e a) ∙ ap unsigned_abs h ∙ unsigned_abs-mul c b) (dvd-mul_right (unsigned_abs e) (unsigned_abs a))

cancel_right : (e c a b : ℤ) → pos 0 <ℤ a → a ≡ b → e *ℤ a ≡ c *ℤ b → e ≡ c
cancel_right e c a b positive same h =
    cancel_factor a e c (λ z. omega (arith, ints, positive, z)) (*ℤ_comm a e ∙ h ∙ *ℤ_comm c b ∙ ap (λ z. z *ℤ c) (sym same))

same_magnitude : (e c a b : ℤ) → 0 < unsigned_abs e → unsigned_abs e ≡ unsigned_abs c → e *ℤ a ≡ c *ℤ b → unsigned_abs a ≡ unsigned_abs b
same_magnitude e c a b some same h =
    eq_of_mul-eq-mul_left (unsigned_abs e) some (unsigned_abs a) (unsigned_abs b)
    (sym (unsigned_abs-mul e a) ∙ ap unsigned_abs h ∙ unsigned_abs-mul c b ∙ ap (λ z. z * unsigned_abs b) (sym same))

-- two primitive forms with multiples that are one form, not zero
module _ (f p g : LinearForm) (e c : ℤ) (q : AreQuotients f p e) (r : AreQuotients f g c) (some : IsNotZero f)
    (first : IsPrimitive p) (second : IsPrimitive g)
  where
    some_factor : (h : LinearForm) (d : ℤ) → AreQuotients f h d → 0 < unsigned_abs d
    some_factor h (pos zero) t = absurd (some (nothing h.k_slope t.k_slope, nothing h.n_slope t.n_slope, nothing h.offset t.offset))
      where
        nothing : (a : ℤ) {b : ℤ} → pos 0 *ℤ a ≡ b → b ≡ pos 0
        nothing a e = sym e ∙ zero-*ℤ a
    some_factor h (pos (suc d)) t = omega arith
    some_factor h (negsuc d) t = omega arith

    same_size : unsigned_abs e ≡ unsigned_abs c
    same_size = dvd_antisymm
        (divides_factor (unsigned_abs c) (unsigned_abs g.k_slope) (unsigned_abs g.n_slope) (unsigned_abs g.offset) (some_factor g c r) second.coprime
        (unsigned_abs e) (shared e c p.k_slope g.k_slope (q.k_slope ∙ sym r.k_slope)) (shared e c p.n_slope g.n_slope (q.n_slope ∙ sym r.n_slope))
        (shared e c p.offset g.offset (q.offset ∙ sym r.offset)))
        (divides_factor (unsigned_abs e) (unsigned_abs p.k_slope) (unsigned_abs p.n_slope) (unsigned_abs p.offset) (some_factor p e q) first.coprime
        (unsigned_abs c) (shared c e g.k_slope p.k_slope (r.k_slope ∙ sym q.k_slope)) (shared c e g.n_slope p.n_slope (r.n_slope ∙ sym q.n_slope))
        (shared c e g.offset p.offset (r.offset ∙ sym q.offset)))

    k : unsigned_abs p.k_slope ≡ unsigned_abs g.k_slope
    k = same_magnitude e c p.k_slope g.k_slope (some_factor p e q) same_size (q.k_slope ∙ sym r.k_slope)

    n : unsigned_abs p.n_slope ≡ unsigned_abs g.n_slope
    n = same_magnitude e c p.n_slope g.n_slope (some_factor p e q) same_size (q.n_slope ∙ sym r.n_slope)

    o : unsigned_abs p.offset ≡ unsigned_abs g.offset
    o = same_magnitude e c p.offset g.offset (some_factor p e q) same_size (q.offset ∙ sym r.offset)

    same_factor : IsPositiveFirst p → IsPositiveFirst g → e ≡ c
    same_factor (inl a) (inl b) = cancel_right e c p.k_slope g.k_slope a (omega (arith, ints, k, a, b)) (q.k_slope ∙ sym r.k_slope)
    same_factor (inl a) (inr (inl (z, b))) = absurd (omega (arith, ints, k, a, z))
    same_factor (inl a) (inr (inr (z, y, b))) = absurd (omega (arith, ints, k, a, z))
    same_factor (inr (inl (z, a))) (inl b) = absurd (omega (arith, ints, k, b, z))
    same_factor (inr (inl (z, a))) (inr (inl (y, b))) =
        cancel_right e c p.n_slope g.n_slope a (omega (arith, ints, n, a, b)) (q.n_slope ∙ sym r.n_slope)
    same_factor (inr (inl (z, a))) (inr (inr (y, x, b))) = absurd (omega (arith, ints, n, a, x))
    same_factor (inr (inr (z, y, a))) (inl b) = absurd (omega (arith, ints, k, b, z))
    same_factor (inr (inr (z, y, a))) (inr (inl (x, b))) = absurd (omega (arith, ints, n, b, y))
    same_factor (inr (inr (z, y, a))) (inr (inr (x, w, b))) =
        cancel_right e c p.offset g.offset a (omega (arith, ints, o, a, b)) (q.offset ∙ sym r.offset)

    one_primitive : (e ≡ c) × (p ≡ g)
    one_primitive =
        let same : e ≡ c = same_factor first.first second.first in
        let some_e : e ≢ pos 0 = λ z. omega (arith, ints, some_factor p e q, z) in
        let number : (a b : ℤ) → e *ℤ a ≡ c *ℤ b → a ≡ b = λ a b h. cancel_factor e a b some_e (h ∙ ap (λ z. z *ℤ b) (sym same)) in (
          same,
          λ i. form_with (number p.n_slope g.n_slope (q.n_slope ∙ sym r.n_slope) i) (number p.k_slope g.k_slope (q.k_slope ∙ sym r.k_slope) i)
              (number p.offset g.offset (q.offset ∙ sym r.offset) i),
        )

-- the factor and the primitive form whose product is a form that isn't zero are the only ones
pub only_primitive : (e c : ℤ) (p g : LinearForm) → multiple e p ≡ multiple c g → multiple e p ≢ form_with (pos 0) (pos 0) (pos 0)
    → IsPrimitive p → IsPrimitive g → (e ≡ c) × (p ≡ g)
only_primitive e c p g h some first second =
    one_primitive (multiple e p) p g e c (record { k_slope = refl; n_slope = refl; offset = refl })
    (record { k_slope = λ i. (sym h i).k_slope; n_slope = λ i. (sym h i).n_slope; offset = λ i. (sym h i).offset })
    (some_number (multiple e p) some) first second
