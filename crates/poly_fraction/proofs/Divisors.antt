-- The greatest common divisor of a numerator and a denominator, and the quotients by it.
use Rattle.std.specs.Prelude.{◌≡◌, ◌≢◌, ℕ, zero, suc, ◌*◌, ◌<◌, ◌≤◌, ◌^◌, ℤ, pos, negsuc, ◌*ℤ◌, ◌<ℤ◌, ◌↔◌, unsigned_abs, refl, [], ◌∷◌}
use Rattle.std.specs.Int.{◌∣◌, IsGcd}
use Rattle.std.proofs.Common.{arith, ap, sym, ◌∙◌, subst}
use Rattle.std.proofs.lemmas.Int.{ints, unsigned_abs-mul}
use Rattle.std.proofs.lemmas.Nat.Gcd.{le_of_dvd, dvd_antisymm}
use Rattle.std.proofs.Math.Nat.{dvd_of_mul-dvd-mul_left, mul-dvd-mul_left, one-dvd, eq-zero_of_zero-dvd}
use Rattle.std.proofs.Math.IntN.{*ℤ_comm}
use mathlib.Core.Path.{ap₂}
use Rattle.ring_laws.specs.Meaning.{number}
use Rattle.ring_laws.specs.WholeDomain.{abs_nought}
use Rattle.ring_solver.proofs.Read.{ring_z, reading_z}
use Rattle.poly_fraction.specs.LowestTerms.{IsInLowestTerms}

-- it is positive, and no greater than a number that isn't 0
pub divisor_within : (a g : ℕ) (b : ℤ) → b ≢ pos 0 → unsigned_abs b < 2 ^ 127 → IsGcd a (unsigned_abs b) g → (0 < g) × (g < 2 ^ 127)
divisor_within a g b some small h = (positive g h.1, below (unsigned_abs b) refl h.1)
  where
    positive : (d : ℕ) → d ∣ unsigned_abs b → 0 < d
    positive zero divides = absurd (some (abs_nought b (eq-zero_of_zero-dvd divides)))
    positive (suc d) divides = omega arith

    below : (n : ℕ) → unsigned_abs b ≡ n → g ∣ unsigned_abs b → g < 2 ^ 127
    below zero e divides = absurd (some (abs_nought b e))
    below (suc n) e divides =
        let h : g ≤ unsigned_abs b = le_of_dvd (omega (arith, e)) divides in
        omega arith

-- a quotient is positive where the number and the divisor have one sign
pub positive_quotient : (q e b : ℤ) → q *ℤ e ≡ b → b ≢ pos 0 → ((pos 0 <ℤ e) ↔ (pos 0 <ℤ b)) → pos 0 <ℤ q
positive_quotient (pos zero) e b h some sign = absurd (some (omega (arith, ints, h)))
positive_quotient (pos (suc m)) e b h some sign = omega (arith, ints)
positive_quotient (negsuc m) (pos zero) b h some sign = absurd (some (omega (arith, ints, h)))
positive_quotient (negsuc m) (pos (suc n)) b h some sign = absurd (omega (arith, ints, h, sign.0 (omega (arith, ints))))
positive_quotient (negsuc m) (negsuc n) b h some sign = absurd (omega (arith, ints, h, sign.1 (omega (arith, ints, h))))

-- a quotient by a divisor is one by a number that is equal to it
pub quotient_kept : (u p d e : ℤ) {a b : ℤ} → u ≡ p → d ≡ e → p *ℤ e ≡ a → a ≡ b → u *ℤ d ≡ b
quotient_kept u p d e same kept h k = ap₂ (λ (s t : ℤ). s *ℤ t) same kept ∙ h ∙ k

-- the quotients have the cross products of the numbers
pub same_quotients : (p q e a b : ℤ) → p *ℤ e ≡ a → q *ℤ e ≡ b → p *ℤ b ≡ a *ℤ q
same_quotients p q e a b h k =
    ap (λ (z : ℤ). p *ℤ z) (sym k) ∙ ring_z (p ∷ q ∷ e ∷ []) (search reading_z depth 40 fits 20000) refl
    ∙ ap (λ (z : ℤ). z *ℤ q) h

times_divides : (q e a : ℤ) (d : ℕ) → q *ℤ e ≡ a → d ∣ unsigned_abs q → unsigned_abs e * d ∣ unsigned_abs a
times_divides q e a d h divides =
    subst (λ n. unsigned_abs e * d ∣ n) (sym (unsigned_abs-mul e q) ∙ ap unsigned_abs (*ℤ_comm e q ∙ h))
    (mul-dvd-mul_left d (unsigned_abs e) divides)

-- and no common divisor above 1
pub coprime_quotients : (p q e a b : ℤ) → p *ℤ e ≡ a → q *ℤ e ≡ b → e ≢ pos 0 → IsGcd (unsigned_abs a) (unsigned_abs b) (unsigned_abs e)
    → (d : ℕ) → d ∣ unsigned_abs p → d ∣ unsigned_abs q → d ≡ 1
coprime_quotients p q e a b h k some greatest d x y =
    let all : unsigned_abs e * d ∣ unsigned_abs e =
    greatest.2 (unsigned_abs e * d) (times_divides p e a d h x) (times_divides q e b d k y) in
    dvd_antisymm (dvd_of_mul-dvd-mul_left d (positive (unsigned_abs e) refl) (subst (λ n. unsigned_abs e * d ∣ n) (omega arith) all)) (one-dvd d)
  where
    positive : (n : ℕ) → unsigned_abs e ≡ n → 0 < unsigned_abs e
    positive zero z = absurd (some (abs_nought e z))
    positive (suc n) z = omega (arith, z)

-- so they are the lowest terms
pub lowest_quotients : (p q e a b : ℤ) → p *ℤ e ≡ a → q *ℤ e ≡ b → e ≢ pos 0 → b ≢ pos 0 → ((pos 0 <ℤ e) ↔ (pos 0 <ℤ b))
    → IsGcd (unsigned_abs a) (unsigned_abs b) (unsigned_abs e) → IsInLowestTerms (record { top = number p; bottom = number q })
lowest_quotients p q e a b h k some not_zero sign greatest = record {
  positive = positive_quotient q e b k not_zero sign;
  coprime = coprime_quotients p q e a b h k some greatest;
}
