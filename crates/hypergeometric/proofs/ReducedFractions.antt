-- Lowest terms have no common divisor and a positive denominator.
use Rattle.std.proofs.Common.{◌≡◌, ◌≢◌, ℕ, zero, suc, ◌+◌, ◌*◌, ◌<◌, refl, ap, sym, ◌∙◌, arith, subst}
use Rattle.std.proofs.lemmas.Int.{ints, unsigned_abs-mul}
use Rattle.std.proofs.lemmas.Bool.{cond_both, ltb-true}
use Rattle.std.proofs.lemmas.Nat.Gcd.{dvd_antisymm}
use Rattle.std.proofs.Math.Nat.{one-dvd, mul-dvd-mul_right, dvd_of_mul-dvd-mul_left}
use Rattle.std.specs.Prelude.{ℤ, pos, negsuc, ◌*ℤ◌, ◌<ℤ◌, neg_ℤ, unsigned_abs, int_lt, ltb}
use Rattle.std.specs.Int.{◌∣◌, IsGcd}
use lib.IntN.{*ℤ_comm}
use Rattle.hypergeometric.specs.Fraction.{Fraction, IsDefined}
use Rattle.hypergeometric.specs.ProperTerm.{IsNonzero}
use Rattle.hypergeometric.specs.TermFacts.{IsNumber, IsLowest}
use Rattle.hypergeometric.specs.Divisors.{negated_where, lowest_terms}
use Rattle.hypergeometric.proofs.Signs.{same_sign}
use Rattle.hypergeometric.proofs.GreatestDivisors.{greatest_is_gcd, greatest_positive}
use Rattle.hypergeometric.proofs.LowestTerms.{divisor_of, has_negative_bottom, top_times, bottom_times, negated_size, lowest_nonzero}

-- with a positive denominator, and no common divisor above 1
pub record HasLowestTerms (f : Fraction) : Type 0 where
  pub positive : pos 0 <ℤ f.bottom
  pub coprime : (d : ℕ) → d ∣ unsigned_abs f.top → d ∣ unsigned_abs f.bottom → d ≡ 1

-- and not 0
pub record IsReduced (f : Fraction) : Type 0 where
  pub not_zero : f.top ≢ pos 0
  pub positive : pos 0 <ℤ f.bottom
  pub coprime : (d : ℕ) → d ∣ unsigned_abs f.top → d ∣ unsigned_abs f.bottom → d ≡ 1

-- with numbers in bounds it is what a term's fractions are
pub reduced_lowest : (f : Fraction) → IsReduced f → IsNumber f.top → IsNumber f.bottom → IsLowest f
reduced_lowest f h top bottom = record { top = top; bottom = bottom; not_zero = h.not_zero; positive = h.positive; coprime = h.coprime }

pub reduced_nonzero : (f : Fraction) → IsReduced f → IsNonzero f
reduced_nonzero f h = record { top = h.not_zero; bottom = λ z. omega (arith, ints, z, h.positive) }

negated_positive : (b : ℤ) → b ≢ pos 0 → pos 0 <ℤ negated_where (int_lt b (pos 0)) b
negated_positive (pos zero) n = absurd (n refl)
negated_positive (pos (suc m)) n =
    cond_both (ltb (suc m) 0) (neg_ℤ (pos (suc m))) (pos (suc m)) (λ (z : ℤ). pos 0 <ℤ z) (λ e. absurd (omega (arith, ltb-true (suc m) 0 e)))
    (λ e. omega (arith, ints))
negated_positive (negsuc m) n = omega (arith, ints)

some_size : (z : ℤ) (m : ℕ) → z ≢ pos 0 → 0 < m + unsigned_abs z
some_size (pos zero) m n = absurd (n refl)
some_size (pos (suc a)) m n = omega arith
some_size (negsuc a) m n = omega arith

module _ (f : Fraction) (defined : IsDefined f) where
  divisor_positive : 0 < divisor_of f
  divisor_positive = greatest_positive (unsigned_abs f.top) (unsigned_abs f.bottom) (some_size f.bottom (unsigned_abs f.top) defined)

  divisor_is : IsGcd (unsigned_abs f.top) (unsigned_abs f.bottom) (divisor_of f)
  divisor_is = greatest_is_gcd (unsigned_abs f.top) (unsigned_abs f.bottom)

  -- the magnitude of a quotient by the divisor
  times_size : (q z t : ℤ) → q *ℤ pos (divisor_of f) ≡ z → unsigned_abs z ≡ unsigned_abs t → unsigned_abs q * divisor_of f ≡ unsigned_abs t
  times_size q z t e s = sym (unsigned_abs-mul q (pos (divisor_of f))) ∙ ap unsigned_abs e ∙ s

  no_common : (d : ℕ) → d ∣ unsigned_abs (lowest_terms f).top → d ∣ unsigned_abs (lowest_terms f).bottom → d ≡ 1
  no_common d p q =
      let g : ℕ = divisor_of f in
      let top : d * g ∣ unsigned_abs f.top = subst (λ m. d * g ∣ m)
      (times_size (lowest_terms f).top (negated_where (has_negative_bottom f) f.top) f.top (top_times f) (negated_size (has_negative_bottom f) f.top))
      (mul-dvd-mul_right d p g) in
      let bottom : d * g ∣ unsigned_abs f.bottom = subst (λ m. d * g ∣ m)
      (times_size (lowest_terms f).bottom (negated_where (has_negative_bottom f) f.bottom) f.bottom (bottom_times f) (negated_size (has_negative_bottom f) f.bottom))
      (mul-dvd-mul_right d q g) in
      let all : d * g ∣ g = divisor_is.2 (d * g) top bottom in
      let left : d * g ≡ g * d = omega arith in
      let right : g ≡ g * 1 = omega arith in
      dvd_antisymm (dvd_of_mul-dvd-mul_left d divisor_positive (subst (λ m. g * d ∣ m) right (subst (λ m. m ∣ g) left all))) (one-dvd d)

  pub lowest_has_terms : HasLowestTerms (lowest_terms f)
  lowest_has_terms = record {
    positive = same_sign (pos (divisor_of f)) (lowest_terms f).bottom (omega (arith, ints, divisor_positive))
        (subst (λ (z : ℤ). pos 0 <ℤ z) (sym (*ℤ_comm (pos (divisor_of f)) (lowest_terms f).bottom ∙ bottom_times f))
        (negated_positive f.bottom defined));
    coprime = no_common;
  }

pub lowest_reduced : (f : Fraction) → IsNonzero f → IsReduced (lowest_terms f)
lowest_reduced f h =
    let terms = lowest_has_terms f h.bottom in
    record { not_zero = (lowest_nonzero f h).top; positive = terms.positive; coprime = terms.coprime }
