-- What `/` and `%` of 64 bits give of a number and a divisor of it.
use Rattle.std.specs.Prelude.{◌≡◌, ℕ, ◌%◌, ◌^◌, ◌≤◌, ℤ, pos, ◌*ℤ◌, unsigned_abs}
use Rattle.std.specs.Int.{◌∣◌, cast_signed, cast_unsigned, w64}
use Rattle.std.proofs.Common.{int_div, int_rem, FitsSigned, sym, ap, ◌∙◌, arith}
use Rattle.std.proofs.lemmas.Int.{ints, quot_is, quot-rem, unsigned_abs-mul, fits_signed_from_abs}
use Rattle.std.proofs.lemmas.Nat.Gcd.{mod-eq-zero_of_dvd}
use Rattle.std.proofs.Math.Nat.{div-le_self, dvd-mul_right}
use Rattle.std.proofs.Math.IntN.{*ℤ_comm}
use Rattle.ring_laws.specs.WholeDomain.{abs_nought}
use Rattle.ring_laws.proofs.Quotients.{abs_rem, abs_div}

abbrev pub coded_div : ℤ → ℤ → ℤ
coded_div a b = cast_signed w64 (cast_unsigned w64 (int_div (cast_signed w64 (cast_unsigned w64 a)) (cast_signed w64 (cast_unsigned w64 b))))

-- a divisor times the quotient by it is the number
pub coded_quotient : (a d : ℤ) → FitsSigned w64 a → FitsSigned w64 d → unsigned_abs a ≤ 2 ^ 40 → unsigned_abs d ∣ unsigned_abs a → d *ℤ coded_div a d ≡ a
coded_quotient a d f g small divides =
    let b : unsigned_abs (int_div a d) ≤ unsigned_abs a = omega (arith, abs_div a d, div-le_self (unsigned_abs a) (unsigned_abs d)) in
    let q : coded_div a d ≡ int_div a d = quot_is w64 a d f g (fits_signed_from_abs w64 (int_div a d) (omega (arith, b, small))) in
    let r : int_rem a d ≡ pos 0 = abs_nought (int_rem a d) (abs_rem a d ∙ mod-eq-zero_of_dvd (unsigned_abs d) divides) in
    ap (λ z. d *ℤ z) q ∙ *ℤ_comm d (int_div a d) ∙ omega (arith, ints, quot-rem a d, r)

-- where the remainder isn't 0, no multiple is the number
pub no_multiple : (s z : ℤ) (m n : ℕ) → m ≡ unsigned_abs z → n ≡ unsigned_abs s → ¬ (m % n ≡ 0) → (h : ℕ) → ¬ (s *ℤ pos h ≡ z)
no_multiple s z m n p q rest h e =
    rest ((λ i. p i % q i) ∙ ap (λ t. t % unsigned_abs s) (sym (ap unsigned_abs e) ∙ unsigned_abs-mul s (pos h))
    ∙ mod-eq-zero_of_dvd (unsigned_abs s) (dvd-mul_right (unsigned_abs s) h))
