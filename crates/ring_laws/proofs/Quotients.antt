-- What `/` and `%` give of two whole numbers.
use Rattle.std.proofs.Common.{◌≡◌, ℕ, zero, suc, ◌*◌, ◌/◌, ◌%◌, ◌^◌, ◌<◌, ◌-◌, ℤ, pos, negsuc, ◌*ℤ◌, neg_ℤ, unsigned_abs, int_div, int_rem, FitsSigned, MatchOption, Option, Some, None, refl, sym, ap, ◌∙◌, arith, Ok}
use Rattle.std.proofs.lemmas.Int.{ints, to_z-of_z, quot_is, quot-rem, rem_is, unsigned_abs-mul, fits_signed_from_abs}
use Rattle.std.proofs.Math.Nat.{mul-add-mod_self_right, div-le_self}
use Rattle.std.specs.Int.{cast_signed, cast_unsigned, w128}
use Rattle.ring_laws.specs.Meaning.{number}
use Rattle.ring_laws.specs.Wholes.{whole_algebra, number_of}
use Rattle.ring_laws.specs.WholeDomain.{abs_nought}
use Rattle.ring_laws.specs.declared.wholes.Whole.{Whole}
use Rattle.ring_laws.specs.Division.{Divides, IsTimes}

abs_neg : (n : ℕ) → unsigned_abs (neg_ℤ (pos n)) ≡ n
abs_neg zero = refl
abs_neg (suc n) = refl

pub abs_rem : (a d : ℤ) → unsigned_abs (int_rem a d) ≡ unsigned_abs a % unsigned_abs d
abs_rem (pos a) d = refl
abs_rem (negsuc a) d = abs_neg (suc a % unsigned_abs d)

pub abs_div : (a d : ℤ) → unsigned_abs (int_div a d) ≡ unsigned_abs a / unsigned_abs d
abs_div (pos a) (pos b) = refl
abs_div (pos a) (negsuc b) = abs_neg (a / suc b)
abs_div (negsuc a) (pos b) = abs_neg (suc a / b)
abs_div (negsuc a) (negsuc b) = refl

rem_product : (q d : ℤ) → int_rem (q *ℤ d) d ≡ pos 0
rem_product q d = abs_nought (int_rem (q *ℤ d) d) (abs_rem (q *ℤ d) d ∙ ap (λ n. n % unsigned_abs d) (unsigned_abs-mul q d)
    ∙ mod_nought (unsigned_abs q) (unsigned_abs d))
  where
    mod_nought : (m n : ℕ) → (m * n) % n ≡ 0
    mod_nought m n = ap (λ t. t % n) (omega arith) ∙ mul-add-mod_self_right m n 0 ∙ omega arith

abbrev pub coded_rem : ℤ → ℤ → ℕ
coded_rem a b = cast_unsigned w128 (int_rem (cast_signed w128 (cast_unsigned w128 a)) (cast_signed w128 (cast_unsigned w128 b)))

abbrev pub coded_div : ℤ → ℤ → ℤ
coded_div a b = cast_signed w128 (cast_unsigned w128 (int_div (cast_signed w128 (cast_unsigned w128 a)) (cast_signed w128 (cast_unsigned w128 b))))

pub no_quotient : (a b : ℤ) → FitsSigned w128 a → FitsSigned w128 b → ¬ (coded_rem a b ≡ 0) → (q : ℤ) → ¬ (q *ℤ b ≡ a)
no_quotient a b f g n q e =
    let r : int_rem a b ≡ pos 0 = ap (λ z. int_rem z b) (sym e) ∙ rem_product q b in
    n (ap (cast_unsigned w128) ((λ i. int_rem (to_z-of_z w128 a f i) (to_z-of_z w128 b g i)) ∙ r))

div_fits : (a b : ℤ) → unsigned_abs a < 2 ^ 127 → unsigned_abs (int_div a b) < 2 ^ 127
div_fits a b h = omega (arith, abs_div a b, div-le_self (unsigned_abs a) (unsigned_abs b))

-- a quotient, or no number of any size is one
abbrev pub Quotient : ℤ → ℤ → Option Whole → Type 0
Quotient a b r = MatchOption r ((q : ℤ) → ¬ (q *ℤ b ≡ a)) (λ q. q.value *ℤ b ≡ a)

pub quotient_given : (a b : ℤ) (r : Option Whole) → FitsSigned w128 a → FitsSigned w128 b → unsigned_abs a < 2 ^ 127 → coded_rem a b ≡ 0
    → MatchOption r (coded_div a b ≡ negsuc (2 ^ 127 - 1)) (λ w. w.value ≡ coded_div a b) → Quotient a b r
quotient_given a b (Some w) f g h e m =
    let d : coded_div a b ≡ int_div a b = quot_is w128 a b f g (fits_signed_from_abs w128 (int_div a b) (div_fits a b h)) in
    let r : int_rem a b ≡ pos 0 = sym (rem_is w128 a b f g) ∙ ap (cast_signed w128) e in
    ap (λ z. z *ℤ b) (m ∙ d) ∙ omega (arith, ints, quot-rem a b, r)
quotient_given a b None f g h e m =
    let d : coded_div a b ≡ int_div a b = quot_is w128 a b f g (fits_signed_from_abs w128 (int_div a b) (div_fits a b h)) in
    absurd (omega (arith, div_fits a b h, ap unsigned_abs (sym d ∙ m)))

-- so as a division in the ring of whole numbers
pub divides_given : (a b : ℤ) (r : Option Whole) → Quotient a b r
    → Divides (λ (w : Whole). number w.value) whole_algebra (Unit {0}) (number a) (number b) (Ok r)
divides_given a b (Some w) e = ap number e
divides_given a b None none = λ quotient holds. none (number_of quotient.0) (ap number_of holds)

-- and as a whole number by which b becomes a
pub times_given : (a b : ℤ) (r : Option Whole) → Quotient a b r
    → MatchOption r ((c : ℤ) → ¬ (IsTimes whole_algebra c (number b) (number a))) (λ c. IsTimes whole_algebra c.value (number b) (number a))
times_given a b (Some w) e = ap number e
times_given a b None none = λ c holds. none c (ap number_of holds)
