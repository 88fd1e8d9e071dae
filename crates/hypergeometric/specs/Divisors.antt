-- Greatest common divisors, lowest terms of fractions, and fractions to whole powers.
use Rattle.std.specs.Prelude.{ℕ, zero, suc, ◌+◌, ◌%◌, Bool, ◌&&◌, cond, nat_eq, max, ℤ, pos, negsuc, neg_ℤ, unsigned_abs, int_lt}
use Rattle.std.specs.Int.RustNames.{int_div}
use lib.IntN.{pow}
use Rattle.hypergeometric.specs.Fraction.{Fraction}

-- whether d, which is at least 1, divides a
abbrev pub divides : ℕ → ℕ → Bool
divides d a = nat_eq (a % d) 0

-- the greatest number from 1 up to a bound that divides both, and 0 where the bound is 0
abbrev pub greatest_divisor_up_to : ℕ → ℕ → ℕ → ℕ
greatest_divisor_up_to zero a b = 0
greatest_divisor_up_to (suc d) a b = cond (divides (suc d) a && divides (suc d) b) (suc d) (greatest_divisor_up_to d a b)

-- no divisor of two numbers that aren't both 0 is above their sum; for two zeros it is 0
abbrev pub greatest_common_divisor : ℕ → ℕ → ℕ
greatest_common_divisor a b = greatest_divisor_up_to (a + b) a b

-- z, or -z
abbrev pub negated_where : Bool → ℤ → ℤ
negated_where turned z = cond turned (neg_ℤ z) z

-- without a common divisor, and with a positive denominator
abbrev pub lowest_terms : Fraction → Fraction
lowest_terms f = record {
  top = int_div (negated_where (int_lt f.bottom (pos 0)) f.top) (pos (greatest_common_divisor (unsigned_abs f.top) (unsigned_abs f.bottom)));
  bottom = int_div (negated_where (int_lt f.bottom (pos 0)) f.bottom) (pos (greatest_common_divisor (unsigned_abs f.top) (unsigned_abs f.bottom)));
}

-- f to a whole power: numerator and denominator change places where it is negative
abbrev pub raised_fraction : Fraction → ℤ → Fraction
raised_fraction f (pos e) = record { top = pow f.top e; bottom = pow f.bottom e }
raised_fraction f (negsuc e) = record { top = pow f.bottom (suc e); bottom = pow f.top (suc e) }

-- the magnitude, and 1 for 0
abbrev pub nonzero_size : ℤ → ℕ
nonzero_size z = max 1 (unsigned_abs z)

-- the magnitude of the numerator, and 1 for 0
abbrev pub size_of_top : Fraction → ℕ
size_of_top f = nonzero_size f.top

-- the magnitude of the denominator, and 1 for 0
abbrev pub size_of_bottom : Fraction → ℕ
size_of_bottom f = nonzero_size f.bottom
