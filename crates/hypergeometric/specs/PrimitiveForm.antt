-- The content of a linear form, and the form without it, which is primitive.
use Rattle.std.specs.Prelude.{Bool, ◌&&◌, cond, nat_eq, ℤ, pos, unsigned_abs, int_lt}
use Rattle.std.specs.Int.RustNames.{int_div}
use Rattle.hypergeometric.specs.LinearForm.{LinearForm}
use Rattle.hypergeometric.specs.Divisors.{greatest_common_divisor, negated_where}
use Rattle.hypergeometric.specs.Forms.{form_with}

-- whether a whole number is 0
abbrev pub is_zero : ℤ → Bool
is_zero z = nat_eq (unsigned_abs z) 0

-- whether a linear form is a constant: both slopes are 0
abbrev pub is_constant_form : LinearForm → Bool
is_constant_form f = is_zero f.n_slope && is_zero f.k_slope

-- whether a linear form is a constant below 0
abbrev pub is_negative_constant : LinearForm → Bool
is_negative_constant f = is_constant_form f && int_lt f.offset (pos 0)

-- whether the first number that isn't 0, in the order k slope, n slope, offset, is negative
abbrev pub is_negative_first : LinearForm → Bool
is_negative_first f = cond (is_zero f.k_slope)
    (cond (is_zero f.n_slope) (int_lt f.offset (pos 0)) (int_lt f.n_slope (pos 0))) (int_lt f.k_slope (pos 0))

-- the greatest common divisor of the three numbers, with the sign of the first that isn't 0, in the order k slope, n slope, offset
abbrev pub content_of_form : LinearForm → ℤ
content_of_form f = negated_where (is_negative_first f)
    (pos (greatest_common_divisor (unsigned_abs f.k_slope) (greatest_common_divisor (unsigned_abs f.n_slope) (unsigned_abs f.offset))))

-- the form divided by its content; it is primitive where the form isn't 0
abbrev pub primitive_form : LinearForm → LinearForm
primitive_form f = form_with (int_div f.n_slope (content_of_form f)) (int_div f.k_slope (content_of_form f)) (int_div f.offset (content_of_form f))
