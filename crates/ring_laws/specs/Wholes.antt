-- The whole numbers as a ring: a meaning that is a number.
use Rattle.std.specs.Prelude.{zero, suc, ◌<◌, ◌^◌, ℤ, pos, negsuc, ◌+ℤ◌, ◌*ℤ◌, ◌≤ℤ◌, neg_ℤ, unsigned_abs, Bool, true, false}
use Rattle.ring_laws.specs.Meaning.{Meaning, number, several}
use Rattle.ring_laws.specs.Algebra.{Algebra}

-- whether a meaning is a number and not a list
abbrev pub is_number : Meaning → Bool
is_number (number z) = true
is_number (several xs) = false

-- the number of a meaning, and 0 where it is a list
abbrev pub number_of : Meaning → ℤ
number_of (number z) = z
number_of (several xs) = pos 0

-- whether a whole number is 0
abbrev pub is_zero : ℤ → Bool
is_zero (pos zero) = true
is_zero (pos (suc n)) = false
is_zero (negsuc n) = false

-- the ring of whole numbers, on the meanings that are numbers
abbrev pub whole_algebra : Algebra
whole_algebra = record {
  passes = is_number;
  ops = record {
    nought = number (pos 0);
    unit = number (pos 1);
    whole = number;
    neg = λ x. number (neg_ℤ (number_of x));
    sum = λ x y. number (number_of x +ℤ number_of y);
    product = λ x y. number (number_of x *ℤ number_of y);
    is_nought = λ x. is_zero (number_of x);
    magnitude = λ x. number (pos (unsigned_abs (number_of x)));
    Fits = λ x. unsigned_abs (number_of x) < 2 ^ 127;
    Covers = λ x y. number_of y ≤ℤ number_of x;
  };
}
