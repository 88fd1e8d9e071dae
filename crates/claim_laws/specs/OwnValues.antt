-- The value of a term as a function that is defined exactly where the term is: the value of its fields, times x!/x! for each form of guard.
use Rattle.std.specs.Prelude.{ℤ}
use Rattle.hypergeometric.specs.Point.{Point}
use Rattle.hypergeometric.specs.Fraction.{Fraction, fraction_product}
use Rattle.hypergeometric.specs.LinearForm.{factorial_value, inverse_factorial_value, product_over}
use Rattle.hypergeometric.specs.ProperTerm.{ProperTerm, proper_value}

-- x!/x!, which is 1, and not defined below 0
abbrev pub guard_value : ℤ → Fraction
guard_value z = fraction_product (factorial_value z) (inverse_factorial_value z)

-- the value of the fields, times x!/x! for each form of guard
abbrev pub own_value : ProperTerm → Point → Fraction
own_value f p = fraction_product (proper_value f p) (product_over guard_value f.guard p)
