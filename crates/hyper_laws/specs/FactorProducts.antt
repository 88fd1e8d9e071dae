-- Products of linear forms in n with their powers, as polynomials.
use Rattle.std.specs.Prelude.{ℕ, zero, suc, List, [], ◌∷◌}
use Rattle.ring_laws.specs.Meaning.{Meaning, number, listed}
use Rattle.poly_laws.specs.Lists.{trimmed}
use Rattle.poly_laws.specs.Values.{level}
use Rattle.hypergeometric.specs.LinearForm.{LinearForm, Factor}

-- n_slope * n + offset
abbrev pub form_polynomial_in_n : LinearForm → Meaning
form_polynomial_in_n f = listed (trimmed (level 0).ops (number f.offset ∷ number f.n_slope ∷ []))

-- f, so many times as a factor
abbrev pub power_of : Meaning → ℕ → Meaning
power_of f zero = (level 1).ops.unit
power_of f (suc n) = (level 1).ops.product f (power_of f n)

-- the product of the forms, each to its power
abbrev pub product_of_factors : List Factor → Meaning
product_of_factors [] = (level 1).ops.unit
product_of_factors (x ∷ xs) = (level 1).ops.product (power_of (form_polynomial_in_n x.form) x.power) (product_of_factors xs)
