-- Linear forms in n and k, factorials of whole numbers, and products of forms with their powers (A=B 4.4).
use Rattle.std.specs.Prelude.{ℕ, zero, suc, ◌*◌, ℤ, pos, negsuc, ◌+ℤ◌, ◌*ℤ◌, List, [], ◌∷◌}
use lib.IntN.{pow}
use Rattle.hypergeometric.specs.Point.{Point}
use Rattle.hypergeometric.specs.Fraction.{Fraction, of_whole, undefined_value, fraction_product, natural_power}

-- n_slope * n + k_slope * k + offset
pub record LinearForm : Type 0 where
  pub n_slope : ℤ
  pub k_slope : ℤ
  pub offset : ℤ

-- the value of a linear form at a point
abbrev pub form_value : LinearForm → Point → ℤ
form_value f p = f.n_slope *ℤ p.n +ℤ f.k_slope *ℤ p.k +ℤ f.offset

-- m! of a natural number m
abbrev pub factorial : ℕ → ℕ
factorial zero = 1
factorial (suc m) = suc m * factorial m

-- m!, not defined below 0
abbrev pub factorial_value : ℤ → Fraction
factorial_value (pos m) = of_whole (pos (factorial m))
factorial_value (negsuc m) = undefined_value

-- 1/m!, and 0 below 0
abbrev pub inverse_factorial_value : ℤ → Fraction
inverse_factorial_value (pos m) = record { top = pos 1; bottom = pos (factorial m) }
inverse_factorial_value (negsuc m) = of_whole (pos 0)

-- a form as often as its power says
pub record Factor : Type 0 where
  pub form : LinearForm
  pub power : ℕ

-- a number times a product of forms with their powers
pub record FactorList : Type 0 where
  pub scale : ℤ
  pub factors : List Factor

-- the product of f of the value of each form, as often as its power says
abbrev pub product_over : (ℤ → Fraction) → List Factor → Point → Fraction
product_over f [] p = of_whole (pos 1)
product_over f (x ∷ xs) p = fraction_product (natural_power (f (form_value x.form p)) x.power) (product_over f xs p)

-- the product of the values of the forms themselves
abbrev pub forms_value : List Factor → Point → ℤ
forms_value [] p = pos 1
forms_value (x ∷ xs) p = pow (form_value x.form p) x.power *ℤ forms_value xs p

-- the value of a factor list at a point: its scale times the values of its forms, by their powers
abbrev pub factor_list_value : FactorList → Point → ℤ
factor_list_value l p = l.scale *ℤ forms_value l.factors p
