-- The polynomial that a product of forms is, and when it is in bounds: where the product of the magnitudes of the factors that
-- aren't zero fits. Every order of multiplying is then in bounds, since magnitudes of at least 1 only grow.
use Rattle.std.specs.Prelude.{List, [], ◌∷◌}
use Rattle.ring_laws.specs.Meaning.{Meaning, number, listed}
use Rattle.poly_laws.specs.Lists.{trimmed}
use Rattle.poly_laws.specs.Powers.{power_in, nonzero_magnitude}
use Rattle.poly_laws.specs.Values.{level}
use Rattle.hypergeometric.specs.LinearForm.{LinearForm, Factor, FactorList}

-- the form as a polynomial in k over those in n
abbrev pub form_polynomial : LinearForm → Meaning
form_polynomial f = listed (trimmed (level 1).ops (listed (trimmed (level 0).ops (number f.offset ∷ number f.n_slope ∷ []))
    ∷ (level 1).ops.whole f.k_slope ∷ []))

-- the product of the forms, by their powers
abbrev pub forms_polynomial : List Factor → Meaning
forms_polynomial [] = (level 2).ops.unit
forms_polynomial (x ∷ xs) = (level 2).ops.product (power_in (level 2).ops (form_polynomial x.form) x.power) (forms_polynomial xs)

-- the scale times the product of the forms
abbrev pub list_polynomial : FactorList → Meaning
list_polynomial l = (level 2).ops.product ((level 2).ops.whole l.scale) (forms_polynomial l.factors)

-- the same product of the magnitudes of what isn't zero
abbrev pub forms_counterpart : List Factor → Meaning
forms_counterpart [] = (level 2).ops.unit
forms_counterpart (x ∷ xs) = (level 2).ops.product (power_in (level 2).ops (nonzero_magnitude (level 2).ops (form_polynomial x.form)) x.power)
    (forms_counterpart xs)

-- the product of the scale and all forms, as one operation, is in bounds
abbrev pub ListInBounds : FactorList → Type 0
ListInBounds l = (level 2).ops.Fits ((level 2).ops.product (nonzero_magnitude (level 2).ops ((level 2).ops.whole l.scale)) (forms_counterpart l.factors))
