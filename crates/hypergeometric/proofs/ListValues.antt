-- The value of a form, and of a list of factors, as a polynomial.
use Rattle.std.specs.Prelude.{◌≡◌, ℕ, zero, suc, ℤ, pos, ◌+ℤ◌, ◌*ℤ◌, List, [], ◌∷◌, refl}
use Rattle.std.proofs.Common.{ap, ◌∙◌}
use lib.IntN.{pow}
use Rattle.std.proofs.Math.IntN.{*ℤ_comm}
use Rattle.ring_solver.proofs.Read.{ring_z, reading_z}
use Rattle.ring_laws.specs.Meaning.{Meaning, number, listed}
use Rattle.ring_laws.specs.Wholes.{number_of}
use Rattle.poly_laws.specs.Lists.{trimmed}
use Rattle.poly_laws.specs.Values.{value_at, level}
use Rattle.poly_laws.specs.Powers.{power_in}
use Rattle.poly_laws.proofs.Keeps.{of_list, whole_keeps, value_at_keeps}
use Rattle.hypergeometric.specs.Point.{Point, values, values_in_n}
use Rattle.hypergeometric.specs.LinearForm.{LinearForm, Factor, FactorList, form_value, forms_value, factor_list_value}
use Rattle.hypergeometric.specs.ProperTerm.{poly_value}
use Rattle.hypergeometric.specs.Products.{form_polynomial, forms_polynomial, list_polynomial}

nested : (c s t n k : ℤ) → c +ℤ n *ℤ (s +ℤ n *ℤ pos 0) +ℤ k *ℤ (t +ℤ k *ℤ pos 0) ≡ s *ℤ n +ℤ t *ℤ k +ℤ c
nested c s t n k = ring_z (c ∷ s ∷ t ∷ n ∷ k ∷ []) (search reading_z depth 40 fits 20000) refl

-- the value of a form as a polynomial is that of the form
form_at : (f : LinearForm) (p : Point) → poly_value (form_polynomial f) p ≡ form_value f p
form_at f p =
    of_list (level 1).ops (value_at (values_in_n p)) (value_at_keeps (values_in_n p)) p.k
    (listed (trimmed (level 0).ops (number f.offset ∷ number f.n_slope ∷ [])) ∷ (level 1).ops.whole f.k_slope ∷ [])
    ∙ (λ i. of_list (level 0).ops number_of whole_keeps p.n (number f.offset ∷ number f.n_slope ∷ []) i
    +ℤ p.k *ℤ ((value_at_keeps (values_in_n p)).whole f.k_slope i +ℤ p.k *ℤ pos 0))
    ∙ nested f.offset f.n_slope f.k_slope p.n p.k

power_at : (poly : Meaning) (power : ℕ) (p : Point) → poly_value (power_in (level 2).ops poly power) p ≡ pow (poly_value poly p) power
unfolding pow lib.IntN.one
power_at poly zero p = (value_at_keeps (values p)).unit
power_at poly (suc m) p =
    (value_at_keeps (values p)).product poly (power_in (level 2).ops poly m) ∙ ap (λ z. poly_value poly p *ℤ z) (power_at poly m p)
    ∙ *ℤ_comm (poly_value poly p) (pow (poly_value poly p) m)

forms_at : (xs : List Factor) (p : Point) → poly_value (forms_polynomial xs) p ≡ forms_value xs p
forms_at [] p = (value_at_keeps (values p)).unit
forms_at (x ∷ xs) p =
    (value_at_keeps (values p)).product (power_in (level 2).ops (form_polynomial x.form) x.power) (forms_polynomial xs)
    ∙ (λ i. (power_at (form_polynomial x.form) x.power p ∙ ap (λ z. pow z x.power) (form_at x.form p)) i *ℤ forms_at xs p i)

-- the value of the polynomial is that of the list
pub list_at : (l : FactorList) (poly : Meaning) → poly ≡ list_polynomial l → (p : Point) → poly_value poly p ≡ factor_list_value l p
list_at l poly e p =
    ap (λ t. poly_value t p) e
    ∙ (value_at_keeps (values p)).product ((level 2).ops.whole l.scale) (forms_polynomial l.factors)
    ∙ (λ i. (value_at_keeps (values p)).whole l.scale i *ℤ forms_at l.factors p i)
