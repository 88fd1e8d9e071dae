-- Forms, and products of forms, as polynomials in k over those in n, and the bounds of their magnitudes.
use Rattle.std.specs.Prelude.{◌≡◌, IsTrue, List, [], ◌∷◌, refl}
use Rattle.std.proofs.Common.{ap, ◌∙◌, subst}
use Rattle.ring_laws.specs.Meaning.{number, listed}
use Rattle.ring_laws.specs.Algebra.{Ops, Laws, Passing, within}
use Rattle.ring_laws.specs.WholeLaws.{whole_laws}
use Rattle.poly_laws.specs.Lists.{trimmed}
use Rattle.poly_laws.specs.Values.{level}
use Rattle.poly_laws.specs.Powers.{power_in, nonzero_magnitude, IsBound}
use Rattle.poly_laws.proofs.Coefficients.{meanings-trimmed, trimmed_passes}
use Rattle.poly_laws.proofs.Equal.{level_laws}
use Rattle.poly_laws.proofs.PowerBounds.{bounded_unit, bounded_product, bounded_power, bounded_self}
use Rattle.poly_laws.proofs.Squaring.{power_first, magnitude_first}
use Rattle.hypergeometric.specs.LinearForm.{LinearForm, Factor, FactorList}
use Rattle.hypergeometric.specs.Products.{form_polynomial, forms_polynomial, forms_counterpart, list_polynomial}

-- the laws of the polynomials in k and n, and their operations
abbrev pub laws : Laws (level 2)
laws = level_laws 2

abbrev pub o : Ops (Passing (level 2))
o = within (level 2) laws.closed

-- the polynomials in k and n are more than one
pub more_than_one : ¬ ((level 2).ops.unit ≡ (level 2).ops.nought)
more_than_one e = cc

pub first : (x y : Passing (level 2)) → x ≡ y → x.0 ≡ y.0
first x y e = ap (λ (t : Passing (level 2)). t.0) e

abbrev part_in : LinearForm → Passing (level 1)
part_in f =
    let numbers : List (Passing (level 0)) = (number f.offset, refl) ∷ (number f.n_slope, refl) ∷ [] in (
      listed (trimmed (level 0).ops (number f.offset ∷ number f.n_slope ∷ [])),
      trimmed_passes (level 0) whole_laws.closed numbers _ (meanings-trimmed (level 0) whole_laws.closed numbers),
    )

pub form_passes : (f : LinearForm) → IsTrue ((level 2).passes (form_polynomial f))
form_passes f =
    let parts : List (Passing (level 1)) = part_in f ∷ ((level 1).ops.whole f.k_slope, (level_laws 1).closed.whole f.k_slope) ∷ [] in
    trimmed_passes (level 1) (level_laws 1).closed parts _ (meanings-trimmed (level 1) (level_laws 1).closed parts)

-- a form as a polynomial belongs to the polynomials
abbrev pub form_in : LinearForm → Passing (level 2)
form_in f = (form_polynomial f, form_passes f)

abbrev pub factor_in : Factor → Passing (level 2)
factor_in x = power_in o (form_in x.form) x.power

abbrev pub forms_in : List Factor → Passing (level 2)
forms_in [] = o.unit
forms_in (x ∷ xs) = o.product (factor_in x) (forms_in xs)

pub forms_first : (xs : List Factor) → (forms_in xs).0 ≡ forms_polynomial xs
forms_first [] = refl
forms_first (x ∷ xs) = λ i. (level 2).ops.product (power_first (level 2) laws (form_in x.form) x.power i) (forms_first xs i)

-- the polynomial of a list belongs to the polynomials
pub list_passes : (l : FactorList) → IsTrue ((level 2).passes (list_polynomial l))
list_passes l =
    subst (λ m. IsTrue ((level 2).passes ((level 2).ops.product ((level 2).ops.whole l.scale) m))) (forms_first l.factors)
    (o.product (o.whole l.scale) (forms_in l.factors)).1

abbrev pub bound_in : Factor → Passing (level 2)
bound_in x = power_in o (nonzero_magnitude o (form_in x.form)) x.power

pub bound_first : (x : Factor) → (bound_in x).0 ≡ power_in (level 2).ops (nonzero_magnitude (level 2).ops (form_polynomial x.form)) x.power
bound_first x =
    power_first (level 2) laws (nonzero_magnitude o (form_in x.form)) x.power
    ∙ ap (λ t. power_in (level 2).ops t x.power) (magnitude_first (level 2) laws (form_in x.form))

abbrev pub counterpart_in : List Factor → Passing (level 2)
counterpart_in [] = o.unit
counterpart_in (x ∷ xs) = o.product (bound_in x) (counterpart_in xs)

pub counterpart_first : (xs : List Factor) → (counterpart_in xs).0 ≡ forms_counterpart xs
counterpart_first [] = refl
counterpart_first (x ∷ xs) = λ i. (level 2).ops.product (bound_first x i) (counterpart_first xs i)

pub factor_bounded : (x : Factor) → IsBound (level 2) (bound_in x) (factor_in x).0
factor_bounded x =
    bounded_power (level 2) laws more_than_one (nonzero_magnitude o (form_in x.form)) (form_in x.form) x.power
    (bounded_self (level 2) laws more_than_one (form_in x.form))

pub counterpart_bounded : (xs : List Factor) → IsBound (level 2) (counterpart_in xs) (forms_in xs).0
counterpart_bounded [] = bounded_unit (level 2) laws more_than_one
counterpart_bounded (x ∷ xs) = bounded_product (level 2) laws more_than_one (bound_in x) (factor_in x) (counterpart_in xs) (forms_in xs) (factor_bounded x)
    (counterpart_bounded xs)
