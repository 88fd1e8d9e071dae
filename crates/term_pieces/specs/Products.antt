-- Products of forms that follow one another, shifts of forms, and the list of primitive forms that a product is.
use Rattle.std.specs.Prelude.{◌≡◌, ◌≢◌, ℕ, zero, suc, ◌+◌, cond, ℤ, pos, ◌+ℤ◌, ◌*ℤ◌, neg_ℤ, List, [], ◌∷◌, ◌++◌}
use Rattle.std.specs.List.{AllByRecursion}
use lib.IntN.{pow}
use Rattle.hypergeometric.specs.LinearForm.{LinearForm, Factor, FactorList}
use Rattle.hypergeometric.specs.FormOrder.{IsSorted}
use Rattle.hypergeometric.specs.FactorLists.{same_form, factor_with, power_of}
use Rattle.hypergeometric.specs.PrimitiveForm.{content_of_form, primitive_form}
use Rattle.hypergeometric.specs.Forms.{form_with}

-- a form with a number added to its offset
abbrev pub form_plus : LinearForm → ℤ → LinearForm
form_plus f c = form_with f.n_slope f.k_slope (f.offset +ℤ c)

-- the form at n + j
abbrev pub at_later_n : LinearForm → ℤ → LinearForm
at_later_n f j = form_plus f (f.n_slope *ℤ j)

-- the form at k + j
abbrev pub at_later_k : LinearForm → ℤ → LinearForm
at_later_k f j = form_plus f (f.k_slope *ℤ j)

-- (f + 1)(f + 2) .. (f + m), each to a power
abbrev pub forms_above : LinearForm → ℕ → ℕ → List Factor
forms_above f zero power = []
forms_above f (suc m) power = forms_above f m power ++ (factor_with (form_plus f (pos (suc m))) power ∷ [])

-- f (f - 1) .. (f - m + 1), each to a power
abbrev pub forms_below : LinearForm → ℕ → ℕ → List Factor
forms_below f zero power = []
forms_below f (suc m) power = forms_below f m power ++ (factor_with (form_plus f (neg_ℤ (pos m))) power ∷ [])

-- the powers that a primitive form has among forms, which count for their primitive parts
abbrev pub power_among : LinearForm → List Factor → ℕ
power_among f [] = 0
power_among f (x ∷ xs) = cond (same_form f (primitive_form x.form)) x.power 0 + power_among f xs

-- what the forms have besides their primitive parts
abbrev pub contents_of : List Factor → ℤ
contents_of [] = pos 1
contents_of (x ∷ xs) = pow (content_of_form x.form) x.power *ℤ contents_of xs

-- The list is a number times a product of forms: each form is made primitive, what it has besides goes to the scale, and the forms are
-- sorted. So number and forms determine the list.
pub record IsProductOf (l : FactorList) (number : ℤ) (forms : List Factor) : Type 0 where
  pub scale : l.scale ≡ number *ℤ contents_of forms
  pub sorted : IsSorted l.factors
  pub some : AllByRecursion (λ x. x.power ≢ 0) l.factors
  pub powers : (f : LinearForm) → power_of f l.factors ≡ power_among f forms
