-- The products g and the chains of a normal form aren't zero where q0 isn't.
use Rattle.std.specs.Prelude.{◌≡◌, ℕ, zero, suc, ◌≤◌, pos, List, [], ◌∷◌, ◌++◌, Bool, true, false, IsFalse, refl}
use Rattle.std.specs.List.{AllByRecursion}
use Rattle.std.proofs.Common.{ap, sym, ◌∙◌, arith}
use Rattle.ring_laws.specs.Algebra.{Algebra, Passing, Laws, same_passing}
use Rattle.poly_laws.specs.PolyAlgebra.{poly_algebra}
use Rattle.poly_laws.specs.Powers.{power_in}
use Rattle.poly_laws.specs.Values.{level}
use Rattle.poly_laws.proofs.Equal.{level_laws}
use Rattle.poly_laws.proofs.ListLaws.{nought_product, product_nought}
use Rattle.division_laws.specs.Polynomials.{Polynomial}
use Rattle.division_laws.proofs.Shifts.{later_none}
use Rattle.hypergeometric.specs.LinearForm.{LinearForm, Factor, FactorList}
use Rattle.hypergeometric.specs.FormOrder.{IsFactor}
use Rattle.hypergeometric.specs.Products.{form_polynomial, list_polynomial}
use Rattle.hypergeometric.proofs.FormPolynomials.{laws, o, form_in, factor_in, forms_in, forms_first}
use Rattle.term_pieces.specs.NormalForm.{Normal, gosper_forms}
use Rattle.term_pieces.proofs.NormalValues.{g_value}
use Rattle.pole_laws.proofs.FormProducts.{in_k_ring, not_product, forms_in_k, some_gosper}
use Rattle.pole_laws.proofs.NormalPolynomials.{in_k, shift_by, list_in, same_polynomials, value_of, forms_alone, above, of_q, of_next}
use Rattle.poly_laws.proofs.PolyMagnitudes.{poly_laws}
use Rattle.pole_laws.proofs.Cancelling.{form_in_k}
use Rattle.form_rings.specs.Forms.{Forms, FormLaws}
use Rattle.key_sides.proofs.Lifts.{lift_in}
use Rattle.key_equation.specs.Polynomials.{form_over, list_over, IsNormalFor}
use Rattle.key_equation.proofs.OnlyZero.{lifted_zero}

module _ (normal : Normal) (q0 r0 : FactorList) (is : IsNormalFor normal q0 r0) where
  -- the product of the forms that the matches take from q0 isn't zero
  above_some : ¬ (above normal q0 r0 is.normal_form ≡ in_k.nought)
  above_some e =
      is.not_zero (ap (λ (t : Polynomial (level 1)). t.0)
      (of_q normal q0 r0 is.normal_form is.q_sorted ∙ ap (in_k.product (list_in normal.q)) e ∙ product_nought in_k in_k_ring (list_in normal.q)))

  of_g : list_in normal.g ≡ forms_in_k (gosper_forms normal.matches)
  of_g =
      same_polynomials (list_in normal.g) (forms_in_k (gosper_forms normal.matches))
      (λ p. value_of normal.g p ∙ g_value p normal q0 r0 is.normal_form ∙ sym (forms_alone (gosper_forms normal.matches) p))

  pub g_some : ¬ (list_in normal.g ≡ in_k.nought)
  g_some e = some_gosper normal.matches above_some (sym of_g ∙ e)

  chains_some : ¬ (list_in normal.poles ≡ in_k.nought)
  chains_some e =
      not_product (above normal q0 r0 is.normal_form) (list_in normal.g) above_some g_some
      (sym (of_next normal q0 r0 is.normal_form) ∙ ap (shift_by (pos 1)) e ∙ later_none (level 1) (level_laws 1) (pos 1))

  pub poles_some : ¬ (list_polynomial normal.poles ≡ (level 2).ops.nought)
  poles_some e = chains_some (same_passing (level 2) (list_in normal.poles) in_k.nought e)

-- what isn't zero isn't found to be
not_nought : (a : Algebra) (l : Laws a) (x : Passing a) → ¬ (x.0 ≡ a.ops.nought) → IsFalse (a.ops.is_nought x.0)
not_nought a l x some = by (a.ops.is_nought x.0) refl
  where
    by : (b : Bool) → a.ops.is_nought x.0 ≡ b → IsFalse b
    by false e = refl
    by true e = absurd (some (ap (λ (t : Passing a). t.0) ((l.ring.is_nought x).0 e)))

-- the forms of a list that isn't zero aren't zero
forms_some : (xs : List Factor) → AllByRecursion IsFactor xs → ¬ (forms_in xs ≡ o.nought)
    → AllByRecursion (λ x. ¬ (form_polynomial x.form ≡ (level 2).ops.nought)) xs
forms_some [] each some = tt
forms_some (x ∷ xs) each some = (
  (λ e. some (ap (λ t. o.product t (forms_in xs)) (factor_none x.power each.0.some e) ∙ nought_product o laws.ring (forms_in xs))),
  forms_some xs each.1 (λ e. some (ap (o.product (factor_in x)) e ∙ product_nought o laws.ring (factor_in x))),
)
  where
    factor_none : (n : ℕ) → 1 ≤ n → form_polynomial x.form ≡ (level 2).ops.nought → power_in o (form_in x.form) n ≡ o.nought
    factor_none zero b e = absurd (omega (arith, b))
    factor_none (suc n) b e =
        ap (λ t. o.product t (power_in o (form_in x.form) n)) (same_passing (level 2) (form_in x.form) o.nought e)
        ∙ nought_product o laws.ring (power_in o (form_in x.form) n)

pub each_some : (xs : FactorList) → AllByRecursion IsFactor xs.factors → ¬ (list_polynomial xs ≡ (level 2).ops.nought)
    → AllByRecursion (λ x. ¬ (form_polynomial x.form ≡ (level 2).ops.nought)) xs.factors
each_some xs each some =
    forms_some xs.factors each
    (λ e. some (ap (λ t. (level 2).ops.product ((level 2).ops.whole xs.scale) t) (sym (forms_first xs.factors))
    ∙ ap (λ (t : Passing (level 2)). t.0) (ap (o.product (o.whole xs.scale)) e ∙ product_nought o laws.ring (o.whole xs.scale))))

-- an item of a list
pub at_middle : (P : Factor → Type 0) (before after : List Factor) (x : Factor) → AllByRecursion P (before ++ x ∷ after) → P x
at_middle P [] after x h = h.0
at_middle P (y ∷ before) after x h = at_middle P before after x h.1

-- a form that isn't zero isn't zero over the ring
module _ (a : Algebra) (l : Laws a) (forms : Forms) (fl : FormLaws a forms) where
  pub form_over_some : (f : LinearForm) → ¬ (form_polynomial f ≡ (level 2).ops.nought)
      → IsFalse ((poly_algebra a).ops.is_nought (form_over a forms f))
  form_over_some f some =
      not_nought (poly_algebra a) (poly_laws a l) (lift_in a l forms fl (form_in_k f)) (λ e. some (lifted_zero a l forms fl (form_in_k f) e))

  pub list_over_some : (xs : FactorList) → ¬ (list_polynomial xs ≡ (level 2).ops.nought)
      → IsFalse ((poly_algebra a).ops.is_nought (list_over a forms xs))
  list_over_some xs some =
      not_nought (poly_algebra a) (poly_laws a l) (lift_in a l forms fl (list_in xs)) (λ e. some (lifted_zero a l forms fl (list_in xs) e))
