-- Cancelling the poles one form after another.
use Rattle.std.specs.Prelude.{◌≡◌, ℤ, pos, List, [], ◌∷◌, refl}
use Rattle.std.proofs.Common.{ap, sym, ◌∙◌, arith}
use Rattle.ring_laws.specs.Algebra.{same_passing}
use Rattle.poly_laws.specs.Values.{level}
use Rattle.division_laws.specs.Polynomials.{Polynomial}
use Rattle.hypergeometric.specs.LinearForm.{LinearForm, Factor, FactorList}
use Rattle.hypergeometric.specs.FactorLists.{factor_with}
use Rattle.hypergeometric.specs.Products.{form_polynomial}
use Rattle.hypergeometric.proofs.FormPolynomials.{form_passes}
use Rattle.term_pieces.specs.Products.{IsProductOf}
use Rattle.term_pieces.specs.NormalForm.{IsWithout}
use Rattle.term_pieces.proofs.SamePowers.{power_joined}
use Rattle.pole_laws.specs.Cancelled.{IsCancelled}
use Rattle.pole_laws.proofs.FormProducts.{in_k_ring, forms_in_k, joined_forms}
use Rattle.pole_laws.proofs.NormalPolynomials.{in_k}

abbrev pub form_in_k : LinearForm → Polynomial (level 1)
form_in_k f = (form_polynomial f, form_passes f)

times_unit : (x : Polynomial (level 1)) → in_k.product x in_k.unit ≡ x
times_unit x = in_k_ring.product_comm x in_k.unit ∙ in_k_ring.unit_product x

pub no_forms : forms_in_k [] ≡ in_k.unit
no_forms =
    same_passing (level 2) (forms_in_k []) (in_k.product (in_k.whole (pos 1)) in_k.unit) refl
    ∙ times_unit (in_k.whole (pos 1)) ∙ in_k_ring.whole_one

pub lone_form : (f : LinearForm) → forms_in_k (factor_with f 1 ∷ []) ≡ form_in_k f
lone_form f =
    same_passing (level 2) (forms_in_k (factor_with f 1 ∷ []))
    (in_k.product (in_k.whole (pos 1)) (in_k.product (in_k.product (form_in_k f) in_k.unit) in_k.unit)) refl
    ∙ ap (λ t. in_k.product t (in_k.product (in_k.product (form_in_k f) in_k.unit) in_k.unit)) in_k_ring.whole_one
    ∙ in_k_ring.unit_product (in_k.product (in_k.product (form_in_k f) in_k.unit) in_k.unit)
    ∙ times_unit (in_k.product (form_in_k f) in_k.unit) ∙ times_unit (form_in_k f)

-- nothing is cancelled yet
pub cancel_none : (chains : FactorList) (number : ℤ) (forms : List Factor) → IsProductOf chains number forms → (y : Polynomial (level 1))
    → IsCancelled chains chains y.0 y.0 []
cancel_none chains number forms is y = record {
  of_poles = record { scale = refl; sorted = is.sorted; some = is.some; powers = λ f. omega arith };
  of_y = ap (λ (t : Polynomial (level 1)). t.0) (sym (ap (in_k.product y) no_forms ∙ times_unit y));
}

-- one form more: it divides what is left of Y, and its power among the poles is one less
pub cancel_one : (chains poles fewer : FactorList) (y left quotient : Polynomial (level 1)) (gone : List Factor) (f : LinearForm)
    → IsCancelled chains poles y.0 left.0 gone → left.0 ≡ (level 2).ops.product quotient.0 (form_polynomial f)
    → IsWithout fewer poles (factor_with f 1 ∷ []) → IsCancelled chains fewer y.0 quotient.0 (factor_with f 1 ∷ gone)
cancel_one chains poles fewer y left quotient gone f cancelled divides one = record {
  of_poles = record {
    scale = one.scale ∙ cancelled.of_poles.scale;
    sorted = one.sorted;
    some = one.some;
    powers = λ g. omega (arith, one.powers g, cancelled.of_poles.powers g, power_joined g (factor_with f 1 ∷ []) gone);
  };
  of_y =
      ap (λ (t : Polynomial (level 1)). t.0)
      (same_passing (level 2) y (in_k.product left (forms_in_k gone)) cancelled.of_y
      ∙ ap (λ t. in_k.product t (forms_in_k gone)) (same_passing (level 2) left (in_k.product quotient (form_in_k f)) divides)
      ∙ in_k_ring.product_assoc quotient (form_in_k f) (forms_in_k gone)
      ∙ ap (in_k.product quotient) (ap (λ t. in_k.product t (forms_in_k gone)) (sym (lone_form f))
      ∙ sym (joined_forms (factor_with f 1 ∷ []) gone)));
}
