-- A product of forms, factor by factor: what is reached after some of them, and where a step is in bounds.
use Rattle.std.specs.Prelude.{◌≡◌, ℕ, zero, suc, IsTrue, List, [], ◌∷◌, drop, length, slice_get, Some, Result, Ok, Err, IfErr, ◌≤◌, refl}
use Rattle.std.proofs.Common.{ap, sym, ◌∙◌, subst, arith, IsErrAnd}
use Rattle.ring_laws.specs.Meaning.{Meaning}
use Rattle.ring_laws.specs.Algebra.{Passing}
use Rattle.ring_laws.specs.Answer.{OnFault, fault_weaker}
use Rattle.ring_laws.specs.declared.faults.RingFault.{RingFault}
use Rattle.poly_laws.specs.Values.{level}
use Rattle.poly_laws.specs.Powers.{power_in, nonzero_magnitude, IsBound}
use Rattle.poly_laws.proofs.PowerBounds.{bounded_product, bounded_self, part_fits}
use Rattle.poly_laws.proofs.Powers.{product_unit}
use Rattle.poly_laws.proofs.Squaring.{power_first, magnitude_first}
use Rattle.hypergeometric.specs.LinearForm.{Factor, FactorList}
use Rattle.hypergeometric.specs.Products.{form_polynomial, forms_polynomial, list_polynomial, forms_counterpart, ListInBounds}
use Rattle.hypergeometric.proofs.FormPolynomials.{laws, o, first, more_than_one, form_in, factor_in, forms_in, forms_first, bound_in, bound_first, counterpart_in, counterpart_first, factor_bounded, counterpart_bounded}

-- m times the forms that are left is the whole product, and a bound of m times their counterpart is the whole counterpart
pub record ListReached (l : FactorList) (m : Meaning) (left : List Factor) : Type 0 where
  pub passes : IsTrue ((level 2).passes m)
  pub product : (level 2).ops.product m (forms_polynomial left) ≡ list_polynomial l
  pub bound : Passing (level 2)
  pub bounds : IsBound (level 2) bound m
  pub counterpart : (level 2).ops.product bound.0 (forms_counterpart left)
      ≡ (level 2).ops.product (nonzero_magnitude (level 2).ops ((level 2).ops.whole l.scale)) (forms_counterpart l.factors)

pub list_start : (l : FactorList) (m : Meaning) → m ≡ (level 2).ops.whole l.scale → ListReached l m l.factors
list_start l m e = subst (λ t. ListReached l t l.factors) (sym e) (record {
  passes = laws.closed.whole l.scale;
  product = refl;
  bound = nonzero_magnitude o (o.whole l.scale);
  bounds = bounded_self (level 2) laws more_than_one (o.whole l.scale);
  counterpart = ap (λ t. (level 2).ops.product t (forms_counterpart l.factors)) (magnitude_first (level 2) laws (o.whole l.scale));
})

-- the items from an index on are the item there and those after it
pub from_index : {A : Type 0} (xs : List A) (i : ℕ) (x : A) → slice_get xs i ≡ Some x → drop i xs ≡ x ∷ drop (suc i) xs
from_index [] i x e = cc
from_index (y ∷ ys) zero x e = cc
from_index (y ∷ ys) (suc i) x e = from_index ys i x e

module _ (l : FactorList) (m : Meaning) (left : List Factor) (x : Factor) (rest : List Factor) (here : left ≡ x ∷ rest) (r : ListReached l m left) where
  abbrev now : Passing (level 2)
  now = (m, r.passes)

  -- one more factor
  pub list_step : (m' : Meaning) → m' ≡ (level 2).ops.product m (power_in (level 2).ops (form_polynomial x.form) x.power) → ListReached l m' rest
  list_step m' e =
      let f : (o.product now (factor_in x)).0 ≡ m' = ap ((level 2).ops.product m) (power_first (level 2) laws (form_in x.form) x.power) ∙ sym e in
      subst (λ t. ListReached l t rest) f (record {
        passes = (o.product now (factor_in x)).1;
        product =
            ap ((level 2).ops.product (o.product now (factor_in x)).0) (sym (forms_first rest))
            ∙ first (o.product (o.product now (factor_in x)) (forms_in rest)) (o.product now (forms_in (x ∷ rest)))
            (laws.ring.product_assoc now (factor_in x) (forms_in rest))
            ∙ ap ((level 2).ops.product m) (forms_first (x ∷ rest) ∙ sym (ap forms_polynomial here)) ∙ r.product;
        bound = o.product r.bound (bound_in x);
        bounds = bounded_product (level 2) laws more_than_one r.bound now (bound_in x) (factor_in x) r.bounds (factor_bounded x);
        counterpart =
            ap ((level 2).ops.product (o.product r.bound (bound_in x)).0) (sym (counterpart_first rest))
            ∙ first (o.product (o.product r.bound (bound_in x)) (counterpart_in rest)) (o.product r.bound (counterpart_in (x ∷ rest)))
            (laws.ring.product_assoc r.bound (bound_in x) (counterpart_in rest))
            ∙ ap ((level 2).ops.product r.bound.0) (counterpart_first (x ∷ rest) ∙ sym (ap forms_counterpart here))
            ∙ r.counterpart;
      })

  -- a factor that is refused shows that the whole is out of bounds
  pub list_fault : (fault : RingFault) → OnFault ((b : Passing (level 2)) → IsBound (level 2) b m → ¬ (level 2).ops.Fits ((level 2).ops.product b.0
      (power_in (level 2).ops (nonzero_magnitude (level 2).ops (form_polynomial x.form)) x.power))) fault → OnFault (¬ ListInBounds l) fault
  list_fault fault h =
      fault_weaker fault
      (λ out fits.
      let whole : (level 2).ops.Fits (o.product r.bound (counterpart_in (x ∷ rest))).0 = subst (level 2).ops.Fits (sym (ap ((level 2).ops.product r.bound.0)
      (counterpart_first (x ∷ rest) ∙ sym (ap forms_counterpart here)) ∙ r.counterpart)) fits in
      let parted : o.Fits (o.product (o.product r.bound (bound_in x)) (counterpart_in rest)) =
      subst o.Fits (sym (laws.ring.product_assoc r.bound (bound_in x) (counterpart_in rest))) whole in
      out r.bound r.bounds (subst (λ t. (level 2).ops.Fits ((level 2).ops.product r.bound.0 t)) (bound_first x)
      (part_fits (level 2) laws more_than_one (o.product r.bound (bound_in x)) (o.product now (factor_in x)) (counterpart_in rest) (forms_in rest)
      (bounded_product (level 2) laws more_than_one r.bound now (bound_in x) (factor_in x) r.bounds (factor_bounded x)) (counterpart_bounded rest) parted)))
      h

-- past the last factor, the whole is reached
pub list_end : (l : FactorList) (m : Meaning) (left : List Factor) → left ≡ [] → ListReached l m left → m ≡ list_polynomial l
list_end l m left e r =
    sym (first (o.product (m, r.passes) o.unit) (m, r.passes) (product_unit o laws.ring (m, r.passes)))
    ∙ ap ((level 2).ops.product m) (sym (ap forms_polynomial e)) ∙ r.product

-- nothing is left past the end
pub all_dropped : {A : Type 0} (xs : List A) (i : ℕ) → length xs ≤ i → drop i xs ≡ []
all_dropped [] zero h = refl
all_dropped [] (suc i) h = refl
all_dropped (x ∷ xs) zero h = absurd (omega arith)
all_dropped (x ∷ xs) (suc i) h = all_dropped xs i (omega arith)

-- a fault that is passed on
pub fault_list : {T : Type 0} (OutOfBounds : Type 0) (r : Result T RingFault) (fault : RingFault) → IsErrAnd r (λ e. e ≡ fault) → OnFault OutOfBounds fault
    → IfErr r (OnFault OutOfBounds)
fault_list OutOfBounds (Ok x) fault e h = absurd e
fault_list OutOfBounds (Err y) fault e h = subst (OnFault OutOfBounds) (sym e) h
