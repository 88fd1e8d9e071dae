-- What is left where the forms of a list were divided out of a polynomial over a ring of forms, in their order: the polynomial is what is left times
-- the forms that went, the forms that stay and those that went are the list, and no form that stays divides what is left.
use Rattle.std.proofs.Common.{◌≡◌, ℕ, zero, suc, ◌+◌, ◌-◌, Bool, true, false, List, [], ◌∷◌, refl, ap, sym, ◌∙◌, arith, inl, inr}
use Rattle.std.specs.List.{AllByRecursion}
use Rattle.std.specs.Prelude.{◌≢◌, cond, ◌⊎◌, pos}
use Rattle.ring_laws.specs.Meaning.{Meaning}
use Rattle.ring_laws.specs.Algebra.{Ops, RingLaws, Algebra, Laws, same_passing}
use Rattle.poly_laws.specs.PolyAlgebra.{poly_algebra}
use Rattle.poly_laws.specs.Powers.{power_in}
use Rattle.poly_laws.proofs.PolyLaws.{poly_ring}
use Rattle.kernel_laws.specs.RowSteps.{HasQuotient}
use Rattle.division_laws.specs.Polynomials.{Polynomial}
use Rattle.division_laws.proofs.Polynomials.{polynomials}
use Rattle.hypergeometric.specs.LinearForm.{LinearForm, Factor}
use Rattle.hypergeometric.specs.FormOrder.{IsBefore, IsSorted}
use Rattle.hypergeometric.specs.FactorLists.{same_form, factor_with, power_of}
use Rattle.hypergeometric.proofs.Lookups.{same_form_found}
use Rattle.term_pieces.specs.NormalForm.{power_within}
use Rattle.term_pieces.proofs.ProductValues.{not_among}
use Rattle.pole_laws.specs.Cancelled.{of_forms}
use Rattle.pole_laws.proofs.FormProducts.{forms_in_k, joined_forms}
use Rattle.pole_laws.proofs.Cancelling.{form_in_k, no_forms}
use Rattle.form_rings.specs.Forms.{Forms, FormLaws}
use Rattle.key_sides.proofs.Lifts.{lift_in, lift_product, lift_unit}
use Rattle.key_sides.proofs.ListLifts.{list_lifted}
use Rattle.key_equation.specs.Cancelling.{staying, IsDividedOut, CancelsInOrder, all_done, next_form}
use Rattle.key_equation.specs.Polynomials.{form_over}
use Rattle.key_equation.proofs.Cancels.{poles_all}

sorted_staying : (f : LinearForm) (n : ℕ) (xs : List Factor) → AllByRecursion (λ x. IsBefore f x.form) xs → IsSorted xs → IsSorted (staying f n xs)
sorted_staying f zero xs h k = k
sorted_staying f (suc n) xs h k = (h, k)

some_staying : (f : LinearForm) (n : ℕ) (xs : List Factor) → AllByRecursion (λ x. x.power ≢ 0) xs → AllByRecursion (λ x. x.power ≢ 0) (staying f n xs)
some_staying f zero xs k = k
some_staying f (suc n) xs k = ((λ e. cc), k)

-- the power of a form that stays, where it stands before the others
power_staying : (f g : LinearForm) (n : ℕ) (xs : List Factor) → AllByRecursion (λ x. IsBefore f x.form) xs
    → power_of g (staying f n xs) ≡ cond (same_form g f) n (power_of g xs)
power_staying f g (suc n) xs h = refl
power_staying f g zero xs h = by (same_form g f) refl
  where
    by : (b : Bool) → same_form g f ≡ b → power_of g xs ≡ cond b 0 (power_of g xs)
    by true e = ap (λ t. power_of t xs) (same_form_found g f e) ∙ not_among f xs h
    by false e = refl

module _ (a : Algebra) (l : Laws a) (forms : Forms) (fl : FormLaws a forms) where
  abbrev P : Ops (Polynomial a)
  P = polynomials a l

  ring : RingLaws (polynomials a l)
  ring = poly_ring a l.closed l.ring

  -- a form over the ring, its powers, and a product of forms
  abbrev pub form_in_ring : LinearForm → Polynomial a
  form_in_ring f = lift_in a l forms fl (form_in_k f)

  abbrev power : LinearForm → ℕ → Polynomial a
  power f n = power_in P (form_in_ring f) n

  abbrev pub forms_in_ring : List Factor → Polynomial a
  forms_in_ring xs = lift_in a l forms fl (forms_in_k xs)

  power_is : (f : LinearForm) (n : ℕ) → (power f n).0 ≡ power_in (poly_algebra a).ops (form_over a forms f) n
  power_is f zero = refl
  power_is f (suc n) = ap ((poly_algebra a).ops.product (form_over a forms f)) (power_is f n)

  times_unit : (x : Polynomial a) → P.product x P.unit ≡ x
  times_unit x = ring.product_comm x P.unit ∙ ring.unit_product x

  joined : (x : Factor) (xs : List Factor) → forms_in_ring (x ∷ xs) ≡ P.product (forms_in_ring (x ∷ [])) (forms_in_ring xs)
  joined x xs = ap (lift_in a l forms fl) (joined_forms (x ∷ []) xs) ∙ lift_product a l forms fl (forms_in_k (x ∷ [])) (forms_in_k xs)

  no_forms_in_ring : forms_in_ring [] ≡ P.unit
  no_forms_in_ring = ap (lift_in a l forms fl) no_forms ∙ lift_unit a l forms fl

  -- as a list of one form
  lone_power : (f : LinearForm) (n : ℕ) → forms_in_ring (factor_with f n ∷ []) ≡ power f n
  lone_power f n =
      same_passing (poly_algebra a) (forms_in_ring (factor_with f n ∷ []))
      (P.product (P.product (P.whole (pos 1)) P.unit) (P.product (power f n) P.unit))
      (list_lifted a l forms fl (of_forms (factor_with f n ∷ []))
      ∙ ap (λ t. (poly_algebra a).ops.product ((poly_algebra a).ops.product ((poly_algebra a).ops.whole (pos 1)) (poly_algebra a).ops.unit)
      ((poly_algebra a).ops.product t (poly_algebra a).ops.unit)) (sym (power_is f n)))
      ∙ ap (λ t. P.product t (P.product (power f n) P.unit)) (times_unit (P.whole (pos 1)) ∙ ring.whole_one)
      ∙ ring.unit_product (P.product (power f n) P.unit) ∙ times_unit (power f n)

  pub record Outcome (xs : List Factor) (y : Polynomial a) (left : Meaning) (poles : List Factor) : Type 0 where
    pub value : Polynomial a
    pub value_is : left ≡ value.0
    pub gone : List Factor
    pub of_y : y ≡ P.product value (forms_in_ring gone)
    pub powers : (f : LinearForm) → power_of f poles + power_within f gone ≡ power_of f xs
    pub sorted : IsSorted poles
    pub some : AllByRecursion (λ x. x.power ≢ 0) poles
    pub none_divides : AllByRecursion (λ x. ¬ (HasQuotient (poly_algebra a) (form_over a forms x.form) left)) poles

  -- one form more
  module _ (x : Factor) (xs : List Factor) (y rest : Polynomial a) (n : ℕ)
      (d : IsDividedOut (poly_algebra a) (form_over a forms x.form) x.power y.0 rest.0 n) (left : Meaning)
      (poles : List Factor) (sorted : IsSorted (x ∷ xs)) (before : AllByRecursion (λ p. IsBefore x.form p.form) poles)
      (h : Outcome xs rest left poles) where
    product_more : y ≡ P.product h.value (forms_in_ring (factor_with x.form n ∷ h.gone))
    product_more =
        same_passing (poly_algebra a) y (P.product rest (power x.form n))
        (d.is ∙ ap ((poly_algebra a).ops.product rest.0) (sym (power_is x.form n)))
        ∙ ap (λ t. P.product t (power x.form n)) h.of_y
        ∙ ring.product_assoc h.value (forms_in_ring h.gone) (power x.form n)
        ∙ ap (P.product h.value) (ring.product_comm (forms_in_ring h.gone) (power x.form n)
        ∙ ap (λ t. P.product t (forms_in_ring h.gone)) (sym (lone_power x.form n)) ∙ sym (joined (factor_with x.form n) h.gone))

    power_more : (f : LinearForm)
        → power_of f (staying x.form (x.power - n) poles) + power_within f (factor_with x.form n ∷ h.gone) ≡ power_of f (x ∷ xs)
    power_more f =
        ap (λ t. t + power_within f (factor_with x.form n ∷ h.gone)) (power_staying x.form f (x.power - n) poles before)
        ∙ by (same_form f x.form) refl
      where
        by : (b : Bool) → same_form f x.form ≡ b
            → cond b (x.power - n) (power_of f poles) + (cond b n 0 + power_within f h.gone) ≡ cond b x.power (power_of f xs)
        by true e =
            let none : power_of f xs ≡ 0 = ap (λ t. power_of t xs) (same_form_found f x.form e) ∙ not_among x.form xs sorted.0 in
            omega (arith, none, h.powers f, d.within)
        by false e = omega (arith, h.powers f)

    -- what divides what is left divides the rest
    divides_rest : (f : LinearForm) → HasQuotient (poly_algebra a) (form_over a forms f) left → HasQuotient (poly_algebra a) (form_over a forms f) rest.0
    divides_rest f q = record {
      quotient = P.product q.quotient (forms_in_ring h.gone);
      is = ap (λ (t : Polynomial a). t.0) (regrouped ∙ ap (λ t. P.product t (forms_in_ring h.gone)) whole ∙ sym h.of_y);
    }
      where
        whole : P.product q.quotient (form_in_ring f) ≡ h.value
        whole = same_passing (poly_algebra a) (P.product q.quotient (form_in_ring f)) h.value (q.is ∙ h.value_is)

        regrouped : P.product (P.product q.quotient (forms_in_ring h.gone)) (form_in_ring f)
            ≡ P.product (P.product q.quotient (form_in_ring f)) (forms_in_ring h.gone)
        regrouped =
            ring.product_assoc q.quotient (forms_in_ring h.gone) (form_in_ring f)
            ∙ ap (P.product q.quotient) (ring.product_comm (forms_in_ring h.gone) (form_in_ring f))
            ∙ sym (ring.product_assoc q.quotient (form_in_ring f) (forms_in_ring h.gone))

    none_more : (m : ℕ) → m ≡ x.power - n
        → AllByRecursion (λ p. ¬ (HasQuotient (poly_algebra a) (form_over a forms p.form) left)) (staying x.form m poles)
    none_more zero e = h.none_divides
    none_more (suc m) e = (by d.most, h.none_divides)
      where
        by : (n ≡ x.power) ⊎ (¬ (HasQuotient (poly_algebra a) (form_over a forms x.form) rest.0))
            → ¬ (HasQuotient (poly_algebra a) (form_over a forms x.form) left)
        by (inl all) q = omega (arith, e, all)
        by (inr none) q = none (divides_rest x.form q)

    outcome_more : Outcome (x ∷ xs) y left (staying x.form (x.power - n) poles)
    outcome_more = record {
      value = h.value;
      value_is = h.value_is;
      gone = factor_with x.form n ∷ h.gone;
      of_y = product_more;
      powers = power_more;
      sorted = sorted_staying x.form (x.power - n) poles before h.sorted;
      some = some_staying x.form (x.power - n) poles h.some;
      none_divides = none_more (x.power - n) refl;
    }

  pub outcome : (xs : List Factor) (y : Polynomial a) (left : Meaning) (poles : List Factor) → IsSorted xs
      → CancelsInOrder (poly_algebra a) (form_over a forms) xs y.0 left poles → Outcome xs y left poles
  outcome _ y _ _ s all_done = record {
    value = y;
    value_is = refl;
    gone = [];
    of_y = sym (ap (P.product y) no_forms_in_ring ∙ times_unit y);
    powers = λ f. refl;
    sorted = tt;
    some = tt;
    none_divides = tt;
  }
  outcome _ y left _ s (next_form {x} {xs} {poles} rest n d more) =
      outcome_more x xs y rest n d left poles s (poles_all (poly_algebra a) (form_over a forms) (IsBefore x.form) xs rest.0 left poles more s.0)
      (outcome xs rest left poles s.1 more)
