-- What is left where the forms of a list were divided out of a polynomial in their order: the polynomial is what is left times the forms that went,
-- the forms that stay and those that went are the list, and no form that stays divides what is left.
use Rattle.std.proofs.Common.{◌≡◌, ℕ, zero, suc, ◌+◌, ◌-◌, Bool, true, false, List, [], ◌∷◌, refl, ap, sym, ◌∙◌, arith, inl, inr}
use Rattle.std.specs.List.{AllByRecursion}
use Rattle.std.specs.Prelude.{◌≢◌, cond, ◌⊎◌}
use Rattle.ring_laws.specs.Meaning.{Meaning}
use Rattle.ring_laws.specs.Algebra.{same_passing}
use Rattle.poly_laws.specs.Values.{level}
use Rattle.division_laws.specs.Polynomials.{Polynomial}
use Rattle.hypergeometric.specs.LinearForm.{LinearForm, Factor}
use Rattle.hypergeometric.specs.FormOrder.{IsBefore, IsSorted}
use Rattle.hypergeometric.specs.FactorLists.{same_form, factor_with, power_of}
use Rattle.hypergeometric.proofs.Lookups.{same_form_found}
use Rattle.term_pieces.specs.NormalForm.{power_within}
use Rattle.term_pieces.proofs.ProductValues.{not_among}
use Rattle.pole_laws.proofs.NormalPolynomials.{in_k}
use Rattle.pole_laws.proofs.FormProducts.{in_k_ring, forms_in_k, joined_forms}
use Rattle.pole_laws.proofs.Cancelling.{form_in_k, no_forms}
use Rattle.right_claims.specs.Cancelling.{Divides, staying, IsDividedOut, CancelsInOrder, all_done, next_form}
use Rattle.right_claims.proofs.FormPowers.{power, power_is, lone_power}

-- what holds of each form of the list holds of those that stay
module _ (P : LinearForm → Type 0) where
  stays_all : (f : LinearForm) (n : ℕ) (xs : List Factor) → P f → AllByRecursion (λ x. P x.form) xs → AllByRecursion (λ x. P x.form) (staying f n xs)
  stays_all f zero xs h k = k
  stays_all f (suc n) xs h k = (h, k)

  poles_all : (xs : List Factor) (y left : Meaning) (poles : List Factor) → CancelsInOrder xs y left poles → AllByRecursion (λ x. P x.form) xs
      → AllByRecursion (λ x. P x.form) poles
  poles_all _ _ _ _ all_done h = tt
  poles_all _ y left _ (next_form {x} {xs} {poles} rest n d more) h =
      stays_all x.form (x.power - n) poles h.0 (poles_all xs rest.0 left poles more h.1)

sorted_staying : (f : LinearForm) (n : ℕ) (xs : List Factor) → AllByRecursion (λ x. IsBefore f x.form) xs → IsSorted xs → IsSorted (staying f n xs)
sorted_staying f zero xs h k = k
sorted_staying f (suc n) xs h k = (h, k)

some_staying : (f : LinearForm) (n : ℕ) (xs : List Factor) → AllByRecursion (λ x. x.power ≢ 0) xs → AllByRecursion (λ x. x.power ≢ 0) (staying f n xs)
some_staying f zero xs k = k
some_staying f (suc n) xs k = ((λ e. cc), k)

-- the power of a form that stays, where it stands before the others
power_staying : (f g : LinearForm) (n : ℕ) (xs : List Factor) → AllByRecursion (λ x. IsBefore f x.form) xs
    → power_of g (staying f n xs) ≡ cond (same_form g f) n (power_of g xs)
power_staying f g (suc n) xs h = refl
power_staying f g zero xs h = by (same_form g f) refl
  where
    by : (b : Bool) → same_form g f ≡ b → power_of g xs ≡ cond b 0 (power_of g xs)
    by true e = ap (λ t. power_of t xs) (same_form_found g f e) ∙ not_among f xs h
    by false e = refl

pub record Outcome (xs : List Factor) (y : Polynomial (level 1)) (left : Meaning) (poles : List Factor) : Type 0 where
  pub value : Polynomial (level 1)
  pub value_is : left ≡ value.0
  pub gone : List Factor
  pub of_y : y ≡ in_k.product value (forms_in_k gone)
  pub powers : (f : LinearForm) → power_of f poles + power_within f gone ≡ power_of f xs
  pub sorted : IsSorted poles
  pub some : AllByRecursion (λ x. x.power ≢ 0) poles
  pub none_divides : AllByRecursion (λ x. ¬ (Divides x.form left)) poles

-- nothing went
times_nothing : (y : Polynomial (level 1)) → y ≡ in_k.product y (forms_in_k [])
times_nothing y = sym (ap (in_k.product y) no_forms ∙ in_k_ring.product_comm y in_k.unit ∙ in_k_ring.unit_product y)

-- one form more
module _ (x : Factor) (xs : List Factor) (y rest : Polynomial (level 1)) (n : ℕ) (d : IsDividedOut x y.0 rest.0 n) (left : Meaning)
    (poles : List Factor) (sorted : IsSorted (x ∷ xs)) (before : AllByRecursion (λ p. IsBefore x.form p.form) poles)
    (h : Outcome xs rest left poles) where
  product_more : y ≡ in_k.product h.value (forms_in_k (factor_with x.form n ∷ h.gone))
  product_more =
      same_passing (level 2) y (in_k.product rest (power x.form n)) (d.is ∙ ap ((level 2).ops.product rest.0) (sym (power_is x.form n)))
      ∙ ap (λ t. in_k.product t (power x.form n)) h.of_y
      ∙ in_k_ring.product_assoc h.value (forms_in_k h.gone) (power x.form n)
      ∙ ap (in_k.product h.value) (in_k_ring.product_comm (forms_in_k h.gone) (power x.form n)
      ∙ ap (λ t. in_k.product t (forms_in_k h.gone)) (sym (lone_power x.form n)) ∙ sym (joined_forms (factor_with x.form n ∷ []) h.gone))

  power_more : (f : LinearForm)
      → power_of f (staying x.form (x.power - n) poles) + power_within f (factor_with x.form n ∷ h.gone) ≡ power_of f (x ∷ xs)
  power_more f =
      ap (λ t. t + power_within f (factor_with x.form n ∷ h.gone)) (power_staying x.form f (x.power - n) poles before)
      ∙ by (same_form f x.form) refl
    where
      by : (b : Bool) → same_form f x.form ≡ b
          → cond b (x.power - n) (power_of f poles) + (cond b n 0 + power_within f h.gone) ≡ cond b x.power (power_of f xs)
      by true e =
          let none : power_of f xs ≡ 0 = ap (λ t. power_of t xs) (same_form_found f x.form e) ∙ not_among x.form xs sorted.0 in
          omega (arith, none, h.powers f, d.within)
      by false e = omega (arith, h.powers f)

  -- what divides what is left divides the rest
  divides_rest : (f : LinearForm) → Divides f left → Divides f rest.0
  divides_rest f q = record {
    quotient = in_k.product q.quotient (forms_in_k h.gone);
    is = ap (λ (t : Polynomial (level 1)). t.0) (regrouped ∙ ap (λ t. in_k.product t (forms_in_k h.gone)) whole ∙ sym h.of_y);
  }
    where
      whole : in_k.product q.quotient (form_in_k f) ≡ h.value
      whole = same_passing (level 2) (in_k.product q.quotient (form_in_k f)) h.value (q.is ∙ h.value_is)

      regrouped : in_k.product (in_k.product q.quotient (forms_in_k h.gone)) (form_in_k f)
          ≡ in_k.product (in_k.product q.quotient (form_in_k f)) (forms_in_k h.gone)
      regrouped =
          in_k_ring.product_assoc q.quotient (forms_in_k h.gone) (form_in_k f)
          ∙ ap (in_k.product q.quotient) (in_k_ring.product_comm (forms_in_k h.gone) (form_in_k f))
          ∙ sym (in_k_ring.product_assoc q.quotient (form_in_k f) (forms_in_k h.gone))

  none_more : (m : ℕ) → m ≡ x.power - n → AllByRecursion (λ p. ¬ (Divides p.form left)) (staying x.form m poles)
  none_more zero e = h.none_divides
  none_more (suc m) e = (by d.most, h.none_divides)
    where
      by : (n ≡ x.power) ⊎ (¬ (Divides x.form rest.0)) → ¬ (Divides x.form left)
      by (inl all) q = omega (arith, e, all)
      by (inr none) q = none (divides_rest x.form q)

  pub outcome_more : Outcome (x ∷ xs) y left (staying x.form (x.power - n) poles)
  outcome_more = record {
    value = h.value;
    value_is = h.value_is;
    gone = factor_with x.form n ∷ h.gone;
    of_y = product_more;
    powers = power_more;
    sorted = sorted_staying x.form (x.power - n) poles before h.sorted;
    some = some_staying x.form (x.power - n) poles h.some;
    none_divides = none_more (x.power - n) refl;
  }

pub outcome : (xs : List Factor) (y : Polynomial (level 1)) (left : Meaning) (poles : List Factor) → IsSorted xs → CancelsInOrder xs y.0 left poles
    → Outcome xs y left poles
outcome _ y _ _ s all_done = record {
  value = y;
  value_is = refl;
  gone = [];
  of_y = times_nothing y;
  powers = λ f. refl;
  sorted = tt;
  some = tt;
  none_divides = tt;
}
outcome _ y left _ s (next_form {x} {xs} {poles} rest n d more) =
    outcome_more x xs y rest n d left poles s (poles_all (IsBefore x.form) xs rest.0 left poles more s.0)
    (outcome xs rest left poles s.1 more)
