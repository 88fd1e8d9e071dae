-- The factorials and denominators of a term split, list by list.
use Rattle.std.proofs.Common.{◌≡◌, ℕ, ◌+◌, ◌≤◌, Bool, true, false, List, [], ◌∷◌, ◌++◌, refl, ap, sym, ◌∙◌, subst, arith}
use Rattle.std.proofs.lemmas.Int.{ints}
use Rattle.std.specs.Prelude.{ℤ, pos, negsuc, ◌+ℤ◌, ◌-ℤ◌, ◌*ℤ◌, ◌≤ℤ◌, cond}
use Rattle.hypergeometric.specs.Point.{Point, values, later_n, later_k}
use Rattle.hypergeometric.specs.Fraction.{Fraction, ◌≈◌, fraction_product, natural_power}
use Rattle.hypergeometric.specs.LinearForm.{LinearForm, Factor, form_value, forms_value, factorial_value, inverse_factorial_value, product_over}
use Rattle.hypergeometric.specs.ProperTerm.{NoneNegative, NoneZero}
use Rattle.hypergeometric.specs.FactorLists.{same_form, factor_with, with_factor}
use Rattle.hypergeometric.proofs.Lookups.{same_form_found}
use Rattle.hypergeometric.proofs.FractionPowers.{product_assoc, product_one, power_of_sum}
use Rattle.hypergeometric.proofs.NonzeroPowers.{product_moved}
use Rattle.hypergeometric.proofs.SameValues.{zero_times}
use Rattle.term_pieces.specs.Products.{form_plus, at_later_n}
use Rattle.term_pieces.specs.ItemForms.{negative_part, least_of, from_each, above_least, below_greatest, rising_up, falling_up, rising_down, falling_down, counted_but, cleared_over, later_over, kept_over}
use Rattle.term_pieces.specs.Pieces.{carrier_up, carrier_down, gathered_forms}
use Rattle.term_pieces.proofs.FactorialItems.{argument_splits, lower_splits}
use Rattle.term_pieces.proofs.FormValues.{plus_value, later_n_value, joined_value}
use Rattle.term_pieces.proofs.OverItems.{inverse_of, inverses}
use Rattle.term_pieces.proofs.OverSplits.{over_splits}
use Rattle.term_pieces.proofs.ShiftedDenominators.{inverses_joined}
use Rattle.term_pieces.proofs.Splits.{Splits, times_common, splits_product, splits_one}

-- the same with other names of the numbers, and of the carrier's values
splits_same : (order : ℕ) (v : ℕ → Fraction) (t t' : ℕ → ℤ) (h h' m m' : Fraction) (r r' q q' : ℤ) → ((j : ℕ) → t j ≡ t' j) → h ≡ h' → m ≡ m'
    → r ≡ r' → q ≡ q' → Splits order v t h m r q → Splits order v t' h' m' r' q'
splits_same order v t t' h h' m m' r r' q q' te he me re qe s = record {
  common = s.common;
  tops = λ j l. subst (λ z. v j ≈ times_common z s.common) (te j) (s.tops j l);
  carrier_here = subst (λ z. z ≈ times_common r' s.common) he (subst (λ z. h ≈ times_common z s.common) re s.carrier_here);
  carrier_next = subst (λ z. z ≈ times_common q' s.common) me (subst (λ z. m ≈ times_common z s.common) qe s.carrier_next);
}

-- the least of a form is its value at n or at n + J
pub least_is : (f : LinearForm) (order : ℕ) (p : Point) → pos 0 ≤ℤ form_value f p → pos 0 ≤ℤ form_value f (later_n p (pos order))
    → pos 0 ≤ℤ form_value (least_of order f) p
least_is f order p first last = by f.n_slope refl
  where
    there : form_value (at_later_n f (pos order)) p ≡ form_value f (later_n p (pos order))
    there = later_n_value f (pos order) p

    by : (s : ℤ) → f.n_slope ≡ s → pos 0 ≤ℤ form_value (form_plus f (negative_part s *ℤ pos order)) p
    by (pos m) e =
        let here : form_value (form_plus f (pos 0 *ℤ pos order)) p ≡ form_value f p +ℤ pos 0 *ℤ pos order = plus_value f (pos 0 *ℤ pos order) p in
        let nothing : pos 0 *ℤ pos order ≡ pos 0 = zero_times (pos order) in
        omega (arith, ints, here, nothing, first)
    by (negsuc m) e =
        let same : form_value (form_plus f (negsuc m *ℤ pos order)) p ≡ form_value (at_later_n f (pos order)) p =
        ap (λ s. form_value (form_plus f (s *ℤ pos order)) p) (sym e) in
        omega (arith, ints, same, there, last)

module _ (order : ℕ) (p : Point) where
  pub up_splits : (xs : List Factor) → NoneNegative xs p → NoneNegative xs (later_n p (pos order))
      → Splits order (λ j. product_over factorial_value xs (later_n p (pos j))) (λ j. forms_value (from_each (above_least order j) xs) p)
      (product_over factorial_value (carrier_up order xs) p) (product_over factorial_value (carrier_up order xs) (later_k p (pos 1)))
      (forms_value (from_each (falling_up order) xs) (later_k p (negsuc 0))) (forms_value (from_each (rising_up order) xs) p)
  up_splits [] first last = splits_one order
  up_splits (x ∷ xs) (f, fs) (l, ls) =
      splits_same order _ _ (λ j. forms_value (above_least order j x ++ from_each (above_least order j) xs) p) _ _ _ _ _
      (forms_value (falling_up order x ++ from_each (falling_up order) xs) (later_k p (negsuc 0))) _ (forms_value (rising_up order x ++ from_each (rising_up order) xs) p)
      (λ j. sym (joined_value (above_least order j x) (from_each (above_least order j) xs) p)) refl refl
      (sym (joined_value (falling_up order x) (from_each (falling_up order) xs) (later_k p (negsuc 0)))) (sym (joined_value (rising_up order x) (from_each (rising_up order) xs) p))
      (splits_product order _ _ _ _ _ _ _ _ _ _ _ _ (argument_splits order x p (least_is x.form order p f l)) (up_splits xs fs ls))

  pub down_splits : (xs : List Factor)
      → Splits order (λ j. product_over inverse_factorial_value xs (later_n p (pos j))) (λ j. forms_value (from_each (below_greatest order j) xs) p)
      (product_over inverse_factorial_value (carrier_down order xs) p) (product_over inverse_factorial_value (carrier_down order xs) (later_k p (pos 1)))
      (forms_value (from_each (rising_down order) xs) (later_k p (negsuc 0))) (forms_value (from_each (falling_down order) xs) p)
  down_splits [] = splits_one order
  down_splits (x ∷ xs) =
      splits_same order _ _ (λ j. forms_value (below_greatest order j x ++ from_each (below_greatest order j) xs) p) _ _ _ _ _
      (forms_value (rising_down order x ++ from_each (rising_down order) xs) (later_k p (negsuc 0))) _ (forms_value (falling_down order x ++ from_each (falling_down order) xs) p)
      (λ j. sym (joined_value (below_greatest order j x) (from_each (below_greatest order j) xs) p)) refl refl
      (sym (joined_value (rising_down order x) (from_each (rising_down order) xs) (later_k p (negsuc 0)))) (sym (joined_value (falling_down order x) (from_each (falling_down order) xs) p))
      (splits_product order _ _ _ _ _ _ _ _ _ _ _ _ (lower_splits order x p) (down_splits xs))

  pub over_lists : (xs : List Factor) → ((j : ℕ) → j ≤ order → NoneZero xs (later_n p (pos j)))
      → Splits order (λ j. inverses xs (later_n p (pos j))) (λ j. forms_value (from_each (counted_but order j) xs) p)
      (inverses (from_each (kept_over order) xs) p) (inverses (from_each (kept_over order) xs) (later_k p (pos 1)))
      (forms_value (from_each (later_over order) xs) (later_k p (negsuc 0))) (forms_value (from_each (cleared_over order) xs) p)
  over_lists [] some = splits_one order
  over_lists (x ∷ xs) some =
      splits_same order _ _ (λ j. forms_value (counted_but order j x ++ from_each (counted_but order j) xs) p)
      _ (inverses (kept_over order x ++ from_each (kept_over order) xs) p) _ (inverses (kept_over order x ++ from_each (kept_over order) xs) (later_k p (pos 1))) _
      (forms_value (later_over order x ++ from_each (later_over order) xs) (later_k p (negsuc 0))) _ (forms_value (cleared_over order x ++ from_each (cleared_over order) xs) p)
      (λ j. sym (joined_value (counted_but order j x) (from_each (counted_but order j) xs) p))
      (sym (inverses_joined (kept_over order x) (from_each (kept_over order) xs) p)) (sym (inverses_joined (kept_over order x) (from_each (kept_over order) xs) (later_k p (pos 1))))
      (sym (joined_value (later_over order x) (from_each (later_over order) xs) (later_k p (negsuc 0)))) (sym (joined_value (cleared_over order x) (from_each (cleared_over order) xs) p))
      (splits_product order _ _ _ _ _ _ _ _ _ _ _ _ (over_splits order x p (λ j l. (some j l).0)) (over_lists xs (λ j l. (some j l).1)))

-- one more form on a list, and all forms gathered
grown_value : (f : LinearForm) (given : ℕ) (xs : List Factor) (p : Point)
    → inverses (with_factor f given xs) p ≡ fraction_product (natural_power (inverse_of (form_value f p)) given) (inverses xs p)
grown_value f given [] p = refl
grown_value f given (x ∷ xs) p = by (same_form f x.form) refl (grown_value f given xs p)
  where
    by : (b : Bool) → same_form f x.form ≡ b
        → inverses (with_factor f given xs) p ≡ fraction_product (natural_power (inverse_of (form_value f p)) given) (inverses xs p)
        → inverses (cond b (factor_with x.form (x.power + given) ∷ xs) (x ∷ with_factor f given xs)) p
        ≡ fraction_product (natural_power (inverse_of (form_value f p)) given) (inverses (x ∷ xs) p)
    by true e h =
        let own = natural_power (inverse_of (form_value x.form p)) x.power in
        let more = natural_power (inverse_of (form_value x.form p)) given in
        ap (λ t. fraction_product t (inverses xs p)) (power_of_sum (inverse_of (form_value x.form p)) x.power given)
        ∙ product_assoc own more (inverses xs p) ∙ product_moved own more (inverses xs p)
        ∙ ap (λ g. fraction_product (natural_power (inverse_of (form_value g p)) given) (inverses (x ∷ xs) p)) (sym (same_form_found f x.form e))
    by false e h =
        let own = natural_power (inverse_of (form_value x.form p)) x.power in
        ap (fraction_product own) h ∙ product_moved own (natural_power (inverse_of (form_value f p)) given) (inverses xs p)

pub gathered_value : (done xs : List Factor) (p : Point) → inverses (gathered_forms done xs) p ≡ fraction_product (inverses done p) (inverses xs p)
gathered_value done [] p = sym (product_one (inverses done p))
gathered_value done (x ∷ xs) p =
    gathered_value (with_factor x.form x.power done) xs p
    ∙ ap (λ t. fraction_product t (inverses xs p)) (grown_value x.form x.power done p)
    ∙ product_assoc (natural_power (inverse_of (form_value x.form p)) x.power) (inverses done p) (inverses xs p)
    ∙ product_moved (natural_power (inverse_of (form_value x.form p)) x.power) (inverses done p) (inverses xs p)
