-- A denominator, to a power, counted at n, .., n + J: one over it at n + j is the product of the others times one over all, and so is what the
-- carrier has of it at k and k + 1.
use Rattle.std.proofs.Common.{◌≡◌, ◌≢◌, ℕ, zero, suc, Bool, true, false, List, [], ◌∷◌, ◌++◌, refl, ap, sym, ◌∙◌, subst, arith}
use Rattle.std.proofs.lemmas.Bool.{eqb-true}
use Rattle.std.proofs.lemmas.Int.{ints}
use Rattle.std.proofs.Math.IntN.{pow}
use Rattle.std.specs.Prelude.{ℤ, pos, negsuc, ◌+ℤ◌, ◌-ℤ◌, ◌*ℤ◌, unsigned_abs, cond}
use Rattle.ring_solver.proofs.Read.{ring_z, reading_z}
use Rattle.hypergeometric.specs.Point.{Point, later_k}
use Rattle.hypergeometric.specs.Fraction.{Fraction, IsDefined, ◌≈◌, of_whole, fraction_product, fraction_inverse, natural_power}
use Rattle.hypergeometric.specs.LinearForm.{Factor, form_value, forms_value, product_over}
use Rattle.hypergeometric.specs.ProperTerm.{NoneZero}
use Rattle.hypergeometric.specs.PrimitiveForm.{is_zero}
use Rattle.hypergeometric.specs.FactorLists.{factor_with}
use Rattle.hypergeometric.proofs.FractionLaws.{one_not_zero, equal_to_itself, product_not_zero}
use Rattle.hypergeometric.proofs.FractionPowers.{one_product}
use Rattle.term_pieces.specs.Products.{at_later_k}
use Rattle.term_pieces.specs.ItemForms.{from_each, at_next_k, with_k, without_k}
use Rattle.term_pieces.proofs.FormValues.{later_k_value}
use Rattle.term_pieces.proofs.Splits.{times_common, multiplied}
use Rattle.term_pieces.proofs.TimesPowers.{times_powers, equal_powers}

-- one over the value of a form
abbrev pub inverse_of : ℤ → Fraction
inverse_of z = fraction_inverse (of_whole z)

-- one over all forms of a list
abbrev pub inverses : List Factor → Point → Fraction
inverses xs p = product_over inverse_of xs p

inverse_is_defined : (z : ℤ) → z ≢ pos 0 → IsDefined (inverse_of z)
inverse_is_defined z h e = product_not_zero z (pos 1) h one_not_zero e

-- a number other than 0 times its inverse is 1
own_inverse : (z : ℤ) → z ≢ pos 0 → of_whole (pos 1) ≈ times_common z (inverse_of z)
own_inverse z h = record {
  left_defined = one_not_zero;
  right_defined = λ e. product_not_zero z (pos 1) h one_not_zero (sym (one_times (z *ℤ pos 1)) ∙ e);
  cross = cross z;
}
  where
    one_times : (x : ℤ) → pos 1 *ℤ x ≡ x
    one_times x = ring_z (x ∷ []) (search reading_z depth 40 fits 20000) refl

    cross : (z : ℤ) → pos 1 *ℤ (pos 1 *ℤ (z *ℤ pos 1)) ≡ (z *ℤ (pos 1 *ℤ pos 1)) *ℤ pos 1
    cross z = ring_z (z ∷ []) (search reading_z depth 40 fits 20000) refl

-- and so for powers
own_powers : (z : ℤ) (e : ℕ) → z ≢ pos 0 → of_whole (pos 1) ≈ times_common (pow z e) (natural_power (inverse_of z) e)
own_powers z e h =
    subst (λ f. f ≈ times_common (pow z e) (natural_power (inverse_of z) e)) (power_of_one e)
    (times_powers (of_whole (pos 1)) (inverse_of z) z e (own_inverse z h))
  where
    power_of_one : (e : ℕ) → natural_power (of_whole (pos 1)) e ≡ of_whole (pos 1)
    power_of_one zero = refl
    power_of_one (suc e) = ap (fraction_product (of_whole (pos 1))) (power_of_one e)

defined_power : (z : ℤ) (e : ℕ) → z ≢ pos 0 → natural_power (inverse_of z) e ≈ natural_power (inverse_of z) e
defined_power z e h = equal_powers e (equal_to_itself (inverse_of z) (inverse_is_defined z h))

pub itself : (f : Fraction) → f ≈ f → f ≈ times_common (pos 1) f
itself f h = subst (λ z. f ≈ z) (sym (one_product f)) h

-- one more denominator on both sides
pub kept_on_both : (z : ℤ) (e : ℕ) (u c : Fraction) (r : ℤ) → z ≢ pos 0 → u ≈ times_common r c
    → fraction_product (natural_power (inverse_of z) e) u ≈ times_common r (fraction_product (natural_power (inverse_of z) e) c)
kept_on_both z e u c r h p =
    let one = natural_power (inverse_of z) e in
    subst (λ t. fraction_product one u ≈ times_common t (fraction_product one c)) (one_times r)
    (multiplied one u one c (pos 1) r (itself one (defined_power z e h)) p)
  where
    one_times : (x : ℤ) → pos 1 *ℤ x ≡ x
    one_times x = ring_z (x ∷ []) (search reading_z depth 40 fits 20000) refl

-- or on one side, and multiplied by there
pub cleared : (z : ℤ) (e : ℕ) (u c : Fraction) (r : ℤ) → z ≢ pos 0 → u ≈ times_common r c
    → u ≈ times_common (pow z e *ℤ r) (fraction_product (natural_power (inverse_of z) e) c)
cleared z e u c r h p =
    subst (λ t. t ≈ times_common (pow z e *ℤ r) (fraction_product (natural_power (inverse_of z) e) c)) (one_product u)
    (multiplied (of_whole (pos 1)) u (natural_power (inverse_of z) e) c (pow z e) r (own_powers z e h) p)

module _ (p : Point) where
  -- what the carrier has of a list of denominators at k
  pub carrier_here : (ys : List Factor) → NoneZero ys p
      → inverses (from_each without_k ys) p
      ≈ times_common (forms_value (from_each with_k (at_next_k ys)) (later_k p (negsuc 0))) (inverses ys p)
  carrier_here [] h = itself (of_whole (pos 1)) (equal_to_itself (of_whole (pos 1)) one_not_zero)
  carrier_here (y ∷ ys) (h, hs) = by (is_zero y.form.k_slope) (carrier_here ys hs)
    where
      there : form_value (at_later_k y.form (pos 1)) (later_k p (negsuc 0)) ≡ form_value y.form p
      there = later_k_value y.form (pos 1) (later_k p (negsuc 0)) ∙ ap (λ m. form_value y.form (record p { k = m })) (omega (arith, ints))

      by : (b : Bool) → inverses (from_each without_k ys) p ≈ times_common (forms_value (from_each with_k (at_next_k ys)) (later_k p (negsuc 0))) (inverses ys p)
          → inverses (cond b (y ∷ []) [] ++ from_each without_k ys) p
          ≈ times_common (forms_value (cond b [] (factor_with (at_later_k y.form (pos 1)) y.power ∷ []) ++ from_each with_k (at_next_k ys)) (later_k p (negsuc 0)))
          (inverses (y ∷ ys) p)
      by true given = kept_on_both (form_value y.form p) y.power (inverses (from_each without_k ys) p) (inverses ys p)
          (forms_value (from_each with_k (at_next_k ys)) (later_k p (negsuc 0))) h given
      by false given =
          subst (λ z. inverses (from_each without_k ys) p
          ≈ times_common (pow z y.power *ℤ forms_value (from_each with_k (at_next_k ys)) (later_k p (negsuc 0))) (inverses (y ∷ ys) p)) (sym there)
          (cleared (form_value y.form p) y.power (inverses (from_each without_k ys) p) (inverses ys p)
          (forms_value (from_each with_k (at_next_k ys)) (later_k p (negsuc 0))) h given)

  -- and at k + 1
  pub carrier_next : (ys : List Factor) → NoneZero ys p
      → inverses (from_each without_k ys) (later_k p (pos 1)) ≈ times_common (forms_value (from_each with_k ys) p) (inverses ys p)
  carrier_next [] h = itself (of_whole (pos 1)) (equal_to_itself (of_whole (pos 1)) one_not_zero)
  carrier_next (y ∷ ys) (h, hs) = by (is_zero y.form.k_slope) refl (carrier_next ys hs)
    where
      same : is_zero y.form.k_slope ≡ true → form_value y.form (later_k p (pos 1)) ≡ form_value y.form p
      same e = without (y.form.n_slope *ℤ p.n) y.form.k_slope y.form.offset p.k (slope y.form.k_slope e)
        where
          slope : (t : ℤ) → is_zero t ≡ true → t ≡ pos 0
          slope t e = omega (arith, ints, eqb-true (unsigned_abs t) 0 e)

          without : (a t o k : ℤ) → t ≡ pos 0 → (a +ℤ t *ℤ (k +ℤ pos 1)) +ℤ o ≡ (a +ℤ t *ℤ k) +ℤ o
          without a t o k e = rw e (zeros a o k)
            where
              zeros : (a o k : ℤ) → (a +ℤ pos 0 *ℤ (k +ℤ pos 1)) +ℤ o ≡ (a +ℤ pos 0 *ℤ k) +ℤ o
              zeros a o k = ring_z (a ∷ o ∷ k ∷ []) (search reading_z depth 40 fits 20000) refl

      by : (b : Bool) → is_zero y.form.k_slope ≡ b
          → inverses (from_each without_k ys) (later_k p (pos 1)) ≈ times_common (forms_value (from_each with_k ys) p) (inverses ys p)
          → inverses (cond b (y ∷ []) [] ++ from_each without_k ys) (later_k p (pos 1))
          ≈ times_common (forms_value (cond b [] (y ∷ []) ++ from_each with_k ys) p) (inverses (y ∷ ys) p)
      by true e given =
          subst (λ z. fraction_product (natural_power (inverse_of z) y.power) (inverses (from_each without_k ys) (later_k p (pos 1)))
          ≈ times_common (forms_value (from_each with_k ys) p) (inverses (y ∷ ys) p)) (sym (same e))
          (kept_on_both (form_value y.form p) y.power (inverses (from_each without_k ys) (later_k p (pos 1))) (inverses ys p)
          (forms_value (from_each with_k ys) p) h given)
      by false e given = cleared (form_value y.form p) y.power (inverses (from_each without_k ys) (later_k p (pos 1))) (inverses ys p)
          (forms_value (from_each with_k ys) p) h given
