-- Cancelling factorials that stand above and below, and guarding them, changes neither the value of a term nor where it is defined.
use Rattle.std.proofs.Common.{◌≡◌, ℕ, zero, suc, ◌<◌, ◌≤◌, refl, sym, ◌∙◌, List, [], ◌∷◌, arith, subst}
use Rattle.std.proofs.lemmas.Int.{ints}
use Rattle.std.specs.Prelude.{ℤ, pos, negsuc, ◌*ℤ◌, ◌≤ℤ◌}
use Rattle.std.specs.List.{AllByRecursion}
use Rattle.ring_solver.proofs.Read.{ring_z, reading_z}
use Rattle.hypergeometric.specs.Point.{Point}
use Rattle.hypergeometric.specs.Fraction.{Fraction, IsDefined, of_whole, fraction_product, fraction_inverse, natural_power, whole_power}
use Rattle.hypergeometric.specs.LinearForm.{LinearForm, Factor, form_value, factorial, factorial_value, inverse_factorial_value, product_over}
use Rattle.hypergeometric.specs.FormOrder.{NoFormTwice}
use Rattle.hypergeometric.specs.ProperTerm.{ProperTerm, NoneNegative, IsDefinedAt, poly_value, proper_value, HasFractions}
use Rattle.hypergeometric.specs.FactorLists.{power_of, in_both, without}
use Rattle.hypergeometric.specs.TermValue.{HasValue}
use Rattle.hypergeometric.proofs.FractionLaws.{one_not_zero}
use Rattle.hypergeometric.proofs.Definedness.{proper_value_defined}
use Rattle.hypergeometric.proofs.SameValues.{◌≅◌, same, same_itself, same_chain, same_symmetric, same_products, same_equal}
use Rattle.hypergeometric.proofs.FractionPowers.{fraction_same, product_one, one_product, products_exchange, power_of_product}
use Rattle.hypergeometric.proofs.SharedForms.{AllSome, all_more, own_powers, both_forms, both_distinct, both_in_first, both_in_second, both_below_first, both_below_second, without_forms}
use Rattle.hypergeometric.proofs.SharedProducts.{product_parts}
use Rattle.hypergeometric.proofs.DefinedValues.{value_defined, none_to_all, all_to_none, parts_natural}
use Rattle.term_classes.specs.Walk.{with_lists, cancelled}

module _ (p : Point) where
  -- m! times 1/m!
  factorial_positive : (m : ℕ) → 0 < factorial m
  factorial_positive zero = omega arith
  factorial_positive (suc m) = grind (arith, factorial_positive m)

  factorial_cancels : (z : ℤ) → pos 0 ≤ℤ z → fraction_product (factorial_value z) (inverse_factorial_value z) ≅ of_whole (pos 1)
  factorial_cancels (negsuc m) h = absurd (omega (arith, ints, h))
  factorial_cancels (pos m) h = record {
    zero_right = λ z. absurd (omega (arith, ints, factorial_positive m, sym (once (pos (factorial m))) ∙ z));
    zero_left = λ z. absurd (one_not_zero z);
    cross = cancels (pos (factorial m));
  }
    where
      once : (f : ℤ) → pos 1 *ℤ f ≡ f
      once f = ring_z (f ∷ []) (search reading_z depth 40 fits 20000) refl

      cancels : (f : ℤ) → f *ℤ pos 1 *ℤ pos 1 ≡ pos 1 *ℤ (pos 1 *ℤ f)
      cancels f = ring_z (f ∷ []) (search reading_z depth 40 fits 20000) refl

  one_power : (f : Fraction) (m : ℕ) → f ≅ of_whole (pos 1) → natural_power f m ≅ of_whole (pos 1)
  one_power f zero e = same_itself (of_whole (pos 1))
  one_power f (suc m) e = same_chain (same_products e (one_power f m e)) (same (one_product (of_whole (pos 1))))

  -- factorials above and below cancel where no argument is negative
  lists_cancel : (xs : List Factor) → NoneNegative xs p
      → fraction_product (product_over factorial_value xs p) (product_over inverse_factorial_value xs p) ≅ of_whole (pos 1)
  lists_cancel [] h = same (one_product (of_whole (pos 1)))
  lists_cancel (x ∷ xs) h =
      let u : Fraction = factorial_value (form_value x.form p) in
      let d : Fraction = inverse_factorial_value (form_value x.form p) in
      same_chain (same (products_exchange (natural_power u x.power) (product_over factorial_value xs p) (natural_power d x.power)
      (product_over inverse_factorial_value xs p)))
      (same_chain (same_products (same_chain (same (sym (power_of_product u d x.power)))
      (one_power (fraction_product u d) x.power (factorial_cancels (form_value x.form p) h.0)))
      (lists_cancel xs h.1)) (same (one_product (of_whole (pos 1)))))

  regrouped : (u b d c o : Fraction) → fraction_product (fraction_product u b) (fraction_product (fraction_product d c) o)
      ≡ fraction_product (fraction_product u (fraction_product d o)) (fraction_product b c)
  regrouped u b d c o = fraction_same (law u.top b.top d.top c.top o.top) (law u.bottom b.bottom d.bottom c.bottom o.bottom)
    where
      law : (u b d c o : ℤ) → (u *ℤ b) *ℤ ((d *ℤ c) *ℤ o) ≡ (u *ℤ (d *ℤ o)) *ℤ (b *ℤ c)
      law u b d c o = ring_z (u ∷ b ∷ d ∷ c ∷ o ∷ []) (search reading_z depth 40 fits 20000) refl

-- the shared forms of a list have powers no greater than in it
pub at_most_own : (xs bs : List Factor) → NoFormTwice xs → ((f : LinearForm) → power_of f bs ≤ power_of f xs)
    → AllByRecursion (λ x. power_of x.form bs ≤ x.power) xs
at_most_own xs bs h below = all_more (λ x. power_of x.form xs ≡ x.power) (λ x. power_of x.form bs ≤ x.power)
    (λ x e. subst (λ m. power_of x.form bs ≤ m) e (below x.form)) xs (own_powers xs h)

-- what cancelling needs of a term
pub record CanCancel (s : ProperTerm) : Type 0 where
  pub fractions : HasFractions s
  pub up : NoFormTwice s.up
  pub down : NoFormTwice s.down
  pub up_some : AllSome s.up
  pub over_some : AllSome s.over

module _ (s : ProperTerm) (h : CanCancel s) where
  abbrev shared : List Factor
  shared = in_both s.up s.down

  module _ (p : Point) where
    cancelled_defined : IsDefinedAt (cancelled s) p → IsDefined (proper_value s p)
    cancelled_defined d = proper_value_defined (with_lists s.up s.down s.over [] s) p
        (record { scale = h.fractions.scale; n_base = h.fractions.n_base; k_base = h.fractions.k_base })
        (record { up = parts_natural p s.up shared h.up_some d.up d.guard; guard = tt; over = d.over })

    defined_cancelled : IsDefined (proper_value s p) → IsDefinedAt (cancelled s) p
    defined_cancelled d =
        let v = value_defined p s h.up_some h.over_some d in
        let all = none_to_all p s.up v.0 in
        record {
          up = all_to_none p (without s.up shared) (without_forms (λ f. pos 0 ≤ℤ form_value f p) s.up shared all);
          guard = all_to_none p shared (both_forms (λ f. pos 0 ≤ℤ form_value f p) s.up s.down all);
          over = v.1;
        }

    lists_same : IsDefinedAt (cancelled s) p
        → fraction_product (product_over factorial_value s.up p)
        (fraction_product (product_over inverse_factorial_value s.down p) (product_over (λ z. fraction_inverse (of_whole z)) s.over p))
        ≅ fraction_product (product_over factorial_value (without s.up shared) p)
        (fraction_product (product_over inverse_factorial_value (without s.down shared) p)
        (product_over (λ z. fraction_inverse (of_whole z)) s.over p))
    lists_same d =
        let distinct : NoFormTwice shared = both_distinct s.up s.down h.up in
        let up_parts = product_parts factorial_value p s.up shared h.up distinct (both_in_first s.up s.down h.up_some)
        (at_most_own s.up shared h.up (λ f. both_below_first f s.up s.down h.up)) in
        let down_parts = product_parts inverse_factorial_value p s.down shared h.down distinct (both_in_second s.up s.down)
        (at_most_own s.down shared h.down (λ f. both_below_second f s.up s.down)) in
        let over_value : Fraction = product_over (λ z. fraction_inverse (of_whole z)) s.over p in
        let u : Fraction = product_over factorial_value (without s.up shared) p in
        let v : Fraction = product_over inverse_factorial_value (without s.down shared) p in
        same_chain (same (λ i. fraction_product (up_parts i) (fraction_product (down_parts i) over_value)))
        (same_chain (same (regrouped p u (product_over factorial_value shared p) v (product_over inverse_factorial_value shared p) over_value))
        (same_chain (same_products (same_itself (fraction_product u (fraction_product v over_value))) (lists_cancel p shared d.guard))
        (same (product_one (fraction_product u (fraction_product v over_value))))))

    value_same : IsDefinedAt (cancelled s) p → proper_value s p ≅ proper_value (cancelled s) p
    value_same d = same_products (same_itself s.scale) (same_products (same_itself (of_whole (poly_value s.poly p)))
        (same_products (same_itself (whole_power s.n_base p.n)) (same_products (same_itself (whole_power s.k_base p.k)) (lists_same d))))

  -- the cancelled term has the value of the term
  pub cancelled_has : HasValue (cancelled s) (proper_value s)
  cancelled_has = record {
    defined = λ p. (cancelled_defined p, defined_cancelled p);
    equal = λ p d. same_equal (same_symmetric (value_same p d))
        (λ z. cancelled_defined p d ((value_same p d).zero_left z));
  }
