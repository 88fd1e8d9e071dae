-- One over a form at n + j is the product of its other shifts times one over all of them.
use Rattle.std.proofs.Common.{◌≡◌, ◌≢◌, ℕ, zero, suc, ◌≤◌, ◌<◌, Bool, true, false, List, [], ◌∷◌, ◌++◌, refl, ap, sym, ◌∙◌, subst, arith}
use Rattle.std.proofs.lemmas.Bool.{eqb-true, eq-eqb, false≢true}
use Rattle.std.proofs.lemmas.Int.{ints}
use Rattle.std.proofs.Math.Dec.{eqb-suc-zero}
use Rattle.std.specs.Prelude.{ℤ, pos, ◌+ℤ◌, ◌*ℤ◌, cond, nat_eq}
use Rattle.hypergeometric.specs.Point.{Point, later_n}
use Rattle.hypergeometric.specs.Fraction.{Fraction, ◌≈◌, of_whole, fraction_product, natural_power}
use Rattle.hypergeometric.specs.LinearForm.{Factor, form_value, forms_value}
use Rattle.hypergeometric.specs.FactorLists.{factor_with}
use Rattle.hypergeometric.proofs.FractionLaws.{one_not_zero, equal_to_itself}
use Rattle.hypergeometric.proofs.FractionPowers.{one_product, product_one, product_assoc}
use Rattle.term_pieces.specs.Products.{at_later_n}
use Rattle.term_pieces.specs.ItemForms.{shifts_up_to, shifts_but}
use Rattle.term_pieces.proofs.FormValues.{later_n_value, joined_value}
use Rattle.term_pieces.proofs.OverItems.{inverse_of, inverses, kept_on_both, cleared, itself}
use Rattle.term_pieces.proofs.Splits.{times_common, multiplied}

pub inverses_joined : (xs ys : List Factor) (p : Point) → inverses (xs ++ ys) p ≡ fraction_product (inverses xs p) (inverses ys p)
inverses_joined [] ys p = sym (one_product (inverses ys p))
inverses_joined (x ∷ xs) ys p =
    ap (fraction_product (natural_power (inverse_of (form_value x.form p)) x.power)) (inverses_joined xs ys p)
    ∙ sym (product_assoc (natural_power (inverse_of (form_value x.form p)) x.power) (inverses xs p) (inverses ys p))

one_itself : of_whole (pos 1) ≈ times_common (pos 1) (of_whole (pos 1))
one_itself = itself (of_whole (pos 1)) (equal_to_itself (of_whole (pos 1)) one_not_zero)

module _ (p : Point) where
  abbrev one_over : Factor → Fraction
  one_over y = natural_power (inverse_of (form_value y.form p)) y.power

  -- lists that follow one another
  joined : (xs bs zs cs : List Factor) (u v : Fraction) → u ≈ times_common (forms_value bs p) (inverses xs p)
      → v ≈ times_common (forms_value cs p) (inverses zs p)
      → fraction_product u v ≈ times_common (forms_value (bs ++ cs) p) (inverses (xs ++ zs) p)
  joined xs bs zs cs u v given q =
      subst (λ r. fraction_product u v ≈ times_common r (inverses (xs ++ zs) p)) (sym (joined_value bs cs p))
      (subst (λ c. fraction_product u v ≈ times_common (forms_value bs p *ℤ forms_value cs p) c) (sym (inverses_joined xs zs p))
      (multiplied u v (inverses xs p) (inverses zs p) (forms_value bs p) (forms_value cs p) given q))

  -- one form, left out or not
  pub left_out : (y : Factor) → form_value y.form p ≢ pos 0 → one_over y ≈ times_common (pos 1) (inverses (y ∷ []) p)
  left_out y h =
      subst (λ u. u ≈ times_common (pos 1) (inverses (y ∷ []) p)) (product_one (one_over y))
      (kept_on_both (form_value y.form p) y.power (of_whole (pos 1)) (of_whole (pos 1)) (pos 1) h one_itself)

  kept : (y : Factor) → form_value y.form p ≢ pos 0 → of_whole (pos 1) ≈ times_common (forms_value (y ∷ []) p) (inverses (y ∷ []) p)
  kept y h = cleared (form_value y.form p) y.power (of_whole (pos 1)) (of_whole (pos 1)) (pos 1) h one_itself

  module _ (x : Factor) where
    abbrev shift : ℕ → Factor
    shift i = factor_with (at_later_n x.form (pos i)) x.power

    abbrev AreNotZero : ℕ → Type 0
    AreNotZero i = (j : ℕ) → j ≤ i → form_value x.form (later_n p (pos j)) ≢ pos 0

    abbrev one_over_at : ℕ → Fraction
    one_over_at j = natural_power (inverse_of (form_value x.form (later_n p (pos j)))) x.power

    shift_not_zero : (i : ℕ) → form_value x.form (later_n p (pos i)) ≢ pos 0 → form_value (at_later_n x.form (pos i)) p ≢ pos 0
    shift_not_zero i h e = h (sym (later_n_value x.form (pos i) p) ∙ e)

    pub first_same : form_value x.form (later_n p (pos 0)) ≡ form_value x.form p
    first_same = ap (λ m. form_value x.form (record p { n = m })) (omega (arith, ints))

    -- where the shift j is none of those up to i
    none_left_out : (j i : ℕ) → i < j → AreNotZero i
        → of_whole (pos 1) ≈ times_common (forms_value (shifts_but j i x) p) (inverses (shifts_up_to i x) p)
    none_left_out zero i below some = absurd (omega (arith, below))
    none_left_out (suc j) zero below some =
        subst (λ b. of_whole (pos 1) ≈ times_common (forms_value (cond b [] (x ∷ [])) p) (inverses (x ∷ []) p)) (sym (eqb-suc-zero j))
        (kept x (λ e. some 0 (omega arith) (first_same ∙ e)))
    none_left_out (suc j) (suc i) below some =
        by (nat_eq (suc j) (suc i)) refl (none_left_out (suc j) i (omega (arith, below)) (λ m l. some m (omega (arith, l))))
      where
        by : (b : Bool) → nat_eq (suc j) (suc i) ≡ b
            → of_whole (pos 1) ≈ times_common (forms_value (shifts_but (suc j) i x) p) (inverses (shifts_up_to i x) p)
            → of_whole (pos 1) ≈ times_common (forms_value (shifts_but (suc j) i x ++ cond b [] (shift (suc i) ∷ [])) p)
            (inverses (shifts_up_to i x ++ (shift (suc i) ∷ [])) p)
        by true e given = let is = eqb-true (suc j) (suc i) e in absurd (omega (arith, is, below))
        by false e given =
            subst (λ u. u ≈ times_common (forms_value (shifts_but (suc j) i x ++ (shift (suc i) ∷ [])) p)
            (inverses (shifts_up_to i x ++ (shift (suc i) ∷ [])) p)) (one_product (of_whole (pos 1)))
            (joined (shifts_up_to i x) (shifts_but (suc j) i x) (shift (suc i) ∷ []) (shift (suc i) ∷ []) (of_whole (pos 1)) (of_whole (pos 1)) given
            (kept (shift (suc i)) (shift_not_zero (suc i) (some (suc i) (omega arith)))))

    -- where it is one of them
    pub one_left_out : (j i : ℕ) → j ≤ i → AreNotZero i
        → one_over_at j ≈ times_common (forms_value (shifts_but j i x) p) (inverses (shifts_up_to i x) p)
    one_left_out zero zero below some =
        subst (λ z. natural_power (inverse_of z) x.power ≈ times_common (pos 1) (inverses (x ∷ []) p)) (sym first_same)
        (left_out x (λ e. some 0 (omega arith) (first_same ∙ e)))
    one_left_out (suc j) zero below some = absurd (omega (arith, below))
    one_left_out j (suc i) below some =
        by (nat_eq j (suc i)) refl
        (λ h. one_left_out j i h (λ m l. some m (omega (arith, l)))) (λ h. none_left_out j i h (λ m l. some m (omega (arith, l))))
      where
        by : (b : Bool) → nat_eq j (suc i) ≡ b
            → (j ≤ i → one_over_at j ≈ times_common (forms_value (shifts_but j i x) p) (inverses (shifts_up_to i x) p))
            → (i < j → of_whole (pos 1) ≈ times_common (forms_value (shifts_but j i x) p) (inverses (shifts_up_to i x) p))
            → one_over_at j ≈ times_common (forms_value (shifts_but j i x ++ cond b [] (shift (suc i) ∷ [])) p)
            (inverses (shifts_up_to i x ++ (shift (suc i) ∷ [])) p)
        by true e among none =
            let is : j ≡ suc i = eqb-true j (suc i) e in
            let there : form_value (at_later_n x.form (pos (suc i))) p ≡ form_value x.form (later_n p (pos j)) =
            later_n_value x.form (pos (suc i)) p ∙ ap (λ m. form_value x.form (later_n p (pos m))) (sym is) in
            subst (λ u. u ≈ times_common (forms_value (shifts_but j i x ++ []) p) (inverses (shifts_up_to i x ++ (shift (suc i) ∷ [])) p))
            (one_product (one_over (shift (suc i))) ∙ ap (λ z. natural_power (inverse_of z) x.power) there)
            (joined (shifts_up_to i x) (shifts_but j i x) (shift (suc i) ∷ []) [] (of_whole (pos 1)) (one_over (shift (suc i)))
            (none (omega (arith, is))) (left_out (shift (suc i)) (shift_not_zero (suc i) (some (suc i) (omega arith)))))
        by false e among none =
            let other : j ≢ suc i = λ q. false≢true (sym e ∙ eq-eqb j (suc i) q) in
            subst (λ u. u ≈ times_common (forms_value (shifts_but j i x ++ (shift (suc i) ∷ [])) p)
            (inverses (shifts_up_to i x ++ (shift (suc i) ∷ [])) p)) (product_one (one_over_at j))
            (joined (shifts_up_to i x) (shifts_but j i x) (shift (suc i) ∷ []) (shift (suc i) ∷ []) (one_over_at j) (of_whole (pos 1))
            (among (omega (arith, other, below))) (kept (shift (suc i)) (shift_not_zero (suc i) (some (suc i) (omega arith)))))
