-- A denominator of a term, counted at n, .., n + J, splits.
use Rattle.std.proofs.Common.{◌≡◌, ◌≢◌, ℕ, zero, suc, ◌≤◌, Bool, true, false, List, [], ◌∷◌, ◌++◌, refl, sym, ◌∙◌, subst, arith}
use Rattle.std.proofs.lemmas.Bool.{eqb-true}
use Rattle.std.proofs.lemmas.Int.{ints}
use Rattle.std.specs.Prelude.{ℤ, pos, negsuc, ◌+ℤ◌, ◌-ℤ◌, ◌*ℤ◌, cond, unsigned_abs}
use Rattle.ring_solver.proofs.Read.{ring_z, reading_z}
use Rattle.hypergeometric.specs.Point.{Point, later_n, later_k}
use Rattle.hypergeometric.specs.Fraction.{◌≈◌, natural_power}
use Rattle.hypergeometric.specs.LinearForm.{Factor, form_value, forms_value}
use Rattle.hypergeometric.specs.ProperTerm.{NoneZero}
use Rattle.hypergeometric.specs.FactorLists.{factor_with}
use Rattle.hypergeometric.specs.PrimitiveForm.{is_zero}
use Rattle.term_pieces.specs.Products.{at_later_n}
use Rattle.term_pieces.specs.ItemForms.{from_each, shifts_up_to, shifts_but, counted, counted_but, at_next_k, with_k, without_k}
use Rattle.term_pieces.proofs.FormValues.{later_n_value}
use Rattle.term_pieces.proofs.OverItems.{inverse_of, inverses, carrier_here, carrier_next}
use Rattle.term_pieces.proofs.ShiftedDenominators.{first_same, left_out, one_left_out}
use Rattle.term_pieces.proofs.Splits.{Splits, times_common}

pub none_zero_joined : (xs ys : List Factor) (p : Point) → NoneZero xs p → NoneZero ys p → NoneZero (xs ++ ys) p
none_zero_joined [] ys p h g = g
none_zero_joined (x ∷ xs) ys p (h, hs) g = (h, none_zero_joined xs ys p hs g)

module _ (order : ℕ) (x : Factor) (p : Point) (some : (j : ℕ) → j ≤ order → form_value x.form (later_n p (pos j)) ≢ pos 0) where
  first_some : form_value x.form p ≢ pos 0
  first_some e = some 0 (omega arith) (first_same p x ∙ e)

  -- none of the counted forms is 0
  shifts_some : (i : ℕ) → i ≤ order → NoneZero (shifts_up_to i x) p
  shifts_some zero l = (first_some, tt)
  shifts_some (suc i) l =
      none_zero_joined (shifts_up_to i x) (factor_with (at_later_n x.form (pos (suc i))) x.power ∷ []) p (shifts_some i (omega (arith, l)))
      ((λ e. some (suc i) l (sym (later_n_value x.form (pos (suc i)) p) ∙ e)), tt)

  pub counted_some : (b : Bool) → NoneZero (cond b (x ∷ []) (shifts_up_to order x)) p
  counted_some true = (first_some, tt)
  counted_some false = shifts_some order (omega arith)

  -- a form without n has one value
  same_at : is_zero x.form.n_slope ≡ true → (j : ℕ) → form_value x.form (later_n p (pos j)) ≡ form_value x.form p
  same_at e j = without x.form.n_slope (x.form.k_slope *ℤ p.k) x.form.offset p.n (pos j) (omega (arith, ints, eqb-true (unsigned_abs x.form.n_slope) 0 e))
    where
      zeros : (b o n j : ℤ) → (pos 0 *ℤ (n +ℤ j) +ℤ b) +ℤ o ≡ (pos 0 *ℤ n +ℤ b) +ℤ o
      zeros b o n j = ring_z (b ∷ o ∷ n ∷ j ∷ []) (search reading_z depth 40 fits 20000) refl

      without : (s b o n j : ℤ) → s ≡ pos 0 → (s *ℤ (n +ℤ j) +ℤ b) +ℤ o ≡ (s *ℤ n +ℤ b) +ℤ o
      without s b o n j e = rw e (zeros b o n j)

  tops : (b : Bool) → is_zero x.form.n_slope ≡ b → (j : ℕ) → j ≤ order
      → natural_power (inverse_of (form_value x.form (later_n p (pos j)))) x.power
      ≈ times_common (forms_value (cond b [] (shifts_but j order x)) p) (inverses (cond b (x ∷ []) (shifts_up_to order x)) p)
  tops true e j l =
      subst (λ z. natural_power (inverse_of z) x.power ≈ times_common (pos 1) (inverses (x ∷ []) p)) (sym (same_at e j)) (left_out p x first_some)
  tops false e j l = one_left_out p x j order l some

  pub over_splits : Splits order (λ j. natural_power (inverse_of (form_value x.form (later_n p (pos j)))) x.power)
      (λ j. forms_value (counted_but order j x) p)
      (inverses (from_each without_k (counted order x)) p) (inverses (from_each without_k (counted order x)) (later_k p (pos 1)))
      (forms_value (from_each with_k (at_next_k (counted order x))) (later_k p (negsuc 0))) (forms_value (from_each with_k (counted order x)) p)
  over_splits = record {
    common = inverses (counted order x) p;
    tops = tops (is_zero x.form.n_slope) refl;
    carrier_here = carrier_here p (counted order x) (counted_some (is_zero x.form.n_slope));
    carrier_next = carrier_next p (counted order x) (counted_some (is_zero x.form.n_slope));
  }
