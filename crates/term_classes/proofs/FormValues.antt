-- The value of the linear form of a polynomial, and of its primitive part.
use Rattle.std.proofs.Common.{◌≡◌, refl, ap, ◌∙◌, List, [], ◌∷◌, Option, Some, None}
use Rattle.std.proofs.lemmas.Option.{same_Some, none-some}
use Rattle.std.specs.Prelude.{ℤ, pos, ◌+ℤ◌, ◌*ℤ◌}
use Rattle.ring_solver.proofs.Read.{ring_z, reading_z}
use Rattle.ring_laws.specs.Meaning.{Meaning, items}
use Rattle.ring_laws.specs.Wholes.{number_of}
use Rattle.poly_laws.specs.Values.{value_at, horner}
use Rattle.poly_laws.specs.TwoVariables.{constant_in_n}
use Rattle.hypergeometric.specs.Point.{Point, values_in_n}
use Rattle.hypergeometric.specs.LinearForm.{LinearForm, form_value}
use Rattle.hypergeometric.specs.ProperTerm.{poly_value}
use Rattle.hypergeometric.specs.Forms.{form_with}
use Rattle.term_classes.specs.Forms.{form_of_coefficients, form_of_items, linear_form_of}
use Rattle.term_classes.proofs.ConstantPowers.{in_n_value}

module _ (p : Point) where
  no_coefficient : (n k s : ℤ) → pos 0 +ℤ k *ℤ s ≡ pos 0 *ℤ n +ℤ s *ℤ k +ℤ pos 0
  no_coefficient n k s = ring_z (n ∷ k ∷ s ∷ []) (search reading_z depth 40 fits 20000) refl

  one_coefficient : (n k s c : ℤ) → c +ℤ n *ℤ pos 0 +ℤ k *ℤ s ≡ pos 0 *ℤ n +ℤ s *ℤ k +ℤ c
  one_coefficient n k s c = ring_z (n ∷ k ∷ s ∷ c ∷ []) (search reading_z depth 40 fits 20000) refl

  two_coefficients : (n k s c d : ℤ) → c +ℤ n *ℤ (d +ℤ n *ℤ pos 0) +ℤ k *ℤ s ≡ d *ℤ n +ℤ s *ℤ k +ℤ c
  two_coefficients n k s c d = ring_z (n ∷ k ∷ s ∷ c ∷ d ∷ []) (search reading_z depth 40 fits 20000) refl

  -- with s for the value of the coefficient of k
  coefficients_value : (xs : List Meaning) (s : ℤ) (l : LinearForm) → form_of_coefficients xs (Some s) ≡ Some l
      → horner number_of p.n xs +ℤ p.k *ℤ s ≡ form_value l p
  coefficients_value [] s l e = no_coefficient p.n p.k s ∙ ap (λ l. form_value l p) (same_Some (form_with (pos 0) s (pos 0)) l e)
  coefficients_value (c ∷ []) s l e =
      one_coefficient p.n p.k s (number_of c) ∙ ap (λ l. form_value l p) (same_Some (form_with (pos 0) s (number_of c)) l e)
  coefficients_value (c ∷ d ∷ []) s l e =
      two_coefficients p.n p.k s (number_of c) (number_of d) ∙ ap (λ l. form_value l p) (same_Some (form_with (number_of d) s (number_of c)) l e)
  coefficients_value (c ∷ d ∷ b ∷ xs) s l e = absurd (none-some l e)

  with_slope : (xs ys : List Meaning) (s : Option ℤ) (l : LinearForm) → constant_in_n ys ≡ s → form_of_coefficients xs s ≡ Some l
      → horner number_of p.n xs +ℤ p.k *ℤ (horner number_of p.n ys +ℤ p.k *ℤ pos 0) ≡ form_value l p
  with_slope xs ys None l poly e = absurd (none-some l e)
  with_slope xs ys (Some s) l poly e =
      ap (λ z. horner number_of p.n xs +ℤ p.k *ℤ (z +ℤ p.k *ℤ pos 0)) (in_n_value p ys s poly) ∙ ap (λ z. horner number_of p.n xs +ℤ p.k *ℤ z) (once p.k s)
      ∙ coefficients_value xs s l e
    where
      once : (k s : ℤ) → s +ℤ k *ℤ pos 0 ≡ s
      once k s = ring_z (k ∷ s ∷ []) (search reading_z depth 40 fits 20000) refl

  items_value : (xs : List Meaning) (l : LinearForm) → form_of_items xs ≡ Some l → horner (value_at (values_in_n p)) p.k xs ≡ form_value l p
  items_value [] l e = nothing p.n p.k ∙ ap (λ l. form_value l p) (same_Some (form_with (pos 0) (pos 0) (pos 0)) l e)
    where
      nothing : (n k : ℤ) → pos 0 ≡ pos 0 *ℤ n +ℤ pos 0 *ℤ k +ℤ pos 0
      nothing n k = ring_z (n ∷ k ∷ []) (search reading_z depth 40 fits 20000) refl
  items_value (c ∷ []) l e = coefficients_value (items c) (pos 0) l e
  items_value (c ∷ d ∷ []) l e = with_slope (items c) (items d) (constant_in_n (items d)) l refl e
  items_value (c ∷ d ∷ b ∷ xs) l e = absurd (none-some l e)

  -- the value of a polynomial is that of its linear form
  pub linear_value : (poly : Meaning) (l : LinearForm) → linear_form_of (Some poly) ≡ Some l → poly_value poly p ≡ form_value l p
  linear_value poly l e = items_value (items poly) l e
