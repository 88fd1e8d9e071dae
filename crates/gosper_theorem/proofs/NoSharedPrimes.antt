-- Where no form of q is a form of r at an earlier k, no prime of q is one of r at the same or a later k.
use Rattle.std.specs.Prelude.{◌≡◌, ◌≢◌, ℕ, suc, ◌+◌, ℤ, pos, negsuc, neg_ℤ, ◌+ℤ◌, [], ◌∷◌}
use Rattle.std.proofs.Common.{ap, sym, ◌∙◌, subst, refl, arith}
use Rattle.std.proofs.lemmas.Int.{ints}
use Rattle.std.proofs.Math.IntN.{pow}
use Rattle.std.specs.List.{AllByRecursion}
use Rattle.poly_laws.specs.Values.{level}
use Rattle.poly_laws.proofs.Equal.{level_laws}
use Rattle.division_laws.specs.Polynomials.{Polynomial}
use Rattle.division_laws.specs.Divisors.{Divides}
use Rattle.division_laws.proofs.Shifts.{at_later, later_twice, later_by_none}
use Rattle.division_laws.proofs.ShiftedDivisors.{later_divides, later_prime}
use Rattle.hypergeometric.specs.Point.{later_k}
use Rattle.hypergeometric.specs.LinearForm.{LinearForm, FactorList}
use Rattle.hypergeometric.specs.FormOrder.{IsPrimitive}
use Rattle.hypergeometric.specs.FactorLists.{factor_with, power_of}
use Rattle.hypergeometric.specs.Products.{list_polynomial}
use Rattle.term_pieces.specs.Products.{at_later_k}
use Rattle.term_pieces.specs.NormalForm.{at_earlier_k, HasNoMatch}
use Rattle.term_pieces.proofs.FormValues.{later_k_value, lone_value}
use Rattle.term_pieces.proofs.EarlierForms.{and_back}
use Rattle.pole_laws.proofs.Cancelling.{form_in_k, lone_form}
use Rattle.pole_laws.proofs.Domains.{in_n_domain}
use Rattle.pole_laws.proofs.FormProducts.{forms_in_k}
use Rattle.pole_laws.proofs.NormalPolynomials.{shift_by, list_in, same_polynomials, shift_at, forms_alone}
use Rattle.gosper_theorem.proofs.ShiftFamilies.{up, down}
use Rattle.gosper_theorem.proofs.FormDivisors.{Prime, FormOf, form_of}
use Rattle.gosper_theorem.proofs.LaterForms.{later_primitive}
use Rattle.gosper_theorem.proofs.SharedPrimes.{same_forms}

-- each form of the list is primitive and has a k slope
abbrev pub AreProper : FactorList → Type 0
AreProper l = (f : LinearForm) → power_of f l.factors ≢ 0 → IsPrimitive f × (f.k_slope ≢ pos 0)

later : ℤ → Polynomial (level 1) → Polynomial (level 1)
later w f = at_later (level 1) (level_laws 1) w f

later_form : (h : ℤ) (f : LinearForm) → shift_by h (form_in_k f) ≡ form_in_k (at_later_k f h)
later_form h f =
    ap (shift_by h) (sym (lone_form f))
    ∙ same_polynomials (shift_by h (forms_in_k (factor_with f 1 ∷ []))) (forms_in_k (factor_with (at_later_k f h) 1 ∷ []))
    (λ p. shift_at h (forms_in_k (factor_with f 1 ∷ [])) p ∙ forms_alone (factor_with f 1 ∷ []) (later_k p h) ∙ lone_value f 1 (later_k p h)
    ∙ sym (forms_alone (factor_with (at_later_k f h) 1 ∷ []) p ∙ lone_value (at_later_k f h) 1 p ∙ ap (λ t. pow t 1) (later_k_value f h p)))
    ∙ lone_form (at_later_k f h)

module _ (q r : FactorList) (no_match : HasNoMatch q.factors r.factors) (proper_q : AreProper q) (proper_r : AreProper r)
    (some_q : ¬ (list_polynomial q ≡ (level 2).ops.nought)) (some_r : ¬ (list_polynomial r ≡ (level 2).ops.nought))
    (powers_q : AllByRecursion (λ x. x.power ≢ 0) q.factors) (powers_r : AllByRecursion (λ x. x.power ≢ 0) r.factors)
    (p : Polynomial (level 1)) (prime : Prime p) (i j : ℕ) where
  abbrev top : Polynomial (level 1)
  top = up (level 1) (level_laws 1) in_n_domain p (suc i)

  abbrev bottom : Polynomial (level 1)
  bottom = shift_by (pos 1) (down (level 1) (level_laws 1) in_n_domain p j)

  steps : (x y z : ℤ) (f : Polynomial (level 1)) → x +ℤ y ≡ z → shift_by y (shift_by x f) ≡ shift_by z f
  steps x y z f e = later_twice (level 1) (level_laws 1) y x f ∙ ap (λ t. shift_by t f) e

  top_prime : Prime top
  top_prime = later_prime (level 1) (level_laws 1) in_n_domain (pos (suc i)) p prime

  bottom_prime : Prime bottom
  bottom_prime =
      later_prime (level 1) (level_laws 1) in_n_domain (pos 1) (down (level 1) (level_laws 1) in_n_domain p j)
      (later_prime (level 1) (level_laws 1) in_n_domain (neg_ℤ (pos j)) p prime)

  back : shift_by (pos 1) (shift_by (negsuc 0) (list_in r)) ≡ list_in r
  back = steps (negsuc 0) (pos 1) (pos 0) (list_in r) (none) ∙ later_by_none (level 1) (level_laws 1) (list_in r)
    where
      none : negsuc 0 +ℤ pos 1 ≡ pos 0
      none = omega (arith, ints)

  together : shift_by (pos (i + j)) bottom ≡ top
  together =
      ap (shift_by (pos (i + j))) (steps (neg_ℤ (pos j)) (pos 1) (neg_ℤ (pos j) +ℤ pos 1) p refl_of)
      ∙ steps (neg_ℤ (pos j) +ℤ pos 1) (pos (i + j)) (pos (suc i)) p (sum i j)
    where
      refl_of : neg_ℤ (pos j) +ℤ pos 1 ≡ neg_ℤ (pos j) +ℤ pos 1
      refl_of = refl

      sum : (i j : ℕ) → (neg_ℤ (pos j) +ℤ pos 1) +ℤ pos (i + j) ≡ pos (suc i)
      sum i j = omega (arith, ints)

  pub no_shared_prime : Divides (level 1) (up (level 1) (level_laws 1) in_n_domain p (suc i)) (list_in q)
      → Divides (level 1) (down (level 1) (level_laws 1) in_n_domain p j) (shift_by (negsuc 0) (list_in r)) → ⊥
  no_shared_prime of_q of_r =
      t.some (sym (ap (λ f. power_of f r.factors) (ap (λ f. at_earlier_k f (i + j)) same ∙ and_back t.form (i + j))) ∙ no_match s.form (i + j) s.some)
    where
      s : FormOf (up (level 1) (level_laws 1) in_n_domain p (suc i)) q.factors
      s = form_of top top_prime q some_q powers_q of_q

      t : FormOf (shift_by (pos 1) (down (level 1) (level_laws 1) in_n_domain p j)) r.factors
      t = form_of bottom bottom_prime r some_r powers_r
          (subst (Divides (level 1) bottom) back
          (later_divides (level 1) (level_laws 1) in_n_domain (pos 1) (down (level 1) (level_laws 1) in_n_domain p j) (shift_by (negsuc 0) (list_in r)) of_r))

      of_t : Divides (level 1) (up (level 1) (level_laws 1) in_n_domain p (suc i)) (form_in_k (at_later_k t.form (pos (i + j))))
      of_t =
          subst (Divides (level 1) top) (later_form (pos (i + j)) t.form)
          (subst (λ z. Divides (level 1) z (shift_by (pos (i + j)) (form_in_k t.form))) together
          (later_divides (level 1) (level_laws 1) in_n_domain (pos (i + j)) bottom (form_in_k t.form)
          (subst (Divides (level 1) bottom) (lone_form t.form) t.divides)))

      same : s.form ≡ at_later_k t.form (pos (i + j))
      same =
          let of_s = proper_q s.form s.some in
          let from_r = proper_r t.form t.some in
          same_forms top top_prime s.form (at_later_k t.form (pos (i + j))) of_s.1 from_r.1 of_s.0
          (later_primitive t.form (pos (i + j)) from_r.1 from_r.0) (subst (Divides (level 1) top) (lone_form s.form) s.divides) of_t
