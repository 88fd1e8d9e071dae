-- A form that divides a polynomial gives a root of the stretched one.
use Rattle.std.specs.Prelude.{◌≡◌, ℕ, zero, suc, ◌≤◌, ◌^◌, ℤ, pos, ◌+ℤ◌, ◌*ℤ◌, neg_ℤ, IsTrue, not, List, [], ◌∷◌, length, refl}
use Rattle.std.proofs.Common.{ap, sym, ◌∙◌, ⊎_elim, pow-suc}
use Rattle.std.proofs.lemmas.Bool.{false_from_ne_true}
use Rattle.std.proofs.lemmas.List.{length-map}
use Rattle.ring_laws.specs.Meaning.{items, parted-joined}
use Rattle.ring_laws.specs.Algebra.{Ops, RingLaws, Passing, same_passing}
use Rattle.ring_laws.specs.WholeDomain.{whole_domain}
use Rattle.ring_laws.specs.WholeLaws.{whole_laws}
use Rattle.ring_laws.specs.Wholes.{whole_algebra, number_of}
use Rattle.ring_solver.proofs.Read.{ring_z, reading_z}
use Rattle.poly_laws.specs.Lists.{coefficient_at, list_product, trimmed, is_trimmed}
use Rattle.poly_laws.specs.Values.{horner}
use Rattle.poly_laws.proofs.Coefficients.{meanings_of, meanings-coefficients, coefficients_trimmed, coefficients-product}
use Rattle.poly_laws.proofs.ListLaws.{sum_nought, product_nought, times_zero, times_suc}
use Rattle.poly_laws.proofs.OneQuotient.{NoDivisors}
use Rattle.poly_laws.proofs.PolyDomain.{no_divisors_within}
use Rattle.poly_laws.proofs.Trimming.{trimmed_same, trimmed_already, last_not}
use Rattle.poly_divide.specs.Forms.{linear}
use Rattle.whole_roots.specs.Differences.{polynomials}
use Rattle.whole_roots.specs.FactorBounds.{stretched_list, stretched}
use Rattle.whole_roots.specs.LinearFactors.{PowerDivides}
use Rattle.whole_roots.specs.Roots.{IsRoot}
use Rattle.whole_roots.proofs.DifferenceLaws.{base}
use Rattle.whole_roots.proofs.FormParts.{poly, parts, whole, form_parts, slope_not}
use Rattle.whole_roots.proofs.FormPowers.{form, one_division}

-- c and the products of a list with v + u*t, from power 0 up
abbrev pub times_form : {A : Type 0} → Ops A → A → A → A → List A → List A
times_form o u v c [] = c ∷ []
times_form o u v c (q ∷ qs) = o.sum (o.product v q) c ∷ times_form o u v (o.product u q) qs

module _ {A : Type 0} (o : Ops A) (l : RingLaws o) (u v : A) where
  times_form_at : (c : A) (qs : List A) (k : ℕ)
      → coefficient_at o (times_form o u v c qs) k ≡ o.sum (coefficient_at o (list_product o qs (v ∷ u ∷ [])) k) (coefficient_at o (c ∷ []) k)
  times_form_at c [] zero = sym (l.nought_sum c)
  times_form_at c [] (suc k) = sym (l.nought_sum o.nought)
  times_form_at c (q ∷ qs) zero = cc (times_zero o l q qs (v ∷ u ∷ []), l.product_comm v q)
  times_form_at c (q ∷ qs) (suc zero) =
      cc (
        times_form_at (o.product u q) qs 0,
        times_suc o l q qs (v ∷ u ∷ []) 0,
        l.product_comm u q,
        l.sum_comm (coefficient_at o (list_product o qs (v ∷ u ∷ [])) 0) (o.product u q),
        sum_nought o l (o.sum (o.product q u) (coefficient_at o (list_product o qs (v ∷ u ∷ [])) 0)),
      )
  times_form_at c (q ∷ qs) (suc (suc k)) =
      cc (
        times_form_at (o.product u q) qs (suc k),
        times_suc o l q qs (v ∷ u ∷ []) (suc k),
        product_nought o l q,
        l.nought_sum (coefficient_at o (list_product o qs (v ∷ u ∷ [])) (suc k)),
      )

  times_form_ended : NoDivisors o → ¬ (u ≡ o.nought) → (c q : A) (qs : List A) → IsTrue (is_trimmed o (q ∷ qs))
      → IsTrue (is_trimmed o (times_form o u v c (q ∷ qs)))
  times_form_ended none n c q [] h =
      ap not (false_from_ne_true (o.is_nought (o.product u q))
      (λ e. ⊎_elim n (last_not o l q [] h) (none u q ((l.is_nought (o.product u q)).0 e))))
  times_form_ended none n c q (x ∷ xs) h = times_form_ended none n (o.product u q) x xs h

  -- the greatest coefficient is that of the list, times u
  pub times_form_lead : (c q : A) (qs : List A)
      → coefficient_at o (times_form o u v c (q ∷ qs)) (suc (length qs)) ≡ o.product u (coefficient_at o (q ∷ qs) (length qs))
  times_form_lead c q [] = refl
  times_form_lead c q (x ∷ xs) = times_form_lead (o.product u q) x xs

  pub times_form_length : (c : A) (qs : List A) → length (times_form o u v c qs) ≡ suc (length qs)
  times_form_length c [] = refl
  times_form_length c (q ∷ qs) = ap suc (times_form_length (o.product u q) qs)

no_more : (a z : ℤ) → a +ℤ z *ℤ pos 0 ≡ a
no_more a z = ring_z (a ∷ z ∷ []) (search reading_z depth 40 fits 20000) refl

cancelled : (v q c p u : ℤ) → (v *ℤ q +ℤ c) *ℤ (p *ℤ u) +ℤ neg_ℤ v *ℤ (u *ℤ q *ℤ p) ≡ c *ℤ (p *ℤ u)
cancelled v q c p u = ring_z (v ∷ q ∷ c ∷ p ∷ u ∷ []) (search reading_z depth 40 fits 20000) refl

module _ (u : ℕ) (v : ℤ) where
  abbrev pub stretched_value : List (Passing whole_algebra) → ℤ
  stretched_value xs = horner number_of (neg_ℤ v) (stretched_list u (meanings_of whole_algebra whole_laws.closed xs))

  -- at -v only what came from below is left
  times_form_value : (c : Passing whole_algebra) (qs : List (Passing whole_algebra))
      → stretched_value (times_form base (whole (pos u)) (whole v) c qs) ≡ number_of c.0 *ℤ pos (u ^ length qs)
  times_form_value c [] = no_more (number_of c.0 *ℤ pos (u ^ 0)) (neg_ℤ v)
  times_form_value c (q ∷ qs) =
      let rest = times_form base (whole (pos u)) (whole v) (base.product (whole (pos u)) q) qs in
      let n : length (meanings_of whole_algebra whole_laws.closed rest) ≡ suc (length qs) =
      length-map rest (λ (x : Passing whole_algebra). x.0)
      ∙ times_form_length base whole_laws.ring (whole (pos u)) (whole v) (base.product (whole (pos u)) q) qs in
      let more : pos (u ^ suc (length qs)) ≡ pos (u ^ length qs) *ℤ pos u = ap pos (pow-suc u (length qs)) in
      (λ i. (v *ℤ number_of q.0 +ℤ number_of c.0) *ℤ pos (u ^ n i) +ℤ neg_ℤ v *ℤ times_form_value (base.product (whole (pos u)) q) qs i)
      ∙ ap (λ (z : ℤ). (v *ℤ number_of q.0 +ℤ number_of c.0) *ℤ z +ℤ neg_ℤ v *ℤ (pos u *ℤ number_of q.0 *ℤ pos (u ^ length qs))) more
      ∙ cancelled v (number_of q.0) (number_of c.0) (pos (u ^ length qs)) (pos u)
      ∙ ap (λ (z : ℤ). number_of c.0 *ℤ z) (sym more)

  pub same_list : (qs : List (Passing whole_algebra)) (k : ℕ)
      → coefficient_at base (list_product base qs (whole v ∷ whole (pos u) ∷ [])) k
      ≡ coefficient_at base (times_form base (whole (pos u)) (whole v) base.nought qs) k
  same_list qs zero = sym (times_form_at base whole_laws.ring (whole (pos u)) (whole v) base.nought qs 0
      ∙ sum_nought base whole_laws.ring (coefficient_at base (list_product base qs (whole v ∷ whole (pos u) ∷ [])) 0))
  same_list qs (suc k) = sym (times_form_at base whole_laws.ring (whole (pos u)) (whole v) base.nought qs (suc k)
      ∙ sum_nought base whole_laws.ring (coefficient_at base (list_product base qs (whole v ∷ whole (pos u) ∷ [])) (suc k)))

  pub none_times : (z : ℤ) → pos 0 *ℤ z ≡ pos 0
  none_times z = ring_z (z ∷ []) (search reading_z depth 40 fits 20000) refl

  module _ (some : 1 ≤ u) (f q : Passing polynomials) (is : polynomials.ops.product q.0 (linear (pos u) v) ≡ f.0) where
    product_parts : parts f ≡ trimmed base (list_product base (parts q) (whole v ∷ whole (pos u) ∷ []))
    product_parts =
        ap parts (sym (same_passing polynomials (poly.product q (form u v some)) f is))
        ∙ coefficients-product whole_algebra whole_laws.closed q (form u v some)
        ∙ ap (λ t. trimmed base (list_product base (parts q) t)) (form_parts u v some)

    -- where the quotient is [], so is f, and else f is its product with the form, which ends as the quotient does
    pub product_none : parts q ≡ [] → parts f ≡ []
    product_none e = product_parts ∙ ap (λ t. trimmed base (list_product base t (whole v ∷ whole (pos u) ∷ []))) e

    pub product_form : (x : Passing whole_algebra) (xs : List (Passing whole_algebra)) → parts q ≡ x ∷ xs
        → parts f ≡ times_form base (whole (pos u)) (whole v) base.nought (x ∷ xs)
    product_form x xs e =
        product_parts ∙ ap (λ t. trimmed base (list_product base t (whole v ∷ whole (pos u) ∷ []))) e
        ∙ trimmed_same base whole_laws.ring (list_product base (x ∷ xs) (whole v ∷ whole (pos u) ∷ []))
        (times_form base (whole (pos u)) (whole v) base.nought (x ∷ xs)) (same_list (x ∷ xs))
        ∙ trimmed_already base (times_form base (whole (pos u)) (whole v) base.nought (x ∷ xs))
        (times_form_ended base whole_laws.ring (whole (pos u)) (whole v) (no_divisors_within whole_algebra whole_laws.closed whole_domain)
        (slope_not u v some) base.nought x xs
        (ap (is_trimmed base) (sym e) ∙ coefficients_trimmed whole_algebra whole_laws.closed q))

    value_none : stretched_value (parts f) ≡ pos 0
    value_none = by (parts q) refl
      where
        by : (qs : List (Passing whole_algebra)) → parts q ≡ qs → stretched_value (parts f) ≡ pos 0
        by [] e = ap stretched_value (product_none e)
        by (x ∷ xs) e =
            ap stretched_value (product_form x xs e) ∙ times_form_value base.nought (x ∷ xs) ∙ none_times (pos (u ^ length (x ∷ xs)))

    quotient_gives_root : IsRoot (stretched u f.0) (neg_ℤ v)
    quotient_gives_root =
        ap (horner number_of (neg_ℤ v)) (parted-joined (stretched_list u (items f.0)))
        ∙ ap (λ xs. horner number_of (neg_ℤ v) (stretched_list u xs)) (sym (meanings-coefficients whole_algebra whole_laws.closed f))
        ∙ value_none

-- -v is a root of u^degree * f(n/u) where u*n + v divides f
pub factor_gives_root : (u : ℕ) (v : ℤ) → 1 ≤ u → (f : Passing polynomials) → PowerDivides u v 1 f.0 → IsRoot (stretched u f.0) (neg_ℤ v)
factor_gives_root u v some f d = quotient_gives_root u v some f d.quotient (one_division u v some f d)
