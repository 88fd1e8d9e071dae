-- A form of the profile that divides a product with a number, or with another form, divides the other factor.
use Rattle.std.specs.Prelude.{◌≡◌, ◌≢◌, ℕ, zero, suc, ◌≤◌, ◌^◌, ℤ, pos, ◌+ℤ◌, ◌-ℤ◌, ◌*ℤ◌, neg_ℤ, IsTrue, not, List, [], ◌∷◌, map, length, refl}
use Rattle.std.proofs.Common.{ap, sym, ◌∙◌, ⊎_elim, pow-suc}
use Rattle.std.proofs.lemmas.Bool.{false_from_ne_true}
use Rattle.std.proofs.lemmas.List.{length-map}
use Rattle.ring_solver.proofs.Read.{ring_z, reading_z}
use Rattle.ring_laws.specs.Meaning.{number, items, parted-joined}
use Rattle.ring_laws.specs.Algebra.{Passing, same_passing}
use Rattle.ring_laws.specs.WholeDomain.{whole_domain}
use Rattle.ring_laws.specs.WholeLaws.{whole_laws}
use Rattle.ring_laws.specs.Wholes.{whole_algebra, number_of}
use Rattle.poly_laws.specs.Lists.{coefficient_at, is_trimmed}
use Rattle.poly_laws.specs.Values.{horner}
use Rattle.poly_laws.proofs.Coefficients.{meanings_of, meanings-coefficients, coefficients_trimmed}
use Rattle.poly_laws.proofs.ListLaws.{product_nought}
use Rattle.poly_laws.proofs.PolyDomain.{no_divisors_within}
use Rattle.poly_laws.proofs.Trimming.{trimmed_same, trimmed_already, last_not}
use Rattle.poly_divide.specs.Forms.{linear}
use Rattle.whole_roots.specs.Differences.{polynomials}
use Rattle.whole_roots.specs.FactorBounds.{stretched_list, stretched}
use Rattle.whole_roots.specs.LinearFactors.{IsProfileForm, PowerDivides}
use Rattle.whole_roots.specs.Signs.{value}
use Rattle.whole_roots.proofs.FactorRoots.{times_form, times_form_length, stretched_value, product_form, factor_gives_root}
use Rattle.whole_roots.proofs.RootFactors.{root_gives_factor}
use Rattle.reducing.specs.Laws.FactorLists.{laws, P, linear_is_factor}
use Rattle.reducing.proofs.Cofactors.{cross}
use Rattle.reducing.proofs.ContentQuotients.{o, polys, parts, by_number}

abbrev whole : ℤ → Passing whole_algebra
whole z = (number z, refl)

abbrev pub form : (u : ℕ) (v : ℤ) → 1 ≤ u → Passing polynomials
form u v some = (linear (pos u) v, (linear_is_factor u v some).0)

times_zero : (z : ℤ) → z *ℤ pos 0 ≡ pos 0
times_zero z = ring_z (z ∷ []) (search reading_z depth 40 fits 20000) refl

-- ---- a number times a list
abbrev numbered : Passing whole_algebra → List (Passing whole_algebra) → List (Passing whole_algebra)
numbered c xs = map (λ x. o.product c x) xs

numbered_at : (c : Passing whole_algebra) (xs : List (Passing whole_algebra)) (k : ℕ)
    → coefficient_at o (numbered c xs) k ≡ o.product c (coefficient_at o xs k)
numbered_at c [] k = sym (product_nought o whole_laws.ring c)
numbered_at c (x ∷ xs) zero = refl
numbered_at c (x ∷ xs) (suc k) = numbered_at c xs k

numbered_ended : (c : Passing whole_algebra) → ¬ (c ≡ o.nought) → (xs : List (Passing whole_algebra)) → IsTrue (is_trimmed o xs)
    → IsTrue (is_trimmed o (numbered c xs))
numbered_ended c n [] h = refl
numbered_ended c n (x ∷ []) h =
    ap not (false_from_ne_true (o.is_nought (o.product c x))
    (λ e. ⊎_elim n (last_not o whole_laws.ring x [] h)
    (no_divisors_within whole_algebra whole_laws.closed whole_domain c x ((whole_laws.ring.is_nought (o.product c x)).0 e))))
numbered_ended c n (x ∷ y ∷ ys) h = numbered_ended c n (y ∷ ys) h

number_parts : (c : ℤ) → c ≢ pos 0 → (x : Passing polynomials) → parts (P.product x (P.whole c)) ≡ numbered (o.whole c) (parts x)
number_parts c n x =
    ap parts (same_passing polynomials (P.product x (P.whole c)) product refl)
    ∙ sym (trimmed_already o (parts product) (coefficients_trimmed whole_algebra whole_laws.closed product))
    ∙ trimmed_same o whole_laws.ring (parts product) (numbered (o.whole c) (parts x)) (λ k. by_number c x k ∙ sym (numbered_at (o.whole c) (parts x) k))
    ∙ trimmed_already o (numbered (o.whole c) (parts x))
    (numbered_ended (o.whole c) (λ e. n (ap (λ (y : Passing whole_algebra). number_of y.0) e)) (parts x)
    (coefficients_trimmed whole_algebra whole_laws.closed x))
  where
    product : Passing polynomials
    product = polys.product x (polys.whole c)

spread : (c x p s v : ℤ) → c *ℤ x *ℤ p +ℤ neg_ℤ v *ℤ (c *ℤ s) ≡ c *ℤ (x *ℤ p +ℤ neg_ℤ v *ℤ s)
spread c x p s v = ring_z (c ∷ x ∷ p ∷ s ∷ v ∷ []) (search reading_z depth 40 fits 20000) refl

no_more : (a z r : ℤ) → a +ℤ z *ℤ pos 0 ≡ a +ℤ r *ℤ pos 0
no_more a z r = ring_z (a ∷ z ∷ r ∷ []) (search reading_z depth 40 fits 20000) refl

regrouped : (w v q c b u p s : ℤ)
    → (w *ℤ q +ℤ c) *ℤ (b *ℤ u) +ℤ neg_ℤ v *ℤ (p *ℤ q *ℤ b +ℤ (w *ℤ u -ℤ p *ℤ v) *ℤ s)
    ≡ c *ℤ (b *ℤ u) +ℤ (w *ℤ u -ℤ p *ℤ v) *ℤ (q *ℤ b +ℤ neg_ℤ v *ℤ s)
regrouped w v q c b u p s = ring_z (w ∷ v ∷ q ∷ c ∷ b ∷ u ∷ p ∷ s ∷ []) (search reading_z depth 40 fits 20000) refl

count : (xs : List (Passing whole_algebra)) → length (meanings_of whole_algebra whole_laws.closed xs) ≡ length xs
count xs = length-map xs (λ (x : Passing whole_algebra). x.0)

module _ (u : ℕ) (v : ℤ) where
  -- ---- values at -v of what is stretched by u
  numbered_value : (c : Passing whole_algebra) (xs : List (Passing whole_algebra))
      → stretched_value u v (numbered c xs) ≡ number_of c.0 *ℤ stretched_value u v xs
  numbered_value c [] = sym (times_zero (number_of c.0))
  numbered_value c (x ∷ xs) =
      let n : length (meanings_of whole_algebra whole_laws.closed (numbered c xs)) ≡ length (meanings_of whole_algebra whole_laws.closed xs) =
      count (numbered c xs) ∙ length-map xs (λ y. o.product c y) ∙ sym (count xs) in
      (λ i. number_of c.0 *ℤ number_of x.0 *ℤ pos (u ^ n i) +ℤ neg_ℤ v *ℤ numbered_value c xs i)
      ∙ spread (number_of c.0) (number_of x.0) (pos (u ^ length (meanings_of whole_algebra whole_laws.closed xs))) (stretched_value u v xs) v

  -- the products with w + p*t have the value of that form, times that of the list
  product_value : (p : ℕ) (w : ℤ) (c : Passing whole_algebra) (qs : List (Passing whole_algebra))
      → stretched_value u v (times_form o (whole (pos p)) (whole w) c qs)
      ≡ number_of c.0 *ℤ pos (u ^ length qs) +ℤ cross u v p w *ℤ stretched_value u v qs
  product_value p w c [] = no_more (number_of c.0 *ℤ pos (u ^ 0)) (neg_ℤ v) (cross u v p w)
  product_value p w c (q ∷ qs) =
      let rest = times_form o (whole (pos p)) (whole w) (o.product (whole (pos p)) q) qs in
      let n : length (meanings_of whole_algebra whole_laws.closed rest) ≡ suc (length qs) =
      count rest ∙ times_form_length o whole_laws.ring (whole (pos p)) (whole w) (o.product (whole (pos p)) q) qs in
      let more : pos (u ^ suc (length qs)) ≡ pos (u ^ length qs) *ℤ pos u = ap pos (pow-suc u (length qs)) in
      (λ i. (w *ℤ number_of q.0 +ℤ number_of c.0) *ℤ pos (u ^ n i) +ℤ neg_ℤ v *ℤ product_value p w (o.product (whole (pos p)) q) qs i)
      ∙ ap (λ (z : ℤ). (w *ℤ number_of q.0 +ℤ number_of c.0) *ℤ z
      +ℤ neg_ℤ v *ℤ (pos p *ℤ number_of q.0 *ℤ pos (u ^ length qs) +ℤ cross u v p w *ℤ stretched_value u v qs)) more
      ∙ regrouped w v (number_of q.0) (number_of c.0) (pos (u ^ length qs)) (pos u) (pos p) (stretched_value u v qs)
      ∙ ap (λ (z : ℤ). number_of c.0 *ℤ z
      +ℤ cross u v p w *ℤ (number_of q.0 *ℤ pos (u ^ length qs) +ℤ neg_ℤ v *ℤ stretched_value u v qs)) (sym more)
      ∙ ap (λ (k : ℕ). number_of c.0 *ℤ pos (u ^ suc (length qs))
      +ℤ cross u v p w *ℤ (number_of q.0 *ℤ pos (u ^ k) +ℤ neg_ℤ v *ℤ stretched_value u v qs)) (sym (count qs))

  value_is : (f : Passing polynomials) → value (stretched u f.0) (neg_ℤ v) ≡ stretched_value u v (parts f)
  value_is f =
      ap (horner number_of (neg_ℤ v)) (parted-joined (stretched_list u (items f.0)))
      ∙ ap (λ xs. horner number_of (neg_ℤ v) (stretched_list u xs)) (sym (meanings-coefficients whole_algebra whole_laws.closed f))

-- where a number that isn't 0, times another one, is 0, the other one is
other_zero : (c z : ℤ) → c ≢ pos 0 → c *ℤ z ≡ pos 0 → z ≡ pos 0
other_zero c z n e =
    ⊎_elim (λ d. absurd (n (ap number_of d))) (λ d. ap number_of d) (whole_domain.no_divisors (whole c) (whole z) (ap number e))

-- r has no factor in common with t: where t divides a multiple of r, it divides what is multiplied
abbrev pub IsBeside : Passing polynomials → Passing polynomials → Type 0
IsBeside t r = (x q : Passing polynomials) → P.product x r ≡ P.product q t → (y : Passing polynomials) × (x ≡ P.product y t)

module _ (u : ℕ) (v : ℤ) (profile : IsProfileForm u v) where
  abbrev t : Passing polynomials
  t = form u v profile.from_one

  -- a form once
  once : (q : Passing polynomials) → P.product q (P.product P.unit t) ≡ P.product q t
  once q = ap (P.product q) (laws.ring.unit_product t)

  -- a multiple of the form has the value 0
  multiple_value : (f q : Passing polynomials) → f ≡ P.product q t → stretched_value u v (parts f) ≡ pos 0
  multiple_value f q e =
      sym (value_is u v f)
      ∙ factor_gives_root u v profile.from_one f
      (record { quotient = q; is = ap (λ (y : Passing polynomials). y.0) (once q ∙ sym e) })

  -- and what has it is a multiple
  zero_value : (x : Passing polynomials) → stretched_value u v (parts x) ≡ pos 0 → (y : Passing polynomials) × (x ≡ P.product y t)
  zero_value x e =
      let d : PowerDivides u v 1 x.0 = root_gives_factor u v profile x (value_is u v x ∙ e) in
      (d.quotient, sym (same_passing polynomials (P.product d.quotient (P.product P.unit t)) x d.is) ∙ once d.quotient)

  pub number_beside : (c : ℤ) → c ≢ pos 0 → IsBeside t (P.whole c)
  number_beside c n x q e =
      zero_value x
      (other_zero c (stretched_value u v (parts x)) n
      (sym (numbered_value u v (o.whole c) (parts x)) ∙ ap (stretched_value u v) (sym (number_parts c n x))
      ∙ multiple_value (P.product x (P.whole c)) q e))

  pub form_beside : (p : ℕ) (w : ℤ) (some : 1 ≤ p) → cross u v p w ≢ pos 0 → IsBeside t (form p w some)
  form_beside p w some n x q e = zero_value x (by (parts x) refl)
    where
      cleared : (a b : ℤ) → pos 0 *ℤ a +ℤ b ≡ b
      cleared a b = ring_z (a ∷ b ∷ []) (search reading_z depth 40 fits 20000) refl

      by : (xs : List (Passing whole_algebra)) → parts x ≡ xs → stretched_value u v (parts x) ≡ pos 0
      by [] f = ap (stretched_value u v) f
      by (y ∷ ys) f =
          ap (stretched_value u v) f
          ∙ other_zero (cross u v p w) (stretched_value u v (y ∷ ys)) n
          (sym (cleared (pos (u ^ length (y ∷ ys))) (cross u v p w *ℤ stretched_value u v (y ∷ ys)))
          ∙ sym (product_value u v p w o.nought (y ∷ ys))
          ∙ ap (stretched_value u v) (sym (product_form p w some (P.product x (form p w some)) x refl y ys f))
          ∙ multiple_value (P.product x (form p w some)) q e)
