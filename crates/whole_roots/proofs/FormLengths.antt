-- A quotient by a form has fewer coefficients.
use Rattle.std.specs.Prelude.{◌≡◌, ℕ, zero, suc, ◌≤◌, ◌<◌, ℤ, pos, IsTrue, List, [], ◌∷◌, map, length, refl}
use Rattle.std.proofs.Common.{ap, sym, ◌∙◌, ⊎_elim, arith}
use Rattle.std.proofs.lemmas.Bool.{cases_lt}
use Rattle.std.proofs.lemmas.List.{length-map}
use Rattle.ring_laws.specs.Meaning.{number, listed, items, parted-joined}
use Rattle.ring_laws.specs.Algebra.{Ops, RingLaws, Passing, same_passing}
use Rattle.ring_laws.specs.WholeDomain.{whole_domain}
use Rattle.ring_laws.specs.WholeLaws.{whole_laws}
use Rattle.ring_laws.specs.Wholes.{whole_algebra}
use Rattle.ring_laws.specs.declared.wholes.Whole.{Whole}
use Rattle.poly_laws.specs.Lists.{coefficient_at, list_product, is_trimmed}
use Rattle.poly_laws.proofs.Coefficients.{meanings-coefficients, coefficients_trimmed}
use Rattle.poly_laws.proofs.ListLaws.{sum_nought, product_nought, times_zero, times_suc}
use Rattle.poly_laws.proofs.OneQuotient.{NoDivisors}
use Rattle.poly_laws.proofs.PolyDomain.{no_divisors_within}
use Rattle.poly_laws.proofs.PolyLaws.{poly_ring, coefficient-product}
use Rattle.poly_laws.proofs.Trimming.{beyond, last_not}
use Rattle.poly_divide.specs.Forms.{linear}
use Rattle.whole_roots.specs.Differences.{polynomials}
use Rattle.whole_roots.proofs.DifferenceLaws.{base, polynomial_of}
use Rattle.whole_roots.proofs.FormParts.{poly, parts, whole, form_parts, slope_not}
use Rattle.whole_roots.proofs.FormPowers.{form}
use Rattle.whole_roots.proofs.Values.{count_is}

module _ {A : Type 0} (o : Ops A) (l : RingLaws o) where
  -- a constant times a list
  constant_times : (x : A) (ys : List A) (k : ℕ) → coefficient_at o (list_product o (x ∷ []) ys) k ≡ o.product x (coefficient_at o ys k)
  constant_times x ys zero = times_zero o l x [] ys
  constant_times x ys (suc k) = times_suc o l x [] ys k ∙ sum_nought o l (o.product x (coefficient_at o ys (suc k)))

  -- v + u*t times a list with a last coefficient has one coefficient more
  last_of_product : NoDivisors o → (v u x : A) (xs : List A) → ¬ (u ≡ o.nought) → IsTrue (is_trimmed o (x ∷ xs))
      → ¬ (coefficient_at o (list_product o (v ∷ u ∷ []) (x ∷ xs)) (suc (length xs)) ≡ o.nought)
  last_of_product none v u x xs n ended e =
      let product : coefficient_at o (list_product o (v ∷ u ∷ []) (x ∷ xs)) (suc (length xs)) ≡ o.product u (coefficient_at o (x ∷ xs) (length xs)) =
      cc (
        times_suc o l v (u ∷ []) (x ∷ xs) (length xs),
        beyond o (x ∷ xs) (suc (length xs)) (omega arith),
        product_nought o l v,
        constant_times u (x ∷ xs) (length xs),
        l.nought_sum (o.product u (coefficient_at o (x ∷ xs) (length xs))),
      ) in
      ⊎_elim n (last_not o l x xs ended) (none u (coefficient_at o (x ∷ xs) (length xs)) (sym product ∙ e))

module _ (u : ℕ) (v : ℤ) (some : 1 ≤ u) (f q : Passing polynomials) (is : polynomials.ops.product q.0 (linear (pos u) v) ≡ f.0) where
  count : (x : Passing polynomials) → length (items x.0) ≡ length (parts x)
  count x = ap length (sym (meanings-coefficients whole_algebra whole_laws.closed x)) ∙ length-map (parts x) (λ (w : Passing whole_algebra). w.0)

  product_at : (k : ℕ) → coefficient_at base (parts f) k ≡ coefficient_at base (list_product base (whole v ∷ whole (pos u) ∷ []) (parts q)) k
  product_at k =
      ap (λ (x : Passing polynomials). coefficient_at base (parts x) k)
      (sym ((poly_ring whole_algebra whole_laws.closed whole_laws.ring).product_comm (form u v some) q
      ∙ same_passing polynomials (poly.product q (form u v some)) f is))
      ∙ coefficient-product whole_algebra whole_laws.closed whole_laws.ring (form u v some) q k
      ∙ ap (λ t. coefficient_at base (list_product base t (parts q)) k) (form_parts u v some)

  pub shorter_quotient : ¬ (items f.0 ≡ []) → length (items q.0) < length (items f.0)
  shorter_quotient n = by (parts q) refl
    where
      some_left : {A : Type 0} (xs : List A) → ¬ (xs ≡ []) → 0 < length xs
      some_left [] h = absurd (h refl)
      some_left (x ∷ xs) h = omega arith

      by : (xs : List (Passing whole_algebra)) → parts q ≡ xs → length (items q.0) < length (items f.0)
      by [] e = omega (arith, count q, ap length e, some_left (items f.0) n)
      by (x ∷ xs) e =
          ⊎_elim
          (λ (b : suc (length xs) < length (parts f)). omega (arith, count q, count f, ap length e, b))
          (λ (b : length (parts f) ≤ suc (length xs)).
          absurd (last_of_product base whole_laws.ring (no_divisors_within whole_algebra whole_laws.closed whole_domain)
          (whole v) (whole (pos u)) x xs (slope_not u v some)
          (ap (is_trimmed base) (sym e) ∙ coefficients_trimmed whole_algebra whole_laws.closed q)
          (ap (λ t. coefficient_at base (list_product base (whole v ∷ whole (pos u) ∷ []) t) (suc (length xs))) (sym e)
          ∙ sym (product_at (suc (length xs))) ∙ beyond base (parts f) (suc (length xs)) b)))
          (cases_lt (suc (length xs)) (length (parts f)))

-- so has the list of a quotient
pub shorter_list : (u : ℕ) (v : ℤ) → 1 ≤ u → (list next : List Whole)
    → IsTrue (is_trimmed whole_algebra.ops (map (λ (w : Whole). number w.value) list))
    → IsTrue (is_trimmed whole_algebra.ops (map (λ (w : Whole). number w.value) next))
    → ¬ (listed (map (λ (w : Whole). number w.value) list) ≡ listed [])
    → polynomials.ops.product (listed (map (λ (w : Whole). number w.value) next)) (linear (pos u) v)
    ≡ listed (map (λ (w : Whole). number w.value) list)
    → length next < length list
shorter_list u v some list next ended short n is =
    let m = listed (map (λ (w : Whole). number w.value) list) in
    omega (
      arith,
      count_is (listed (map (λ (w : Whole). number w.value) next)) next refl,
      count_is m list refl,
      shorter_quotient u v some (polynomial_of list ended) (polynomial_of next short) is
          (λ e. n (ap listed (sym (parted-joined (map (λ (w : Whole). number w.value) list)) ∙ e))),
    )
