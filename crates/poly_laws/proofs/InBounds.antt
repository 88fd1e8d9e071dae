-- When the operations on polynomials are in bounds.
use Rattle.std.specs.Prelude.{◌≡◌, ℕ, ◌<◌, ◌≤◌, ◌⊎◌, List, map, length}
use Rattle.std.proofs.Common.{ap, sym, ◌∙◌, subst, inl, inr, arith}
use Rattle.std.proofs.lemmas.List.{length-map}
use Rattle.std.proofs.lemmas.Bool.{cases_lt}
use Rattle.ring_laws.specs.Meaning.{Meaning, items}
use Rattle.ring_laws.specs.Algebra.{Ops, Algebra, Passing, within, Laws, SumInBounds, ProductInBounds}
use Rattle.poly_laws.specs.Bounds.{ListSumInBounds, ListProductInBounds}
use Rattle.poly_laws.specs.Lists.{coefficient_at, list_product, trimmed}
use Rattle.poly_laws.specs.PolyAlgebra.{poly_algebra}
use Rattle.poly_laws.proofs.Coefficients.{meanings_of, meanings-trimmed, coefficients, meanings-coefficients, poly_closed}
use Rattle.poly_laws.proofs.Fitting.{coefficient-magnitude_sum, coefficient-magnitude_product, item_at, FitsAt, fits_at, at_fits}
use Rattle.poly_laws.proofs.ListMagnitudes.{fits_by}
use Rattle.poly_laws.proofs.ListsInBounds.{magnitude_product, magnitude_product_is, product_fits, product_in_bounds_where}
use Rattle.poly_laws.proofs.Trimming.{at_trimmed, is_trimmed_trimmed, beyond, length_within}

module _ (a : Algebra) (l : Laws a) where
  abbrev base : Ops (Passing a)
  base = within a l.closed

  abbrev poly : Ops (Passing (poly_algebra a))
  poly = within (poly_algebra a) (poly_closed a l.closed)

  abbrev f : List (Passing a) → List Meaning
  f xs = meanings_of a l.closed xs

  pub fits_sum_at : (x y : Passing (poly_algebra a)) (k : ℕ)
      → base.sum (base.magnitude (coefficient_at base (coefficients a l.closed x) k))
      (base.magnitude (coefficient_at base (coefficients a l.closed y) k))
      ≡ coefficient_at base (coefficients a l.closed (poly.sum (poly.magnitude x) (poly.magnitude y))) k
  fits_sum_at x y k = sym (coefficient-magnitude_sum a l.closed l.ring l.magnitudes x y k)

  item : (x : Passing (poly_algebra a)) (k : ℕ) → coefficient_at a.ops (items x.0) k ≡ (coefficient_at base (coefficients a l.closed x) k).0
  item x k = item_at a l.closed l.ring l.magnitudes x k

  both_items : (x y : Passing (poly_algebra a)) (k : ℕ)
      → a.ops.sum (a.ops.magnitude (coefficient_at a.ops (items x.0) k)) (a.ops.magnitude (coefficient_at a.ops (items y.0) k))
      ≡ (coefficient_at base (coefficients a l.closed (poly.sum (poly.magnitude x) (poly.magnitude y))) k).0
  both_items x y k = cc (item x k, item y k, ap (λ (t : Passing a). t.0) (fits_sum_at x y k))

  pub sums_in_bounds : (x y : Passing (poly_algebra a)) → SumInBounds (poly_algebra a) x.0 y.0 → ListSumInBounds a (items x.0) (items y.0)
  sums_in_bounds x y h k p q =
      subst a.ops.Fits (sym (both_items x y k)) ((fits_at a l.closed l.ring l.magnitudes (poly.sum (poly.magnitude x) (poly.magnitude y)) h).each k)

  nought_magnitudes : base.sum (base.magnitude base.nought) (base.magnitude base.nought) ≡ base.nought
  nought_magnitudes = cc (l.magnitudes.of_nought, l.ring.nought_sum base.nought)

  left_only : (u v : Passing a) → v ≡ base.nought → base.sum (base.magnitude u) (base.magnitude v) ≡ base.magnitude u
  left_only u v e = cc (e, l.magnitudes.of_nought, l.ring.sum_comm (base.magnitude u) base.nought, l.ring.nought_sum (base.magnitude u))

  right_only : (u v : Passing a) → u ≡ base.nought → base.sum (base.magnitude u) (base.magnitude v) ≡ base.magnitude v
  right_only u v e = cc (e, l.magnitudes.of_nought, l.ring.nought_sum (base.magnitude v))

  pub in_bounds_sums : (x y : Passing (poly_algebra a)) → poly.Fits x → poly.Fits y → ListSumInBounds a (items x.0) (items y.0)
      → SumInBounds (poly_algebra a) x.0 y.0
  in_bounds_sums x y hx hy h =
      at_fits a l.closed l.ring l.magnitudes (poly.sum (poly.magnitude x) (poly.magnitude y)) (record {
        short = short;
        each =
            λ k. each k (cases_lt k (length (items x.0))) (cases_lt k (length (items y.0)));
      })
    where
      fx : FitsAt a l.closed l.ring l.magnitudes x
      fx = fits_at a l.closed l.ring l.magnitudes x hx

      fy : FitsAt a l.closed l.ring l.magnitudes y
      fy = fits_at a l.closed l.ring l.magnitudes y hy

      short : (k : ℕ) → 256 ≤ k → coefficient_at base (coefficients a l.closed (poly.sum (poly.magnitude x) (poly.magnitude y))) k ≡ base.nought
      short k b = sym (fits_sum_at x y k) ∙ cc (fx.short k b, fy.short k b, nought_magnitudes)

      count : (z : Passing (poly_algebra a)) → length (items z.0) ≡ length (coefficients a l.closed z)
      count z = ap length (sym (meanings-coefficients a l.closed z)) ∙ length-map (coefficients a l.closed z) (λ (v : Passing a). v.0)

      each : (k : ℕ) → (k < length (items x.0)) ⊎ (length (items x.0) ≤ k) → (k < length (items y.0)) ⊎ (length (items y.0) ≤ k)
          → base.Fits (coefficient_at base (coefficients a l.closed (poly.sum (poly.magnitude x) (poly.magnitude y))) k)
      each k (inl p) (inl q) = subst a.ops.Fits (both_items x y k) (h k p q)
      each k (inl p) (inr q) = fits_by base l.ring l.magnitudes (sym (fits_sum_at x y k)
          ∙ left_only (coefficient_at base (coefficients a l.closed x) k) (coefficient_at base (coefficients a l.closed y) k)
          (beyond base (coefficients a l.closed y) k (omega (arith, count y))))
          ((l.magnitudes.fits (coefficient_at base (coefficients a l.closed x) k)).0 (fx.each k))
      each k (inr p) q = fits_by base l.ring l.magnitudes (sym (fits_sum_at x y k)
          ∙ right_only (coefficient_at base (coefficients a l.closed x) k) (coefficient_at base (coefficients a l.closed y) k)
          (beyond base (coefficients a l.closed x) k (omega (arith, count x))))
          ((l.magnitudes.fits (coefficient_at base (coefficients a l.closed y) k)).0 (fy.each k))

  -- the product of two polynomials is in bounds where each coefficient of the product of the magnitudes fits, and where that has at most 256
  abbrev pub ListsInBounds : List Meaning → List Meaning → Type 0
  ListsInBounds xs ys = ListProductInBounds a xs ys
      × (length (trimmed a.ops (list_product a.ops (map a.ops.magnitude xs) (map a.ops.magnitude ys))) ≤ 256)

  product_at : (x y : Passing (poly_algebra a)) (k : ℕ)
      → coefficient_at base (coefficients a l.closed (poly.product (poly.magnitude x) (poly.magnitude y))) k
      ≡ coefficient_at base (magnitude_product a l (coefficients a l.closed x) (coefficients a l.closed y)) k
  product_at x y k = coefficient-magnitude_product a l.closed l.ring l.magnitudes x y k

  trimmed_count : (xs ys : List (Passing a)) → length (trimmed a.ops (list_product a.ops (map a.ops.magnitude (f xs)) (map a.ops.magnitude (f ys))))
      ≡ length (trimmed base (magnitude_product a l xs ys))
  trimmed_count xs ys = ap (λ t. length (trimmed a.ops t)) (sym (magnitude_product_is a l xs ys))
      ∙ ap length (sym (meanings-trimmed a l.closed (magnitude_product a l xs ys)))
      ∙ length-map (trimmed base (magnitude_product a l xs ys)) (λ (v : Passing a). v.0)

  pub in_bounds_product : (x y : Passing (poly_algebra a)) → ListsInBounds (items x.0) (items y.0) → ProductInBounds (poly_algebra a) x.0 y.0
  in_bounds_product x y h =
      at_fits a l.closed l.ring l.magnitudes (poly.product (poly.magnitude x) (poly.magnitude y)) (record { short = short; each = each })
    where
      g : ListsInBounds (f (coefficients a l.closed x)) (f (coefficients a l.closed y))
      g = subst (λ t. ListsInBounds t (f (coefficients a l.closed y))) (sym (meanings-coefficients a l.closed x))
          (subst (λ t. ListsInBounds (items x.0) t) (sym (meanings-coefficients a l.closed y)) h)

      short : (k : ℕ) → 256 ≤ k → coefficient_at base (coefficients a l.closed (poly.product (poly.magnitude x) (poly.magnitude y))) k ≡ base.nought
      short k b =
          product_at x y k ∙ sym (at_trimmed base l.ring (magnitude_product a l (coefficients a l.closed x) (coefficients a l.closed y)) k)
          ∙ beyond base (trimmed base (magnitude_product a l (coefficients a l.closed x) (coefficients a l.closed y))) k
          (omega (arith, g.1, trimmed_count (coefficients a l.closed x) (coefficients a l.closed y)))

      each : (k : ℕ) → base.Fits (coefficient_at base (coefficients a l.closed (poly.product (poly.magnitude x) (poly.magnitude y))) k)
      each k = fits_by base l.ring l.magnitudes (product_at x y k) (product_fits a l (coefficients a l.closed x) (coefficients a l.closed y) g.0 k)

  pub product_in_bounds : (x y : Passing (poly_algebra a)) → ProductInBounds (poly_algebra a) x.0 y.0 → ListsInBounds (items x.0) (items y.0)
  product_in_bounds x y h =
      subst (λ t. ListsInBounds t (items y.0)) (meanings-coefficients a l.closed x)
      (subst (λ t. ListsInBounds (f (coefficients a l.closed x)) t) (meanings-coefficients a l.closed y) (each, short))
    where
      at_each : FitsAt a l.closed l.ring l.magnitudes (poly.product (poly.magnitude x) (poly.magnitude y))
      at_each = fits_at a l.closed l.ring l.magnitudes (poly.product (poly.magnitude x) (poly.magnitude y)) h

      each : ListProductInBounds a (f (coefficients a l.closed x)) (f (coefficients a l.closed y))
      each = product_in_bounds_where a l (coefficients a l.closed x) (coefficients a l.closed y)
          (λ k. fits_by base l.ring l.magnitudes (sym (product_at x y k)) (at_each.each k))

      short : length (trimmed a.ops
          (list_product a.ops (map a.ops.magnitude (f (coefficients a l.closed x))) (map a.ops.magnitude (f (coefficients a l.closed y))))) ≤ 256
      short =
          let n : length (trimmed base (magnitude_product a l (coefficients a l.closed x) (coefficients a l.closed y))) ≤ 256 =
          length_within base l.ring (trimmed base (magnitude_product a l (coefficients a l.closed x) (coefficients a l.closed y))) 256
          (is_trimmed_trimmed base (magnitude_product a l (coefficients a l.closed x) (coefficients a l.closed y)))
          (λ k b. at_trimmed base l.ring (magnitude_product a l (coefficients a l.closed x) (coefficients a l.closed y)) k ∙ sym (product_at x y k)
          ∙ at_each.short k b) in
          omega (arith, trimmed_count (coefficients a l.closed x) (coefficients a l.closed y))
