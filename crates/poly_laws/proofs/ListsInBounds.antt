-- When the operations on lists are in bounds, and what that says of their steps.
use Rattle.std.specs.Prelude.{◌≡◌, ℕ, zero, suc, List, [], ◌∷◌, map, drop, refl}
use Rattle.std.proofs.Common.{ap, sym, ◌∙◌, subst, arith}
use Rattle.ring_laws.specs.Meaning.{Meaning}
use Rattle.ring_laws.specs.Algebra.{Ops, Algebra, Passing, within, Laws, ProductInBounds}
use Rattle.poly_laws.specs.Bounds.{ListProductInBounds, ScalingInBounds}
use Rattle.poly_laws.specs.Lists.{coefficient_at, list_product}
use Rattle.poly_laws.specs.PolyAlgebra.{poly_algebra}
use Rattle.poly_laws.proofs.Coefficients.{meanings_of, meanings-magnitude, meanings-product, poly_closed}
use Rattle.poly_laws.proofs.Fitting.{meanings-at}
use Rattle.poly_laws.proofs.ListLaws.{at_sum, times_suc}
use Rattle.poly_laws.proofs.ListMagnitudes.{magnitudes_of, at_magnitudes, covers_by, covers_sums, right_part, times_magnitude, product_covered, part_of_product, fits_covered_magnitude}

module _ (a : Algebra) (l : Laws a) where
  abbrev base : Ops (Passing a)
  base = within a l.closed

  abbrev poly : Ops (Passing (poly_algebra a))
  poly = within (poly_algebra a) (poly_closed a l.closed)

  abbrev f : List (Passing a) → List Meaning
  f xs = meanings_of a l.closed xs

  abbrev pub magnitude_list : List (Passing a) → List (Passing a)
  magnitude_list xs = magnitudes_of base l.ring l.magnitudes xs

  abbrev pub magnitude_product : List (Passing a) → List (Passing a) → List (Passing a)
  magnitude_product xs ys = list_product base (magnitude_list xs) (magnitude_list ys)

  pub magnitude_product_is : (xs ys : List (Passing a))
      → f (magnitude_product xs ys) ≡ list_product a.ops (map a.ops.magnitude (f xs)) (map a.ops.magnitude (f ys))
  magnitude_product_is xs ys =
      cc (meanings-product a l.closed (magnitude_list xs) (magnitude_list ys), meanings-magnitude a l.closed xs, meanings-magnitude a l.closed ys)

  pub magnitude_product_at : (xs ys : List (Passing a)) (k : ℕ)
      → coefficient_at a.ops (list_product a.ops (map a.ops.magnitude (f xs)) (map a.ops.magnitude (f ys))) k
      ≡ (coefficient_at base (magnitude_product xs ys) k).0
  magnitude_product_at xs ys k = ap (λ t. coefficient_at a.ops t k) (sym (magnitude_product_is xs ys))
      ∙ meanings-at a l.closed l.ring l.magnitudes (magnitude_product xs ys) k

  pub product_fits : (xs ys : List (Passing a)) → ListProductInBounds a (f xs) (f ys) → (k : ℕ)
      → base.Fits (coefficient_at base (magnitude_product xs ys) k)
  product_fits xs ys h k = subst a.ops.Fits (magnitude_product_at xs ys k) (h k)

  pub product_in_bounds_where : (xs ys : List (Passing a)) → ((k : ℕ) → base.Fits (coefficient_at base (magnitude_product xs ys) k))
      → ListProductInBounds a (f xs) (f ys)
  product_in_bounds_where xs ys h k = subst a.ops.Fits (sym (magnitude_product_at xs ys k)) (h k)

  pub tail_in_bounds : (x : Passing a) (xs ys : List (Passing a)) → ListProductInBounds a (f (x ∷ xs)) (f ys) → ListProductInBounds a (f xs) (f ys)
  tail_in_bounds x xs ys h = product_in_bounds_where xs ys (λ k.
      fits_covered_magnitude base l.ring l.magnitudes (coefficient_at base (magnitude_product (x ∷ xs) ys) (suc k))
      (coefficient_at base (magnitude_product xs ys) k) (product_fits (x ∷ xs) ys h (suc k))
      (covers_by base l.ring l.magnitudes {y = coefficient_at base (magnitude_product xs ys) k}
      (times_suc base l.ring (base.magnitude x) (magnitude_list xs) (magnitude_list ys) k
      ∙ ap (λ t. base.sum (base.product (base.magnitude x) t) (coefficient_at base (magnitude_product xs ys) k))
      (at_magnitudes base l.ring l.magnitudes ys (suc k))) refl
      (right_part base l.ring l.magnitudes (base.product (base.magnitude x) (base.magnitude (coefficient_at base ys (suc k))))
      (coefficient_at base (magnitude_product xs ys) k) (l.magnitudes.of_product x (coefficient_at base ys (suc k)))))
      (times_magnitude base l.ring l.magnitudes xs ys k))

  pub drop_in_bounds : (i : ℕ) (xs ys : List (Passing a)) → ListProductInBounds a (f xs) (f ys) → ListProductInBounds a (f (drop i xs)) (f ys)
  drop_in_bounds zero xs ys h = h
  drop_in_bounds (suc i) [] ys h = h
  drop_in_bounds (suc i) (x ∷ xs) ys h = drop_in_bounds i xs ys (tail_in_bounds x xs ys h)

  pub scaling_in_bounds : (x : Passing a) (xs ys : List (Passing a)) → ListProductInBounds a (f (x ∷ xs)) (f ys) → ScalingInBounds a x.0 (f ys)
  scaling_in_bounds x xs ys h k b =
      subst (λ t. ProductInBounds a x.0 t) (sym (meanings-at a l.closed l.ring l.magnitudes ys k))
      (fits_covered_magnitude base l.ring l.magnitudes (coefficient_at base (magnitude_product (x ∷ xs) ys) k)
      (base.product (base.magnitude x) (base.magnitude (coefficient_at base ys k))) (product_fits (x ∷ xs) ys h k)
      (part_of_product base l.ring l.magnitudes (x ∷ xs) ys 0 k k (omega arith)) (l.magnitudes.of_product x (coefficient_at base ys k)))

  rest_covered : (xs ys : List (Passing a)) (k : ℕ)
      → base.Covers (coefficient_at base (base.nought ∷ magnitude_product xs ys) k)
      (base.magnitude (coefficient_at base (base.nought ∷ list_product base xs ys) k))
  rest_covered xs ys zero = covers_by base l.ring l.magnitudes {x = base.nought} refl l.magnitudes.of_nought (l.magnitudes.covers_same base.nought)
  rest_covered xs ys (suc k) = product_covered base l.ring l.magnitudes xs ys k

  row_covered : (x : Passing a) (ys : List (Passing a)) (k : ℕ)
      → base.Covers (coefficient_at base (map (base.product (base.magnitude x)) (magnitude_list ys)) k)
      (base.magnitude (coefficient_at base (map (base.product x) ys) k))
  row_covered x [] k = covers_by base l.ring l.magnitudes {x = base.nought} refl l.magnitudes.of_nought (l.magnitudes.covers_same base.nought)
  row_covered x (y ∷ ys) zero = l.magnitudes.product_covers x y
  row_covered x (y ∷ ys) (suc k) = row_covered x ys k

  pub step_in_bounds : (x : Passing a) (xs ys : List (Passing a)) → ListProductInBounds a (f (x ∷ xs)) (f ys) → (k : ℕ)
      → base.Fits (base.sum (base.magnitude (coefficient_at base (map (base.product x) ys) k))
      (base.magnitude (coefficient_at base (base.nought ∷ list_product base xs ys) k)))
  step_in_bounds x xs ys h k =
      let u : Passing a = coefficient_at base (map (base.product x) ys) k in
      let v : Passing a = coefficient_at base (base.nought ∷ list_product base xs ys) k in
      fits_covered_magnitude base l.ring l.magnitudes (coefficient_at base (magnitude_product (x ∷ xs) ys) k)
      (base.sum (base.magnitude u) (base.magnitude v)) (product_fits (x ∷ xs) ys h k)
      (covers_by base l.ring l.magnitudes {y =
      base.sum (base.magnitude u) (base.magnitude v)}
      (at_sum base l.ring (map (base.product (base.magnitude x)) (magnitude_list ys)) (base.nought ∷ magnitude_product xs ys) k) refl
      (covers_sums base l.ring l.magnitudes (coefficient_at base (map (base.product (base.magnitude x)) (magnitude_list ys)) k) (base.magnitude u)
      (coefficient_at base (base.nought ∷ magnitude_product xs ys) k) (base.magnitude v) (row_covered x ys k) (rest_covered xs ys k)))
      (l.magnitudes.of_sum u v)
