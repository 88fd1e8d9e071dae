-- The product of the sums of the magnitudes of two lists covers each coefficient of the product of the magnitudes.
use Rattle.std.proofs.Common.{◌≡◌, ℕ, zero, suc, ◌+◌, ◌-◌, ◌≤◌, List, [], ◌∷◌, map, length, refl, sym, ap, ◌∙◌, arith}
use Rattle.std.proofs.lemmas.List.{length-map}
use Rattle.ring_laws.specs.Algebra.{Ops, RingLaws, MagnitudeLaws}
use Rattle.poly_laws.specs.Lists.{coefficient_at, list_product}
use Rattle.poly_laws.proofs.ListLaws.{times_zero, times_suc}
use Rattle.poly_laws.proofs.ListMagnitudes.{magnitudes_of, at_magnitudes, covers_by, covers_sums, sum_magnitude, product_magnitude, left_part, right_part, times_magnitude, fits_covered_magnitude}
use Rattle.poly_generic.specs.MagnitudeSum.{magnitude_sum}
use Rattle.poly_generic.proofs.ListLemmas.{length-list_sum}

module _ {A : Type 0} (o : Ops A) (l : RingLaws o) (m : MagnitudeLaws o) where
  -- it is a magnitude itself
  pub sum_is_magnitude : (xs : List A) → o.magnitude (magnitude_sum o xs) ≡ magnitude_sum o xs
  sum_is_magnitude [] = m.of_nought
  sum_is_magnitude (x ∷ xs) = sum_magnitude o l m (o.magnitude x) (magnitude_sum o xs) (m.of_magnitude x) (sum_is_magnitude xs)

  pub covers_nought : (x : A) → o.magnitude x ≡ x → o.Covers x o.nought
  covers_nought x e = covers_by o l m (sym (l.nought_sum x)) refl (left_part o l m o.nought x e)

  -- it covers each magnitude
  sum_covers_each : (xs : List A) (k : ℕ) → o.Covers (magnitude_sum o xs) (o.magnitude (coefficient_at o xs k))
  sum_covers_each [] k = covers_by o l m refl m.of_nought (m.covers_same o.nought)
  sum_covers_each (x ∷ xs) zero = left_part o l m (o.magnitude x) (magnitude_sum o xs) (sum_is_magnitude xs)
  sum_covers_each (x ∷ xs) (suc k) =
      m.covers_trans (magnitude_sum o (x ∷ xs)) (magnitude_sum o xs) (o.magnitude (coefficient_at o xs k))
      (right_part o l m (o.magnitude x) (magnitude_sum o xs) (m.of_magnitude x)) (sum_covers_each xs k)

  -- a magnitude times the sum covers its product with each
  row_covered : (x : A) (ys : List A) (k : ℕ)
      → o.Covers (o.product (o.magnitude x) (magnitude_sum o ys)) (o.product (o.magnitude x) (o.magnitude (coefficient_at o ys k)))
  row_covered x ys k =
      covers_by o l m (l.product_comm (o.magnitude x) (magnitude_sum o ys)) (l.product_comm (o.magnitude x) (o.magnitude (coefficient_at o ys k)))
      (m.covers_product (magnitude_sum o ys) (o.magnitude (coefficient_at o ys k)) x (sum_covers_each ys k))

  product_of_sums : (x : A) (xs ys : List A) → o.product (magnitude_sum o (x ∷ xs)) (magnitude_sum o ys)
      ≡ o.sum (o.product (o.magnitude x) (magnitude_sum o ys)) (o.product (magnitude_sum o xs) (magnitude_sum o ys))
  product_of_sums x xs ys =
      let z : A = magnitude_sum o ys in
      cc (
        l.product_comm (o.sum (o.magnitude x) (magnitude_sum o xs)) z,
        l.distributes z (o.magnitude x) (magnitude_sum o xs),
        l.product_comm z (o.magnitude x),
        l.product_comm z (magnitude_sum o xs),
      )

  sums_magnitude : (xs ys : List A) → o.magnitude (o.product (magnitude_sum o xs) (magnitude_sum o ys))
      ≡ o.product (magnitude_sum o xs) (magnitude_sum o ys)
  sums_magnitude xs ys = product_magnitude o l m (magnitude_sum o xs) (magnitude_sum o ys) (sum_is_magnitude xs) (sum_is_magnitude ys)

  pub sums_cover : (xs ys : List A) (k : ℕ) → o.Covers (o.product (magnitude_sum o xs) (magnitude_sum o ys))
      (coefficient_at o (list_product o (magnitudes_of o l m xs) (magnitudes_of o l m ys)) k)
  sums_cover [] ys k = covers_nought (o.product o.nought (magnitude_sum o ys)) (sums_magnitude [] ys)
  sums_cover (x ∷ xs) ys zero =
      covers_by o l m (product_of_sums x xs ys)
      (times_zero o l (o.magnitude x) (magnitudes_of o l m xs) (magnitudes_of o l m ys) ∙ ap (o.product (o.magnitude x)) (at_magnitudes o l m ys 0))
      (m.covers_trans (o.sum (o.product (o.magnitude x) (magnitude_sum o ys)) (o.product (magnitude_sum o xs) (magnitude_sum o ys)))
      (o.product (o.magnitude x) (magnitude_sum o ys)) (o.product (o.magnitude x) (o.magnitude (coefficient_at o ys 0)))
      (left_part o l m (o.product (o.magnitude x) (magnitude_sum o ys)) (o.product (magnitude_sum o xs) (magnitude_sum o ys)) (sums_magnitude xs ys))
      (row_covered x ys 0))
  sums_cover (x ∷ xs) ys (suc k) =
      covers_by o l m (product_of_sums x xs ys)
      (times_suc o l (o.magnitude x) (magnitudes_of o l m xs) (magnitudes_of o l m ys) k
      ∙ ap (λ t. o.sum (o.product (o.magnitude x) t) (coefficient_at o (list_product o (magnitudes_of o l m xs) (magnitudes_of o l m ys)) k))
      (at_magnitudes o l m ys (suc k)))
      (covers_sums o l m (o.product (o.magnitude x) (magnitude_sum o ys)) (o.product (o.magnitude x) (o.magnitude (coefficient_at o ys (suc k))))
      (o.product (magnitude_sum o xs) (magnitude_sum o ys))
      (coefficient_at o (list_product o (magnitudes_of o l m xs) (magnitudes_of o l m ys)) k) (row_covered x ys (suc k)) (sums_cover xs ys k))

  -- so where it fits, each of them does
  pub sums_fit : (xs ys : List A) → o.Fits (o.product (magnitude_sum o xs) (magnitude_sum o ys)) → (k : ℕ)
      → o.Fits (coefficient_at o (list_product o (magnitudes_of o l m xs) (magnitudes_of o l m ys)) k)
  sums_fit xs ys h k =
      fits_covered_magnitude o l m (o.product (magnitude_sum o xs) (magnitude_sum o ys))
      (coefficient_at o (list_product o (magnitudes_of o l m xs) (magnitudes_of o l m ys)) k) h (sums_cover xs ys k) (times_magnitude o l m xs ys k)

-- how long a product is
pub length-list_product : {A : Type 0} (o : Ops A) (xs ys : List A) → length (list_product o xs ys) ≤ length xs + (length ys - 1)
length-list_product o [] ys = omega arith
length-list_product o (x ∷ xs) ys =
    omega (
      arith,
      length-list_product o xs ys,
      length-list_sum o (map (o.product x) ys) (o.nought ∷ list_product o xs ys),
      length-map ys (o.product x),
    )
