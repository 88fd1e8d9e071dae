-- Where the sum of the products of the magnitudes fits, each step of a row times a vector is in bounds.
use Rattle.std.proofs.Common.{◌≡◌, ℕ, zero, suc, ◌+◌, sym, subst, arith}
use Rattle.ring_laws.specs.Algebra.{Ops, RingLaws, MagnitudeLaws}
use Rattle.poly_laws.proofs.ListMagnitudes.{covers_sums, left_part, right_part, fits_covered_magnitude, sum_magnitude}
use Rattle.kernel_laws.specs.Rows.{total}
use Rattle.kernel_laws.proofs.Totals.{total_from}

module _ {A : Type 0} (o : Ops A) (l : RingLaws o) (m : MagnitudeLaws o) where
  abbrev pub size : A → A → A
  size x y = o.product (o.magnitude x) (o.magnitude y)

  -- a sum of magnitudes is its own magnitude
  pub total_magnitude : (n : ℕ) (x y : ℕ → A) → o.magnitude (total o n (λ k. size (x k) (y k))) ≡ total o n (λ k. size (x k) (y k))
  total_magnitude zero x y = m.of_nought
  total_magnitude (suc n) x y =
      sum_magnitude o l m (size (x 0) (y 0)) (total o n (λ k. size (x (suc k)) (y (suc k)))) (m.of_product (x 0) (y 0))
      (total_magnitude n (λ k. x (suc k)) (λ k. y (suc k)))

  -- and covers the magnitude of the sum
  pub total_covers : (n : ℕ) (x y : ℕ → A)
      → o.Covers (total o n (λ k. size (x k) (y k))) (o.magnitude (total o n (λ k. o.product (x k) (y k))))
  total_covers zero x y = subst (o.Covers o.nought) (sym m.of_nought) (m.covers_same o.nought)
  total_covers (suc n) x y =
      let rest : A = total o n (λ k. o.product (x (suc k)) (y (suc k))) in
      let sizes : A = total o n (λ k. size (x (suc k)) (y (suc k))) in
      m.covers_trans (o.sum (size (x 0) (y 0)) sizes) (o.sum (o.magnitude (o.product (x 0) (y 0))) (o.magnitude rest))
      (o.magnitude (o.sum (o.product (x 0) (y 0)) rest))
      (covers_sums o l m (size (x 0) (y 0)) (o.magnitude (o.product (x 0) (y 0))) sizes (o.magnitude rest)
      (m.product_covers (x 0) (y 0)) (total_covers n (λ k. x (suc k)) (λ k. y (suc k))))
      (m.sum_covers (o.product (x 0) (y 0)) rest)

  abbrev pub SizesFit : ℕ → (ℕ → A) → (ℕ → A) → Type 0
  SizesFit n x y = o.Fits (total o n (λ k. size (x k) (y k)))

  pub first_fits : (n : ℕ) (x y : ℕ → A) → SizesFit (suc n) x y → o.Fits (size (x 0) (y 0))
  first_fits n x y h =
      let rest : A = total o n (λ k. size (x (suc k)) (y (suc k))) in
      fits_covered_magnitude o l m (o.sum (size (x 0) (y 0)) rest) (size (x 0) (y 0)) h
      (left_part o l m (size (x 0) (y 0)) rest (total_magnitude n (λ k. x (suc k)) (λ k. y (suc k)))) (m.of_product (x 0) (y 0))

  pub rest_fits : (n : ℕ) (x y : ℕ → A) → SizesFit (suc n) x y → SizesFit n (λ k. x (suc k)) (λ k. y (suc k))
  rest_fits n x y h =
      let rest : A = total o n (λ k. size (x (suc k)) (y (suc k))) in
      fits_covered_magnitude o l m (o.sum (size (x 0) (y 0)) rest) rest h
      (right_part o l m (size (x 0) (y 0)) rest (m.of_product (x 0) (y 0))) (total_magnitude n (λ k. x (suc k)) (λ k. y (suc k)))

  pub sum_fits : (n : ℕ) (x y : ℕ → A) → SizesFit (suc n) x y
      → o.Fits (o.sum (o.magnitude (o.product (x 0) (y 0))) (o.magnitude (total o n (λ k. o.product (x (suc k)) (y (suc k))))))
  sum_fits n x y h =
      let rest : A = total o n (λ k. o.product (x (suc k)) (y (suc k))) in
      let sizes : A = total o n (λ k. size (x (suc k)) (y (suc k))) in
      fits_covered_magnitude o l m (o.sum (size (x 0) (y 0)) sizes) (o.sum (o.magnitude (o.product (x 0) (y 0))) (o.magnitude rest)) h
      (covers_sums o l m (size (x 0) (y 0)) (o.magnitude (o.product (x 0) (y 0))) sizes (o.magnitude rest)
      (m.product_covers (x 0) (y 0)) (total_covers n (λ k. x (suc k)) (λ k. y (suc k))))
      (m.of_sum (o.product (x 0) (y 0)) rest)

  -- ---- from a column on
  abbrev sizes_from : (x y : ℕ → A) → ℕ → ℕ → A
  sizes_from x y i n = total o n (λ k. size (x (i + k)) (y (i + k)))

  -- the columns from the i-th on, d more than n of them, down to the last n
  pub fits_from : (d n i : ℕ) (x y : ℕ → A) → o.Fits (sizes_from x y i (d + n)) → o.Fits (sizes_from x y (i + d) n)
  fits_from zero n i x y h =
      let e : i + 0 ≡ i = omega arith in
      let f : zero + n ≡ n = omega arith in
      subst (λ j. o.Fits (sizes_from x y j n)) (sym e) (subst (λ j. o.Fits (sizes_from x y i j)) f h)
  fits_from (suc d) n i x y h =
      let e : suc d + n ≡ suc (d + n) = omega arith in
      let f : i + 1 + d ≡ i + suc d = omega arith in
      let whole : o.Fits (sizes_from x y i (suc (d + n))) = subst (λ j. o.Fits (sizes_from x y i j)) e h in
      let next : o.Fits (sizes_from x y (i + 1) (d + n)) = shifted (d + n) i x y whole in
      subst (λ j. o.Fits (sizes_from x y j n)) f (fits_from d n (i + 1) x y next)
    where
      shifted : (n i : ℕ) (x y : ℕ → A) → o.Fits (sizes_from x y i (suc n)) → o.Fits (sizes_from x y (i + 1) n)
      shifted n i x y h =
          let t : o.Fits (o.sum (size (x i) (y i)) (sizes_from x y (i + 1) n)) = subst o.Fits (total_from o n (λ k. size (x k) (y k)) i) h
          in
          fits_covered_magnitude o l m (o.sum (size (x i) (y i)) (sizes_from x y (i + 1) n)) (sizes_from x y (i + 1) n) t
          (right_part o l m (size (x i) (y i)) (sizes_from x y (i + 1) n) (m.of_product (x i) (y i)))
          (total_magnitude n (λ k. x (i + 1 + k)) (λ k. y (i + 1 + k)))
