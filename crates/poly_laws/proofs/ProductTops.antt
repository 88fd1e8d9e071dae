-- The two greatest coefficients of a product, and that there are none above.
use Rattle.std.specs.Prelude.{◌≡◌, ℕ, zero, suc, ◌+◌, ◌-◌, List, [], ◌∷◌, refl}
use Rattle.std.proofs.Common.{ap, sym, ◌∙◌, arith}
use Rattle.ring_laws.specs.Algebra.{Ops, RingLaws}
use Rattle.poly_laws.specs.Lists.{coefficient_at, list_product}
use Rattle.poly_laws.proofs.ListLaws.{sum_nought, product_nought, nought_product, times_zero, times_suc, times_same_left}
use Rattle.poly_laws.proofs.ShiftedTops.{EndsBy, tail_ends, tail_zero}

module _ {A : Type 0} (o : Ops A) (l : RingLaws o) where
  abbrev at : List A → ℕ → A
  at xs k = coefficient_at o xs k

  abbrev before : List A → ℕ → A
  before xs k = coefficient_at o (o.nought ∷ xs) k

  abbrev times_at : List A → List A → ℕ → A
  times_at xs ys k = coefficient_at o (list_product o xs ys) k

  -- a product with zeros alone
  none_times : (xs ys : List A) → ((k : ℕ) → at xs k ≡ o.nought) → (k : ℕ) → times_at xs ys k ≡ o.nought
  none_times xs ys h k = times_same_left o l xs [] ys h k

  pub product_top : (xs ys : List A) (m e n : ℕ) → EndsBy o l xs m → EndsBy o l ys e → n ≡ m + e
      → coefficient_at o (list_product o xs ys) n ≡ o.product (at xs m) (at ys e)
  product_top [] ys m e n h g p = sym (nought_product o l (at ys e))
  product_top (x ∷ xs) ys zero e zero h g p =
      let same : 0 ≡ e = omega arith in
      times_zero o l x xs ys ∙ ap (λ i. o.product x (at ys i)) same
  product_top (x ∷ xs) ys zero e (suc n) h g p =
      let same : suc n ≡ e = omega arith in
      times_suc o l x xs ys n
      ∙ cc (none_times xs ys (tail_zero o l x xs h) n, sum_nought o l (o.product x (at ys (suc n))), ap (λ i. o.product x (at ys i)) same)
  product_top (x ∷ xs) ys (suc m) e zero h g p = absurd (omega arith)
  product_top (x ∷ xs) ys (suc m) e (suc n) h g p =
      times_suc o l x xs ys n
      ∙ cc (
        g (suc n) (omega arith),
        product_nought o l x,
        product_top xs ys m e n (tail_ends o l x xs m h) g (omega arith),
        l.nought_sum (o.product (at xs m) (at ys e)),
      )

  pub product_second : (xs ys : List A) (m e n : ℕ) → EndsBy o l xs m → EndsBy o l ys e → suc n ≡ m + e
      → coefficient_at o (list_product o xs ys) n ≡ o.sum (o.product (at xs m) (before ys e)) (o.product (before xs m) (at ys e))
  product_second [] ys m e n h g p = sym (cc (
    nought_product o l (before ys e),
    before_none m,
    nought_product o l (at ys e),
    l.nought_sum o.nought,
  ))
    where
      before_none : (m : ℕ) → before [] m ≡ o.nought
      before_none zero = refl
      before_none (suc m) = refl
  product_second (x ∷ xs) ys zero zero n h g p = absurd (omega arith)
  product_second (x ∷ xs) ys zero (suc e) n h g p = first n (omega arith)
    where
      first : (n : ℕ) → n ≡ e → times_at (x ∷ xs) ys n ≡ o.sum (o.product x (at ys e)) (o.product o.nought (at ys (suc e)))
      first zero q = cc (times_zero o l x xs ys, ap (at ys) q, nought_product o l (at ys (suc e)), sum_nought o l (o.product x (at ys e)))
      first (suc n) q =
          cc (
            times_suc o l x xs ys n,
            none_times xs ys (tail_zero o l x xs h) n,
            ap (at ys) q,
            nought_product o l (at ys (suc e)),
          )
  product_second (x ∷ xs) ys (suc m) e zero h g p = corner m e (omega arith) (omega arith)
    where
      corner : (m e : ℕ) → m ≡ 0 → e ≡ 0
          → times_at (x ∷ xs) ys 0 ≡ o.sum (o.product (at xs m) (before ys e)) (o.product (at (x ∷ xs) m) (at ys e))
      corner zero zero a b =
          cc (times_zero o l x xs ys, product_nought o l (at xs 0), l.nought_sum (o.product x (at ys 0)))
      corner zero (suc e) a b = absurd (omega arith)
      corner (suc m) e a b = absurd (omega arith)
  product_second (x ∷ xs) ys (suc m) e (suc n) h g p = later m (product_second xs ys m e n (tail_ends o l x xs m h) g (omega arith)) (omega arith)
    where
      later : (m : ℕ) → times_at xs ys n ≡ o.sum (o.product (at xs m) (before ys e)) (o.product (before xs m) (at ys e)) → suc n ≡ m + e
          → times_at (x ∷ xs) ys (suc n) ≡ o.sum (o.product (at xs m) (before ys e)) (o.product (at (x ∷ xs) m) (at ys e))
      later zero q b =
          let same : suc n ≡ e = omega arith in
          cc (
            times_suc o l x xs ys n,
            q,
            ap (at ys) same,
            nought_product o l (at ys e),
            sum_nought o l (o.product (at xs 0) (before ys e)),
            l.sum_comm (o.product x (at ys e)) (o.product (at xs 0) (before ys e)),
          )
      later (suc m) q b =
          cc (
            times_suc o l x xs ys n,
            q,
            g (suc n) (omega arith),
            product_nought o l x,
            l.nought_sum (o.sum (o.product (at xs (suc m)) (before ys e)) (o.product (at xs m) (at ys e))),
          )

  -- a product has no coefficient above the sum of the degrees
  pub product_ends : (xs ys : List A) (m e : ℕ) → EndsBy o l xs m → EndsBy o l ys e → EndsBy o l (list_product o xs ys) (m + e)
  product_ends xs ys m e f g n b =
      let up : EndsBy o l xs (n - e) = λ i c. f i (omega (arith, b, c)) in
      product_top xs ys (n - e) e n up g (omega (arith, b))
      ∙ ap (λ t. o.product t (at ys e)) (f (n - e) (omega (arith, b))) ∙ nought_product o l (at ys e)
