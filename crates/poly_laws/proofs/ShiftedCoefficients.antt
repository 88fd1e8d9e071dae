-- The coefficients of a polynomial at its variable plus t: they are additive, and keep multiples.
use Rattle.std.specs.Prelude.{◌≡◌, ℕ, zero, suc, ◌≤◌, List, [], ◌∷◌, map, refl}
use Rattle.std.proofs.Common.{ap, sym, ◌∙◌, arith}
use Rattle.ring_laws.specs.Algebra.{Ops, RingLaws}
use Rattle.poly_laws.specs.Lists.{coefficient_at, list_sum, SameCoefficients}
use Rattle.poly_laws.specs.Shift.{raised_by, list_shift}
use Rattle.poly_laws.proofs.ListLaws.{sum_nought, product_nought, at_sum, at_scale}
use Rattle.poly_laws.proofs.Rings.{solvable}
use Rattle.ring_solver.proofs.Read.{reading, ring}

module _ {A : Type 0} (o : Ops A) (l : RingLaws o) (t : A) where
  abbrev at : List A → ℕ → A
  at xs k = coefficient_at o xs k

  abbrev shifted : List A → List A
  shifted xs = list_shift o t xs

  pub raised_at : (x : A) (ys : List A) (k : ℕ)
      → at (raised_by o t x ys) k ≡ o.sum (at (x ∷ []) k) (o.sum (o.product t (at ys k)) (at (o.nought ∷ ys) k))
  raised_at x ys k =
      at_sum o l (x ∷ []) (list_sum o (map (o.product t) ys) (o.nought ∷ ys)) k
      ∙ ap (o.sum (at (x ∷ []) k)) (at_sum o l (map (o.product t) ys) (o.nought ∷ ys) k
      ∙ ap (λ z. o.sum z (at (o.nought ∷ ys) k)) (at_scale o l t ys k))

  pub shifted_zero : (x : A) (xs : List A) → at (list_shift o t (x ∷ xs)) 0 ≡ o.sum x (o.product t (at (list_shift o t xs) 0))
  shifted_zero x xs = raised_at x (shifted xs) 0 ∙ ap (o.sum x) (sum_nought o l (o.product t (at (shifted xs) 0)))

  pub shifted_suc : (x : A) (xs : List A) (k : ℕ)
      → at (list_shift o t (x ∷ xs)) (suc k) ≡ o.sum (o.product t (at (list_shift o t xs) (suc k))) (at (list_shift o t xs) k)
  shifted_suc x xs k = raised_at x (shifted xs) (suc k) ∙ l.nought_sum (o.sum (o.product t (at (shifted xs) (suc k))) (at (shifted xs) k))

  -- above its degree a polynomial has zeros, and so has its shift
  pub shifted_above : (xs : List A) (n : ℕ) → ((k : ℕ) → n ≤ k → at xs k ≡ o.nought) → (k : ℕ) → n ≤ k → at (list_shift o t xs) k ≡ o.nought
  shifted_above [] n h k b = refl
  shifted_above (x ∷ xs) n h zero b =
      let rest : at (shifted xs) 0 ≡ o.nought = shifted_above xs 0 (λ i c. h (suc i) (omega arith)) 0 (omega arith) in
      shifted_zero x xs ∙ cc (h 0 (omega arith), rest, product_nought o l t, sum_nought o l x)
  shifted_above (x ∷ xs) zero h (suc k) b =
      let tail : (i : ℕ) → 0 ≤ i → at xs i ≡ o.nought = λ i c. h (suc i) (omega arith) in
      shifted_suc x xs k
      ∙ cc (
        shifted_above xs 0 tail (suc k) (omega arith),
        shifted_above xs 0 tail k (omega arith),
        product_nought o l t,
        l.nought_sum o.nought,
      )
  shifted_above (x ∷ xs) (suc n) h (suc k) b =
      let tail : (i : ℕ) → n ≤ i → at xs i ≡ o.nought = λ i c. h (suc i) (omega arith) in
      shifted_suc x xs k
      ∙ cc (
        shifted_above xs n tail (suc k) (omega arith),
        shifted_above xs n tail k (omega arith),
        product_nought o l t,
        l.nought_sum o.nought,
      )

  pub shifted_same : (xs ys : List A) → SameCoefficients o xs ys → (k : ℕ) → at (list_shift o t xs) k ≡ at (list_shift o t ys) k
  shifted_same [] ys e k = sym (shifted_above ys 0 (λ i b. sym (e i)) k (omega arith))
  shifted_same (x ∷ xs) [] e k = shifted_above (x ∷ xs) 0 (λ i b. e i) k (omega arith)
  shifted_same (x ∷ xs) (y ∷ ys) e zero =
      cc (shifted_zero x xs, shifted_zero y ys, e zero, shifted_same xs ys (λ i. e (suc i)) zero)
  shifted_same (x ∷ xs) (y ∷ ys) e (suc k) =
      cc (shifted_suc x xs k, shifted_suc y ys k, shifted_same xs ys (λ i. e (suc i)) (suc k), shifted_same xs ys (λ i. e (suc i)) k)

  sum_zero : (x y a b : A) → o.sum (o.sum x y) (o.product t (o.sum a b)) ≡ o.sum (o.sum x (o.product t a)) (o.sum y (o.product t b))
  sum_zero x y a b = ring (solvable o l) (x ∷ y ∷ a ∷ b ∷ t ∷ []) (search reading depth 40 fits 20000) refl

  sum_suc : (a b c d : A) → o.sum (o.product t (o.sum a b)) (o.sum c d) ≡ o.sum (o.sum (o.product t a) c) (o.sum (o.product t b) d)
  sum_suc a b c d = ring (solvable o l) (a ∷ b ∷ c ∷ d ∷ t ∷ []) (search reading depth 40 fits 20000) refl

  pub shifted_sum : (xs ys : List A) (k : ℕ)
      → at (list_shift o t (list_sum o xs ys)) k ≡ o.sum (at (list_shift o t xs) k) (at (list_shift o t ys) k)
  shifted_sum [] ys k = sym (l.nought_sum (at (shifted ys) k))
  shifted_sum (x ∷ xs) [] k = sym (sum_nought o l (at (shifted (x ∷ xs)) k))
  shifted_sum (x ∷ xs) (y ∷ ys) zero =
      cc (
        shifted_zero (o.sum x y) (list_sum o xs ys),
        shifted_sum xs ys zero,
        sum_zero x y (at (shifted xs) 0) (at (shifted ys) 0),
        shifted_zero x xs,
        shifted_zero y ys,
      )
  shifted_sum (x ∷ xs) (y ∷ ys) (suc k) =
      cc (
        shifted_suc (o.sum x y) (list_sum o xs ys) k,
        shifted_sum xs ys (suc k),
        shifted_sum xs ys k,
        sum_suc (at (shifted xs) (suc k)) (at (shifted ys) (suc k)) (at (shifted xs) k) (at (shifted ys) k),
        shifted_suc x xs k,
        shifted_suc y ys k,
      )

  scale_sum : (c x a : A) → o.sum (o.product c x) (o.product t (o.product c a)) ≡ o.product c (o.sum x (o.product t a))
  scale_sum c x a = ring (solvable o l) (c ∷ x ∷ a ∷ t ∷ []) (search reading depth 40 fits 20000) refl

  scale_suc : (c a b : A) → o.sum (o.product t (o.product c a)) (o.product c b) ≡ o.product c (o.sum (o.product t a) b)
  scale_suc c a b = ring (solvable o l) (c ∷ a ∷ b ∷ t ∷ []) (search reading depth 40 fits 20000) refl

  pub shifted_scale : (c : A) (xs : List A) (k : ℕ) → at (list_shift o t (map (o.product c) xs)) k ≡ o.product c (at (list_shift o t xs) k)
  shifted_scale c [] k = sym (product_nought o l c)
  shifted_scale c (x ∷ xs) zero =
      cc (shifted_zero (o.product c x) (map (o.product c) xs), shifted_scale c xs zero, scale_sum c x (at (shifted xs) 0), shifted_zero x xs)
  shifted_scale c (x ∷ xs) (suc k) =
      cc (
        shifted_suc (o.product c x) (map (o.product c) xs) k,
        shifted_scale c xs (suc k),
        shifted_scale c xs k,
        scale_suc c (at (shifted xs) (suc k)) (at (shifted xs) k),
        shifted_suc x xs k,
      )
