-- Sums over the columns, and a row times a vector.
use Rattle.std.proofs.Common.{◌≡◌, ℕ, zero, suc, ◌+◌, ◌<◌, List, [], ◌∷◌, refl, ap, sym, ◌∙◌, arith}
use Rattle.ring_laws.specs.Algebra.{Ops, RingLaws}
use Rattle.kernel_laws.specs.Rows.{dot, entry_at, total}
use Rattle.poly_laws.proofs.ListLaws.{sum_nought, product_nought}
use Rattle.ring_solver.specs.Rings.{CommRing}
use Rattle.ring_solver.proofs.Read.{reading, ring}
use Rattle.poly_laws.proofs.Rings.{solvable, read_nought}

-- one at column j, and zero elsewhere
abbrev pub spike : {A : Type 0} → Ops A → ℕ → ℕ → A
spike o zero zero = o.unit
spike o zero (suc k) = o.nought
spike o (suc j) zero = o.nought
spike o (suc j) (suc k) = spike o j k

pub total_same : {A : Type 0} (o : Ops A) (n : ℕ) (f g : ℕ → A) → ((k : ℕ) → k < n → f k ≡ g k) → total o n f ≡ total o n g
total_same o zero f g h = refl
total_same o (suc n) f g h =
    cc (h 0 (omega arith), total_same o n (λ k. f (suc k)) (λ k. g (suc k)) (λ k b. h (suc k) (omega arith)))

-- the terms from one on
pub total_from : {A : Type 0} (o : Ops A) (m : ℕ) (f : ℕ → A) (i : ℕ)
    → total o (suc m) (λ k. f (i + k)) ≡ o.sum (f i) (total o m (λ k. f (i + 1 + k)))
total_from o m f i =
    cc (ap f (first i), total_same o m (λ k. f (i + suc k)) (λ k. f (i + 1 + k)) (λ k b. ap f (next i k)))
  where
    first : (i : ℕ) → i + 0 ≡ i
    first i = omega arith

    next : (i k : ℕ) → i + suc k ≡ i + 1 + k
    next i k = omega arith

module _ {A : Type 0} (o : Ops A) (l : RingLaws o) where
  abbrev R : CommRing
  R = solvable o l

  pub total_nought : (n : ℕ) (f : ℕ → A) → ((k : ℕ) → k < n → f k ≡ o.nought) → total o n f ≡ o.nought
  total_nought zero f h = refl
  total_nought (suc n) f h = cc (h 0 (omega arith), total_nought n (λ k. f (suc k)) (λ k b. h (suc k) (omega arith)), l.nought_sum o.nought)

  -- only the term at j isn't zero
  pub total_one : (n : ℕ) (f : ℕ → A) (j : ℕ) → j < n → ((k : ℕ) → k < n → ¬ (k ≡ j) → f k ≡ o.nought) → total o n f ≡ f j
  total_one zero f j b h = absurd (omega arith)
  total_one (suc n) f zero b h =
      cc (total_nought n (λ k. f (suc k)) (λ k c. h (suc k) (omega arith) (λ e. omega arith)), sum_nought o l (f 0))
  total_one (suc n) f (suc j) b h =
      cc (
        h 0 (omega arith) (λ e. omega arith),
        total_one n (λ k. f (suc k)) j (omega arith)
            (λ k c e. h (suc k) (omega arith) (λ d. e (omega arith))),
        l.nought_sum (f (suc j)),
      )

  linear_step : (p q f g t u : A)
      → o.sum (o.sum (o.product p f) (o.product q g)) (o.sum (o.product p t) (o.product q u)) ≡ o.sum (o.product p (o.sum f t)) (o.product q (o.sum g u))
  linear_step p q f g t u = ring R (p ∷ q ∷ f ∷ g ∷ t ∷ u ∷ []) (search reading depth 40 fits 20000) refl

  linear_none : (p q : A) → o.nought ≡ o.sum (o.product p o.nought) (o.product q o.nought)
  linear_none p q = ring R (p ∷ q ∷ []) (search (reading, read_nought o l) depth 40 fits 20000) refl

  pub total_linear : (n : ℕ) (p q : A) (f g h : ℕ → A) → ((k : ℕ) → k < n → h k ≡ o.sum (o.product p (f k)) (o.product q (g k)))
      → total o n h ≡ o.sum (o.product p (total o n f)) (o.product q (total o n g))
  total_linear zero p q f g h e = linear_none p q
  total_linear (suc n) p q f g h e =
      cc (
        e 0 (omega arith),
        total_linear n p q (λ k. f (suc k)) (λ k. g (suc k)) (λ k. h (suc k)) (λ k b. e (suc k) (omega arith)),
        linear_step p q (f 0) (g 0) (total o n (λ k. f (suc k))) (total o n (λ k. g (suc k))),
      )

  pub total_scale : (n : ℕ) (p : A) (f h : ℕ → A) → ((k : ℕ) → k < n → h k ≡ o.product p (f k)) → total o n h ≡ o.product p (total o n f)
  total_scale zero p f h e = sym (product_nought o l p)
  total_scale (suc n) p f h e =
      cc (
        e 0 (omega arith),
        total_scale n p (λ k. f (suc k)) (λ k. h (suc k)) (λ k b. e (suc k) (omega arith)),
        l.distributes p (f 0)
            (total o n (λ k. f (suc k))),
      )

  pub row_step : (p q r s v : A)
      → o.product (o.sum (o.product p r) (o.product q s)) v ≡ o.sum (o.product p (o.product r v)) (o.product q (o.product s v))
  row_step p q r s v = ring R (p ∷ q ∷ r ∷ s ∷ v ∷ []) (search reading depth 40 fits 20000) refl

  vector_step : (p q r u v : A)
      → o.product r (o.sum (o.product p u) (o.product q v)) ≡ o.sum (o.product p (o.product r u)) (o.product q (o.product r v))
  vector_step p q r u v = ring R (p ∷ q ∷ r ∷ u ∷ v ∷ []) (search reading depth 40 fits 20000) refl

  -- a combination of two rows
  pub dot_rows : (n : ℕ) (p q : A) (r s t : List A) (v : ℕ → A)
      → ((k : ℕ) → k < n → entry_at o t k ≡ o.sum (o.product p (entry_at o r k)) (o.product q (entry_at o s k)))
      → dot o n t v ≡ o.sum (o.product p (dot o n r v)) (o.product q (dot o n s v))
  dot_rows n p q r s t v e =
      total_linear n p q (λ k. o.product (entry_at o r k) (v k)) (λ k. o.product (entry_at o s k) (v k))
      (λ k. o.product (entry_at o t k) (v k))
      (λ k b. ap (λ x. o.product x (v k)) (e k b) ∙ row_step p q (entry_at o r k) (entry_at o s k) (v k))

  -- a combination of two vectors
  pub dot_vectors : (n : ℕ) (p q : A) (r : List A) (u v w : ℕ → A)
      → ((k : ℕ) → k < n → w k ≡ o.sum (o.product p (u k)) (o.product q (v k)))
      → dot o n r w ≡ o.sum (o.product p (dot o n r u)) (o.product q (dot o n r v))
  dot_vectors n p q r u v w e =
      total_linear n p q (λ k. o.product (entry_at o r k) (u k)) (λ k. o.product (entry_at o r k) (v k))
      (λ k. o.product (entry_at o r k) (w k))
      (λ k b. ap (o.product (entry_at o r k)) (e k b) ∙ vector_step p q (entry_at o r k) (u k) (v k))

  pub spike_here : (j : ℕ) → spike o j j ≡ o.unit
  spike_here zero = refl
  spike_here (suc j) = spike_here j

  pub spike_not : (j k : ℕ) → ¬ (k ≡ j) → spike o j k ≡ o.nought
  spike_not zero zero n = absurd (n refl)
  spike_not zero (suc k) n = refl
  spike_not (suc j) zero n = refl
  spike_not (suc j) (suc k) n = spike_not j k (λ e. n (omega arith))

  product_unit : (x : A) → o.product x o.unit ≡ x
  product_unit x = l.product_comm x o.unit ∙ l.unit_product x

  pub dot_spike : (n : ℕ) (r : List A) (j : ℕ) → j < n → dot o n r (spike o j) ≡ entry_at o r j
  dot_spike n r j b =
      total_one n (λ k. o.product (entry_at o r k) (spike o j k)) j b
      (λ k c e. ap (o.product (entry_at o r k)) (spike_not j k e) ∙ product_nought o l (entry_at o r k))
      ∙ ap (o.product (entry_at o r j)) (spike_here j) ∙ product_unit (entry_at o r j)
