-- Vectors, one for each column at which a vector of the kernel ends, span the kernel.
use Rattle.std.proofs.Common.{◌≡◌, ℕ, zero, suc, ◌<◌, ◌≤◌, List, [], ◌∷◌, length, get_or, refl, ap, sym, ◌∙◌, subst, arith, ⊎_elim}
use Rattle.std.proofs.lemmas.Bool.{cases_lt}
use Rattle.ring_laws.specs.Algebra.{Ops, RingLaws}
use Rattle.kernel_laws.specs.Rows.{InKernel}
use Rattle.poly_laws.proofs.ListLaws.{sum_nought, product_nought, nought_product}
use Rattle.poly_laws.proofs.OneQuotient.{NoDivisors}
use Rattle.ring_solver.proofs.Read.{reading, ring}
use Rattle.ring_solver.proofs.Linear.{from_all, by}
use Rattle.kernel_laws.specs.Kernels.{EndsAt, Ends, combined, Spanned}
use Rattle.poly_laws.proofs.Rings.{solvable, read_nought, read_unit}
use Rattle.poly_laws.proofs.Trimming.{zero_or_not}
use Rattle.kernel_laws.proofs.Totals.{spike}
use Rattle.kernel_laws.proofs.Kernels.{combination, not_product}

module _ {A : Type 0} (o : Ops A) (l : RingLaws o) where
  combined_same : (vs : List (ℕ → A)) (c e : ℕ → A) (k : ℕ) → ((i : ℕ) → c i ≡ e i) → combined o c vs k ≡ combined o e vs k
  combined_same [] c e k h = refl
  combined_same (v ∷ vs) c e k h = cc (h 0, combined_same vs (λ i. c (suc i)) (λ i. e (suc i)) k (λ i. h (suc i)))

  combined_none : (vs : List (ℕ → A)) (k : ℕ) → combined o (λ i. o.nought) vs k ≡ o.nought
  combined_none [] k = refl
  combined_none (v ∷ vs) k = cc (nought_product o l (v k), combined_none vs k, l.nought_sum o.nought)

  abbrev pub vector_at : List (ℕ → A) → ℕ → ℕ → A
  vector_at vs i = get_or vs i (λ k. o.nought)

  first_more : (c x v t : A) → o.sum (o.product (o.sum c (o.product x o.unit)) v) t ≡ o.sum (o.sum (o.product c v) t) (o.product x v)
  first_more c x v t = ring (solvable o l) (c ∷ x ∷ v ∷ t ∷ []) (search (reading, read_unit o l) depth 40 fits 20000) refl

  later_more : (c x v t y : A)
      → o.sum (o.product (o.sum c (o.product x o.nought)) v) (o.sum t (o.product x y)) ≡ o.sum (o.sum (o.product c v) t) (o.product x y)
  later_more c x v t y = ring (solvable o l) (c ∷ x ∷ v ∷ t ∷ y ∷ []) (search (reading, read_nought o l) depth 40 fits 20000) refl

  without_more : (c x : A) → o.sum c (o.product x o.nought) ≡ c
  without_more c x = ap (o.sum c) (product_nought o l x) ∙ sum_nought o l c

  -- x more of the vector at place i
  combined_more : (vs : List (ℕ → A)) (c : ℕ → A) (i : ℕ) (x : A) (k : ℕ) → i < length vs
      → combined o (λ j. o.sum (c j) (o.product x (spike o i j))) vs k ≡ o.sum (combined o c vs k) (o.product x (vector_at vs i k))
  combined_more [] c i x k b = absurd (omega arith)
  combined_more (v ∷ vs) c zero x k b =
      ap (o.sum (o.product (o.sum (c 0) (o.product x o.unit)) (v k)))
      (combined_same vs (λ j. o.sum (c (suc j)) (o.product x o.nought)) (λ j. c (suc j)) k (λ j. without_more (c (suc j)) x))
      ∙ first_more (c 0) x (v k) (combined o (λ j. c (suc j)) vs k)
  combined_more (v ∷ vs) c (suc i) x k b =
      ap (o.sum (o.product (o.sum (c 0) (o.product x o.nought)) (v k))) (combined_more vs (λ j. c (suc j)) i x k (omega arith))
      ∙ later_more (c 0) x (v k) (combined o (λ j. c (suc j)) vs k) (vector_at vs i k)

  -- a vector for each column at which a vector of the kernel ends
  abbrev pub Each : ℕ → List (List A) → List (ℕ → A) → Type 0
  Each n rows vs =
      (j : ℕ) → Ends o n rows j → ((i : ℕ) × (i < length vs) × InKernel o n rows (vector_at vs i) × EndsAt o n (vector_at vs i) j)

  -- w is turned into one that ends before
  abbrev reduced : A → A → (ℕ → A) → (ℕ → A) → ℕ → A
  reduced p e w v k = o.sum (o.product p (w k)) (o.product (o.neg e) (v k))

  cancels : (p e : A) → o.sum (o.product p e) (o.product (o.neg e) p) ≡ o.nought
  cancels p e = ring (solvable o l) (p ∷ e ∷ []) (search (reading, read_nought o l) depth 40 fits 20000) refl

  back : (f p e w v t : A) → o.product f (o.sum (o.product p w) (o.product (o.neg e) v)) ≡ t
      → o.product (o.product f p) w ≡ o.sum t (o.product (o.product f e) v)
  back f p e w v t h =
      from_all (solvable o l) (by (solvable o l) o.unit h ∷ [])
      (ring (solvable o l) (f ∷ p ∷ e ∷ w ∷ v ∷ t ∷ []) (search (reading, read_unit o l) depth 40 fits 20000) refl)

  module _ (d : NoDivisors o) (u : ¬ (o.unit ≡ o.nought)) (n : ℕ) (rows : List (List A)) (vs : List (ℕ → A)) (each : Each n rows vs) where
    further : (w : ℕ → A) (m : ℕ) (i : ℕ) → i < length vs → EndsAt o n (vector_at vs i) m
        → Spanned o n vs (reduced (vector_at vs i m) (w m) w (vector_at vs i)) → Spanned o n vs w
    further w m i b e s = record {
      factor = o.product s.factor (vector_at vs i m);
      nonzero = not_product o l n d s.factor (vector_at vs i m) s.nonzero e.here;
      by = λ j. o.sum (s.by j) (o.product (o.product s.factor (w m)) (spike o i j));
      is =
          λ k c. back s.factor (vector_at vs i m) (w m) (w k) (vector_at vs i k) (combined o s.by vs k) (s.is k c) ∙ sym
          (combined_more vs s.by i (o.product s.factor (w m)) k b);
    }

    -- a vector of the kernel that is zero from column m on
    spans_below : (m : ℕ) (w : ℕ → A) → m ≤ n → InKernel o n rows w → ((k : ℕ) → m ≤ k → k < n → w k ≡ o.nought) → Spanned o n vs w
    spans_below zero w b h z = record {
      factor = o.unit;
      nonzero = u;
      by = λ j. o.nought;
      is = λ k c. ap (o.product o.unit) (z k (omega arith) c) ∙ product_nought o l o.unit ∙ sym (combined_none vs k);
    }
    spans_below (suc m) w b h z =
        ⊎_elim
        (λ e. spans_below m w (omega arith) h (λ k c q. ⊎_elim (λ t. z k (omega arith) q)
        (λ t. subst (λ x. w x ≡ o.nought) (omega (arith, c, t)) e) (cases_lt m k)))
        (λ e.
        let ends : EndsAt o n w m = record { within = omega arith; here = e; later = λ k c q. z k (omega arith) q } in
        let v = each m (record { vector = w; kernel = h; ends = ends }) in
        let p : A = vector_at vs v.0 m in
        further w m v.0 v.1 v.3
        (spans_below m (reduced p (w m) w (vector_at vs v.0)) (omega arith)
        (combination o l n rows p (o.neg (w m)) w (vector_at vs v.0) (reduced p (w m) w (vector_at vs v.0)) (λ k c. refl) h v.2)
        (λ k c q. ⊎_elim
        (λ t. cc (z k (omega arith) q, v.3.later k t q, product_nought o l p, product_nought o l (o.neg (w m)), l.nought_sum o.nought))
        (λ t. subst (λ x. reduced p (w m) w (vector_at vs v.0) x ≡ o.nought) (omega (arith, c, t)) (cancels p (w m))) (cases_lt m k))))
        (zero_or_not o l (w m))

    -- every vector of the kernel has a multiple, by a factor that isn't zero, that is a sum of multiples of the vectors
    pub spans : (w : ℕ → A) → InKernel o n rows w → Spanned o n vs w
    spans w h = spans_below n w (omega arith) h (λ k c q. absurd (omega arith))
