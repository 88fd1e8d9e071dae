-- The ring laws for lists of coefficients, at each power.
use Rattle.std.specs.Prelude.{◌≡◌, ℕ, zero, suc, List, [], ◌∷◌, map, refl}
use Rattle.std.proofs.Common.{ap, sym, ◌∙◌}
use Rattle.ring_laws.specs.Algebra.{Ops, RingLaws}
use Rattle.poly_laws.specs.Lists.{coefficient_at, list_sum, list_product, SameCoefficients}

module _ {A : Type 0} (o : Ops A) (l : RingLaws o) where
  pub sum_nought : (x : A) → o.sum x o.nought ≡ x
  sum_nought x = l.sum_comm x o.nought ∙ l.nought_sum x

  pub product_nought : (x : A) → o.product x o.nought ≡ o.nought
  product_nought x =
      let p : A = o.product x o.nought in
      let twice : o.sum p p ≡ p = sym (l.distributes x o.nought o.nought) ∙ ap (o.product x) (l.nought_sum o.nought) in
      let e : o.sum (o.sum p p) (o.neg p) ≡ o.sum p (o.neg p) = ap (λ t. o.sum t (o.neg p)) twice in
      sym (sum_nought p) ∙ ap (o.sum p) (sym (l.sum_neg p)) ∙ sym (l.sum_assoc p p (o.neg p)) ∙ e ∙ l.sum_neg p

  pub nought_product : (x : A) → o.product o.nought x ≡ o.nought
  nought_product x = l.product_comm o.nought x ∙ product_nought x

  pub neg_nought : o.neg o.nought ≡ o.nought
  neg_nought = sym (l.nought_sum (o.neg o.nought)) ∙ l.sum_neg o.nought

  pub swap : (a b c : A) → o.sum a (o.sum b c) ≡ o.sum b (o.sum a c)
  swap a b c = sym (l.sum_assoc a b c) ∙ ap (λ t. o.sum t c) (l.sum_comm a b) ∙ l.sum_assoc b a c

  pub interchange : (a b c d : A) → o.sum (o.sum a b) (o.sum c d) ≡ o.sum (o.sum a c) (o.sum b d)
  interchange a b c d = l.sum_assoc a b (o.sum c d) ∙ ap (o.sum a) (swap b c d) ∙ sym (l.sum_assoc a c (o.sum b d))

  pub at_sum : (xs ys : List A) (k : ℕ) → coefficient_at o (list_sum o xs ys) k ≡ o.sum (coefficient_at o xs k) (coefficient_at o ys k)
  at_sum [] ys k = sym (l.nought_sum (coefficient_at o ys k))
  at_sum (x ∷ xs) [] k = sym (sum_nought (coefficient_at o (x ∷ xs) k))
  at_sum (x ∷ xs) (y ∷ ys) zero = refl
  at_sum (x ∷ xs) (y ∷ ys) (suc k) = at_sum xs ys k

  pub at_scale : (x : A) (ys : List A) (k : ℕ) → coefficient_at o (map (o.product x) ys) k ≡ o.product x (coefficient_at o ys k)
  at_scale x [] k = sym (product_nought x)
  at_scale x (y ∷ ys) zero = refl
  at_scale x (y ∷ ys) (suc k) = at_scale x ys k

  pub at_neg : (xs : List A) (k : ℕ) → coefficient_at o (map o.neg xs) k ≡ o.neg (coefficient_at o xs k)
  at_neg [] k = sym neg_nought
  at_neg (x ∷ xs) zero = refl
  at_neg (x ∷ xs) (suc k) = at_neg xs k

  pub times_zero : (x : A) (xs ys : List A) → coefficient_at o (list_product o (x ∷ xs) ys) 0 ≡ o.product x (coefficient_at o ys 0)
  times_zero x xs ys = at_sum (map (o.product x) ys) (o.nought ∷ list_product o xs ys) 0 ∙ sum_nought (coefficient_at o (map (o.product x) ys) 0)
      ∙ at_scale x ys 0

  pub times_suc : (x : A) (xs ys : List A) (k : ℕ)
      → coefficient_at o (list_product o (x ∷ xs) ys) (suc k)
      ≡ o.sum (o.product x (coefficient_at o ys (suc k))) (coefficient_at o (list_product o xs ys) k)
  times_suc x xs ys k = at_sum (map (o.product x) ys) (o.nought ∷ list_product o xs ys) (suc k)
      ∙ ap (λ t. o.sum t (coefficient_at o (list_product o xs ys) k)) (at_scale x ys (suc k))

  pub times_same_right : (xs ys zs : List A) → SameCoefficients o ys zs → (k : ℕ)
      → coefficient_at o (list_product o xs ys) k ≡ coefficient_at o (list_product o xs zs) k
  times_same_right [] ys zs e k = refl
  times_same_right (x ∷ xs) ys zs e zero = cc (times_zero x xs ys, times_zero x xs zs, e zero)
  times_same_right (x ∷ xs) ys zs e (suc k) = cc (times_suc x xs ys k, times_suc x xs zs k, e (suc k), times_same_right xs ys zs e k)

  pub times_none : (xs : List A) (k : ℕ) → coefficient_at o (list_product o xs []) k ≡ o.nought
  times_none [] k = refl
  times_none (x ∷ xs) zero = times_zero x xs [] ∙ product_nought x
  times_none (x ∷ xs) (suc k) = cc (times_suc x xs [] k, product_nought x, times_none xs k, l.nought_sum o.nought)

  pub times_cons_zero : (xs : List A) (y : A) (ys : List A) → coefficient_at o (list_product o xs (y ∷ ys)) 0 ≡ o.product (coefficient_at o xs 0) y
  times_cons_zero [] y ys = sym (nought_product y)
  times_cons_zero (x ∷ xs) y ys = times_zero x xs (y ∷ ys)

  pub times_cons_suc : (xs : List A) (y : A) (ys : List A) (k : ℕ)
      → coefficient_at o (list_product o xs (y ∷ ys)) (suc k)
      ≡ o.sum (o.product (coefficient_at o xs (suc k)) y) (coefficient_at o (list_product o xs ys) k)
  times_cons_suc [] y ys k = cc (nought_product y, l.nought_sum o.nought)
  times_cons_suc (x ∷ xs) y ys zero =
      cc (
        times_suc x xs (y ∷ ys) zero,
        times_cons_zero xs y ys,
        times_zero x xs ys,
        l.sum_comm (o.product x (coefficient_at o ys 0)) (o.product (coefficient_at o xs 0) y),
      )
  times_cons_suc (x ∷ xs) y ys (suc k) =
      cc (
        times_suc x xs (y ∷ ys) (suc k),
        times_cons_suc xs y ys k,
        times_suc x xs ys k,
        swap (o.product x (coefficient_at o ys (suc k))) (o.product (coefficient_at o xs (suc k)) y) (coefficient_at o (list_product o xs ys) k),
      )

  pub times_comm : (xs ys : List A) (k : ℕ) → coefficient_at o (list_product o xs ys) k ≡ coefficient_at o (list_product o ys xs) k
  times_comm [] ys k = sym (times_none ys k)
  times_comm (x ∷ xs) ys zero = times_zero x xs ys ∙ l.product_comm x (coefficient_at o ys 0) ∙ sym (times_cons_zero ys x xs)
  times_comm (x ∷ xs) ys (suc k) =
      cc (times_suc x xs ys k, times_cons_suc ys x xs k, l.product_comm x (coefficient_at o ys (suc k)), times_comm xs ys k)

  pub times_same_left : (xs ys zs : List A) → SameCoefficients o xs ys → (k : ℕ)
      → coefficient_at o (list_product o xs zs) k ≡ coefficient_at o (list_product o ys zs) k
  times_same_left xs ys zs e k = times_comm xs zs k ∙ times_same_right zs xs ys e k ∙ times_comm zs ys k

  pub times_sum : (xs ys zs : List A) (k : ℕ)
      → coefficient_at o (list_product o xs (list_sum o ys zs)) k
      ≡ o.sum (coefficient_at o (list_product o xs ys) k) (coefficient_at o (list_product o xs zs) k)
  times_sum [] ys zs k = sym (l.nought_sum o.nought)
  times_sum (x ∷ xs) ys zs zero =
      cc (
        times_zero x xs (list_sum o ys zs),
        at_sum ys zs 0,
        l.distributes x (coefficient_at o ys 0) (coefficient_at o zs 0),
        times_zero x xs ys,
        times_zero x xs zs,
      )
  times_sum (x ∷ xs) ys zs (suc k) =
      cc (
        times_suc x xs (list_sum o ys zs) k,
        at_sum ys zs (suc k),
        l.distributes x (coefficient_at o ys (suc k)) (coefficient_at o zs (suc k)),
        times_sum xs ys zs k,
        times_suc x xs ys k,
        times_suc x xs zs k,
        interchange (o.product x (coefficient_at o ys (suc k))) (o.product x (coefficient_at o zs (suc k)))
            (coefficient_at o (list_product o xs ys) k) (coefficient_at o (list_product o xs zs) k),
      )

  pub times_sum_left : (xs ys zs : List A) (k : ℕ)
      → coefficient_at o (list_product o (list_sum o xs ys) zs) k
      ≡ o.sum (coefficient_at o (list_product o xs zs) k) (coefficient_at o (list_product o ys zs) k)
  times_sum_left xs ys zs k = cc (times_comm (list_sum o xs ys) zs k, times_sum zs xs ys k, times_comm zs xs k, times_comm zs ys k)

  pub times_scale : (x : A) (ys zs : List A) (k : ℕ) → coefficient_at o (list_product o (map (o.product x) ys) zs) k
      ≡ o.product x (coefficient_at o (list_product o ys zs) k)
  times_scale x [] zs k = sym (product_nought x)
  times_scale x (y ∷ ys) zs zero =
      cc (times_zero (o.product x y) (map (o.product x) ys) zs, times_zero y ys zs, l.product_assoc x y (coefficient_at o zs 0))
  times_scale x (y ∷ ys) zs (suc k) =
      cc (
        times_suc (o.product x y) (map (o.product x) ys) zs k,
        times_suc y ys zs k,
        l.product_assoc x y (coefficient_at o zs (suc k)),
        times_scale x ys zs k,
        l.distributes x (o.product y (coefficient_at o zs (suc k))) (coefficient_at o (list_product o ys zs) k),
      )

  pub times_assoc : (xs ys zs : List A) (k : ℕ) → coefficient_at o (list_product o (list_product o xs ys) zs) k
      ≡ coefficient_at o (list_product o xs (list_product o ys zs)) k
  times_assoc [] ys zs k = refl
  times_assoc (x ∷ xs) ys zs zero =
      cc (
        times_sum_left (map (o.product x) ys) (o.nought ∷ list_product o xs ys) zs zero,
        times_scale x ys zs zero,
        times_zero o.nought (list_product o xs ys) zs,
        nought_product (coefficient_at o zs 0),
        sum_nought (o.product x (coefficient_at o (list_product o ys zs) 0)),
        times_zero x xs (list_product o ys zs),
      )
  times_assoc (x ∷ xs) ys zs (suc k) =
      cc (
        times_sum_left (map (o.product x) ys) (o.nought ∷ list_product o xs ys) zs (suc k),
        times_scale x ys zs (suc k),
        times_suc o.nought (list_product o xs ys) zs k,
        nought_product (coefficient_at o zs (suc k)),
        l.nought_sum (coefficient_at o (list_product o (list_product o xs ys) zs) k),
        times_assoc xs ys zs k,
        times_suc x xs (list_product o ys zs) k,
      )

  pub times_unit : (ys : List A) (k : ℕ) → coefficient_at o (list_product o (o.unit ∷ []) ys) k ≡ coefficient_at o ys k
  times_unit ys zero = times_zero o.unit [] ys ∙ l.unit_product (coefficient_at o ys 0)
  times_unit ys (suc k) = times_suc o.unit [] ys k ∙ sum_nought (o.product o.unit (coefficient_at o ys (suc k)))
      ∙ l.unit_product (coefficient_at o ys (suc k))
