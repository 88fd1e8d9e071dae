-- The laws on magnitudes for lists of coefficients, at each power.
use Rattle.std.specs.Prelude.{◌≡◌, ℕ, zero, suc, ◌+◌, Bool, true, false, ◌⊎◌, List, [], ◌∷◌, map, refl}
use Rattle.std.proofs.Common.{ap, sym, ◌∙◌, subst, inl, inr, ⊎_elim, arith}
use Rattle.ring_laws.specs.Algebra.{Ops, RingLaws, MagnitudeLaws}
use Rattle.poly_laws.specs.Lists.{coefficient_at, list_product}
use Rattle.poly_laws.proofs.ListLaws.{nought_product, times_zero, times_suc, times_none, times_cons_zero, times_cons_suc}

module _ {A : Type 0} (o : Ops A) (l : RingLaws o) (m : MagnitudeLaws o) where
  abbrev pub magnitudes_of : List A → List A
  magnitudes_of xs = map o.magnitude xs

  pub at_magnitudes : (xs : List A) (k : ℕ) → coefficient_at o (magnitudes_of xs) k ≡ o.magnitude (coefficient_at o xs k)
  at_magnitudes [] k = sym m.of_nought
  at_magnitudes (x ∷ xs) zero = refl
  at_magnitudes (x ∷ xs) (suc k) = at_magnitudes xs k

  pub covers_by : {x x' y y' : A} → x ≡ x' → y ≡ y' → o.Covers x' y' → o.Covers x y
  covers_by {x} {x'} {y} {y'} e f h = subst (λ t. o.Covers t y) (sym e) (subst (λ t. o.Covers x' t) (sym f) h)

  pub fits_by : {x x' : A} → x ≡ x' → o.Fits x' → o.Fits x
  fits_by e h = subst (λ t. o.Fits t) (sym e) h

  pub covers_sums : (x y z w : A) → o.Covers x y → o.Covers z w → o.Covers (o.sum x z) (o.sum y w)
  covers_sums x y z w h k =
      m.covers_trans (o.sum x z) (o.sum y z) (o.sum y w) (m.covers_sum x y z h)
      (covers_by (l.sum_comm y z) (l.sum_comm y w) (m.covers_sum z w y k))

  pub sum_magnitude : (x y : A) → o.magnitude x ≡ x → o.magnitude y ≡ y → o.magnitude (o.sum x y) ≡ o.sum x y
  sum_magnitude x y e f = cc (m.of_sum x y)

  pub product_magnitude : (x y : A) → o.magnitude x ≡ x → o.magnitude y ≡ y → o.magnitude (o.product x y) ≡ o.product x y
  product_magnitude x y e f = cc (m.of_product x y)

  -- a size covers each of its parts
  pub left_part : (x y : A) → o.magnitude y ≡ y → o.Covers (o.sum x y) x
  left_part x y e = covers_by (ap (o.sum x) (sym e)) refl (m.part_covered x y)

  pub right_part : (x y : A) → o.magnitude x ≡ x → o.Covers (o.sum x y) y
  right_part x y e = covers_by (l.sum_comm x y) refl (left_part y x e)

  pub times_magnitude : (xs ys : List A) (k : ℕ) → o.magnitude (coefficient_at o (list_product o (magnitudes_of xs) (magnitudes_of ys)) k)
      ≡ coefficient_at o (list_product o (magnitudes_of xs) (magnitudes_of ys)) k
  times_magnitude [] ys k = m.of_nought
  times_magnitude (x ∷ xs) ys zero =
      cc (times_zero o l (o.magnitude x) (magnitudes_of xs) (magnitudes_of ys), at_magnitudes ys 0, m.of_product x (coefficient_at o ys 0))
  times_magnitude (x ∷ xs) ys (suc k) =
      cc (
        times_suc o l (o.magnitude x) (magnitudes_of xs) (magnitudes_of ys) k,
        at_magnitudes ys (suc k),
        sum_magnitude (o.product (o.magnitude x) (o.magnitude (coefficient_at o ys (suc k))))
            (coefficient_at o (list_product o (magnitudes_of xs) (magnitudes_of ys)) k) (m.of_product x (coefficient_at o ys (suc k)))
            (times_magnitude xs ys k),
      )

  pub times_covers : (zs xs ys : List A) → ((k : ℕ) → o.Covers (coefficient_at o xs k) (coefficient_at o ys k)) → (k : ℕ)
      → o.Covers (coefficient_at o (list_product o xs (magnitudes_of zs)) k) (coefficient_at o (list_product o ys (magnitudes_of zs)) k)
  times_covers [] xs ys h k = covers_by (times_none o l xs k) (times_none o l ys k) (m.covers_same o.nought)
  times_covers (z ∷ zs) xs ys h zero =
      covers_by (times_cons_zero o l xs (o.magnitude z) (magnitudes_of zs)) (times_cons_zero o l ys (o.magnitude z) (magnitudes_of zs))
      (m.covers_product (coefficient_at o xs 0) (coefficient_at o ys 0) z (h 0))
  times_covers (z ∷ zs) xs ys h (suc k) =
      covers_by (times_cons_suc o l xs (o.magnitude z) (magnitudes_of zs) k) (times_cons_suc o l ys (o.magnitude z) (magnitudes_of zs) k)
      (covers_sums (o.product (coefficient_at o xs (suc k)) (o.magnitude z)) (o.product (coefficient_at o ys (suc k)) (o.magnitude z))
      (coefficient_at o (list_product o xs (magnitudes_of zs)) k) (coefficient_at o (list_product o ys (magnitudes_of zs)) k)
      (m.covers_product (coefficient_at o xs (suc k)) (coefficient_at o ys (suc k)) z (h (suc k))) (times_covers zs xs ys h k))

  -- the sizes of a sum's parts cover its size, and so do what cover these
  pub sum_covered : (x y u v : A) → o.Covers u (o.magnitude x) → o.Covers v (o.magnitude y) → o.Covers (o.sum u v) (o.magnitude (o.sum x y))
  sum_covered x y u v h k =
      m.covers_trans (o.sum u v) (o.sum (o.magnitude x) (o.magnitude y)) (o.magnitude (o.sum x y))
      (covers_sums u (o.magnitude x) v (o.magnitude y) h k) (m.sum_covers x y)

  pub product_covered : (xs ys : List A) (k : ℕ)
      → o.Covers (coefficient_at o (list_product o (magnitudes_of xs) (magnitudes_of ys)) k) (o.magnitude (coefficient_at o (list_product o xs ys) k))
  product_covered [] ys k = covers_by refl m.of_nought (m.covers_same o.nought)
  product_covered (x ∷ xs) ys zero =
      covers_by (times_zero o l (o.magnitude x) (magnitudes_of xs) (magnitudes_of ys) ∙ ap (o.product (o.magnitude x)) (at_magnitudes ys 0))
      (ap o.magnitude (times_zero o l x xs ys)) (m.product_covers x (coefficient_at o ys 0))
  product_covered (x ∷ xs) ys (suc k) =
      covers_by (times_suc o l (o.magnitude x) (magnitudes_of xs) (magnitudes_of ys) k
      ∙ ap (λ t. o.sum (o.product (o.magnitude x) t) (coefficient_at o (list_product o (magnitudes_of xs) (magnitudes_of ys)) k))
      (at_magnitudes ys (suc k)))
      (ap o.magnitude (times_suc o l x xs ys k))
      (sum_covered (o.product x (coefficient_at o ys (suc k))) (coefficient_at o (list_product o xs ys) k)
      (o.product (o.magnitude x) (o.magnitude (coefficient_at o ys (suc k))))
      (coefficient_at o (list_product o (magnitudes_of xs) (magnitudes_of ys)) k)
      (m.product_covers x (coefficient_at o ys (suc k))) (product_covered xs ys k))

  -- the coefficient at i + j covers the product of those at i and at j
  pub part_of_product : (xs ys : List A) (i j k : ℕ) → i + j ≡ k
      → o.Covers (coefficient_at o (list_product o (magnitudes_of xs) (magnitudes_of ys)) k)
      (o.product (o.magnitude (coefficient_at o xs i)) (o.magnitude (coefficient_at o ys j)))
  part_of_product [] ys i j k e =
      covers_by refl (ap (λ t. o.product t (o.magnitude (coefficient_at o ys j))) m.of_nought
      ∙ nought_product o l (o.magnitude (coefficient_at o ys j))) (m.covers_same o.nought)
  part_of_product (x ∷ xs) ys zero j zero e =
      let h : j ≡ 0 = omega arith in
      covers_by (times_zero o l (o.magnitude x) (magnitudes_of xs) (magnitudes_of ys) ∙ ap (o.product (o.magnitude x)) (at_magnitudes ys 0))
      (ap (λ t. o.product (o.magnitude x) (o.magnitude (coefficient_at o ys t))) h)
      (m.covers_same (o.product (o.magnitude x) (o.magnitude (coefficient_at o ys 0))))
  part_of_product (x ∷ xs) ys zero j (suc k) e =
      let h : j ≡ suc k = omega arith in
      covers_by (times_suc o l (o.magnitude x) (magnitudes_of xs) (magnitudes_of ys) k
      ∙ ap (λ t. o.sum (o.product (o.magnitude x) t) (coefficient_at o (list_product o (magnitudes_of xs) (magnitudes_of ys)) k))
      (at_magnitudes ys (suc k)))
      (ap (λ t. o.product (o.magnitude x) (o.magnitude (coefficient_at o ys t))) h)
      (left_part (o.product (o.magnitude x) (o.magnitude (coefficient_at o ys (suc k))))
      (coefficient_at o (list_product o (magnitudes_of xs) (magnitudes_of ys)) k) (times_magnitude xs ys k))
  part_of_product (x ∷ xs) ys (suc i) j zero e = absurd (omega arith)
  part_of_product (x ∷ xs) ys (suc i) j (suc k) e =
      m.covers_trans (coefficient_at o (list_product o (magnitudes_of (x ∷ xs)) (magnitudes_of ys)) (suc k))
      (coefficient_at o (list_product o (magnitudes_of xs) (magnitudes_of ys)) k)
      (o.product (o.magnitude (coefficient_at o xs i)) (o.magnitude (coefficient_at o ys j)))
      (covers_by (times_suc o l (o.magnitude x) (magnitudes_of xs) (magnitudes_of ys) k
      ∙ ap (λ t. o.sum (o.product (o.magnitude x) t) (coefficient_at o (list_product o (magnitudes_of xs) (magnitudes_of ys)) k))
      (at_magnitudes ys (suc k))) refl
      (right_part (o.product (o.magnitude x) (o.magnitude (coefficient_at o ys (suc k))))
      (coefficient_at o (list_product o (magnitudes_of xs) (magnitudes_of ys)) k) (m.of_product x (coefficient_at o ys (suc k)))))
      (part_of_product xs ys i j k (omega arith))

  decided : (x : A) (b : Bool) → o.is_nought x ≡ b → (x ≡ o.nought) ⊎ (¬ (x ≡ o.nought))
  decided x true e = inl ((l.is_nought x).0 e)
  decided x false e = inr (λ n. cc (e, (l.is_nought x).1 n))

  pub decide : (x : A) → (x ≡ o.nought) ⊎ (¬ (x ≡ o.nought))
  decide x = decided x (o.is_nought x) refl

  abbrev pub AllNought : List A → Type 0
  AllNought xs = (k : ℕ) → coefficient_at o xs k ≡ o.nought

  abbrev pub SomeNot : List A → Type 0
  SomeNot xs = (i : ℕ) × (¬ (coefficient_at o xs i ≡ o.nought))

  all_nought : (x : A) (xs : List A) → x ≡ o.nought → AllNought xs → AllNought (x ∷ xs)
  all_nought x xs e h zero = e
  all_nought x xs e h (suc k) = h k

  pub find : (xs : List A) → (AllNought xs) ⊎ (SomeNot xs)
  find [] = inl (λ k. refl)
  find (x ∷ xs) =
      let poly : Type 0 = (AllNought (x ∷ xs)) ⊎ (SomeNot (x ∷ xs)) in
      ⊎_elim {C = poly} (λ e. ⊎_elim {C = poly} (λ h. inl (all_nought x xs e h)) (λ s. inr (suc s.0, s.1)) (find xs)) (λ n. inr (0, n)) (decide x)

  -- a size that zero covers is zero
  pub covered_by_nought : (x y : A) → x ≡ o.nought → o.Covers x y → o.magnitude y ≡ y → y ≡ o.nought
  covered_by_nought x y e h f = sym f ∙ m.nought_covers y (covers_by (sym e) f h)

  pub fits_covered_magnitude : (x y : A) → o.Fits x → o.Covers x y → o.magnitude y ≡ y → o.Fits y
  fits_covered_magnitude x y h k e = fits_by (sym e) (m.fits_covered x y h (covers_by refl e k))
