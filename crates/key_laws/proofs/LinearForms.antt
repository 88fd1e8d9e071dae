-- A map from lists of coefficients that is additive and keeps multiples is the sum of its values at the powers of the variable.
use Rattle.std.specs.Prelude.{◌≡◌, ℕ, zero, suc, List, [], ◌∷◌, map, refl}
use Rattle.std.proofs.Common.{ap, sym, ◌∙◌}
use Rattle.ring_laws.specs.Algebra.{Ops, RingLaws}
use Rattle.poly_laws.specs.Lists.{coefficient_at, list_sum, list_product, SameCoefficients}
use Rattle.poly_laws.specs.Shift.{list_shift}
use Rattle.poly_laws.proofs.ListLaws.{sum_nought, product_nought, at_sum, at_scale, times_same_right, times_sum, times_comm, times_scale}
use Rattle.kernel_laws.specs.Rows.{total}
use Rattle.poly_laws.proofs.Rings.{solvable}
use Rattle.ring_solver.proofs.Read.{reading, ring}
use Rattle.key_laws.specs.KeyRows.{listing, power_list}
use Rattle.poly_laws.proofs.ShiftedCoefficients.{shifted_same, shifted_sum, shifted_scale}
use Rattle.key_laws.proofs.Differences.{difference_at}

module _ {A : Type 0} (o : Ops A) (l : RingLaws o) where
  abbrev at : List A → ℕ → A
  at xs k = coefficient_at o xs k

  pub record IsLinear (f : List A → A) : Type 0 where
    pub same : (xs ys : List A) → SameCoefficients o xs ys → f xs ≡ f ys
    pub sum : (xs ys : List A) → f (list_sum o xs ys) ≡ o.sum (f xs) (f ys)
    pub scale : (c : A) (xs : List A) → f (map (o.product c) xs) ≡ o.product c (f xs)

  front_same : (xs ys : List A) → SameCoefficients o xs ys → SameCoefficients o (o.nought ∷ xs) (o.nought ∷ ys)
  front_same xs ys e zero = refl
  front_same xs ys e (suc k) = e k

  front_sum : (xs ys : List A) → SameCoefficients o (o.nought ∷ list_sum o xs ys) (list_sum o (o.nought ∷ xs) (o.nought ∷ ys))
  front_sum xs ys zero = sym (l.nought_sum o.nought)
  front_sum xs ys (suc k) = refl

  front_scale : (c : A) (xs : List A) → SameCoefficients o (o.nought ∷ map (o.product c) xs) (map (o.product c) (o.nought ∷ xs))
  front_scale c xs zero = sym (product_nought o l c)
  front_scale c xs (suc k) = refl

  -- the same map of the list with a zero in front
  in_front_linear : (f : List A → A) → IsLinear f → IsLinear (λ xs. f (o.nought ∷ xs))
  in_front_linear f h = record {
    same = λ xs ys e. h.same (o.nought ∷ xs) (o.nought ∷ ys) (front_same xs ys e);
    sum = λ xs ys. h.same (o.nought ∷ list_sum o xs ys) (list_sum o (o.nought ∷ xs) (o.nought ∷ ys)) (front_sum xs ys)
        ∙ h.sum (o.nought ∷ xs) (o.nought ∷ ys);
    scale = λ c xs. h.same (o.nought ∷ map (o.product c) xs) (map (o.product c) (o.nought ∷ xs)) (front_scale c xs) ∙ h.scale c (o.nought ∷ xs);
  }

  none_linear : (f : List A → A) → IsLinear f → f [] ≡ o.nought
  none_linear f h =
      h.same [] (map (o.product o.nought) []) (λ k. refl) ∙ h.scale o.nought [] ∙ l.product_comm o.nought (f []) ∙ product_nought o l (f [])

  parted : (x : A) (ys : List A) → SameCoefficients o (x ∷ ys) (list_sum o (map (o.product x) (o.unit ∷ [])) (o.nought ∷ ys))
  parted x ys zero = sym (sum_nought o l (o.product x o.unit) ∙ l.product_comm x o.unit ∙ l.unit_product x)
  parted x ys (suc k) = refl

  pub by_powers : (n : ℕ) (v : ℕ → A) (f : List A → A) → IsLinear f
      → f (listing n v) ≡ total o n (λ i. o.product (v i) (f (power_list o i)))
  by_powers zero v f h = none_linear f h
  by_powers (suc n) v f h =
      h.same (v 0 ∷ listing n (λ i. v (suc i))) (list_sum o (map (o.product (v 0)) (o.unit ∷ [])) (o.nought ∷ listing n (λ i. v (suc i))))
      (parted (v 0) (listing n (λ i. v (suc i))))
      ∙ h.sum (map (o.product (v 0)) (o.unit ∷ [])) (o.nought ∷ listing n (λ i. v (suc i)))
      ∙ ap (λ z. o.sum z (f (o.nought ∷ listing n (λ i. v (suc i))))) (h.scale (v 0) (o.unit ∷ []))
      ∙ ap (o.sum (o.product (v 0) (f (o.unit ∷ []))))
      (by_powers n (λ i. v (suc i)) (λ xs. f (o.nought ∷ xs)) (in_front_linear f h))

  times_scale_right : (c : A) (xs ys : List A) (k : ℕ)
      → at (list_product o xs (map (o.product c) ys)) k ≡ o.product c (at (list_product o xs ys) k)
  times_scale_right c xs ys k = times_comm o l xs (map (o.product c) ys) k ∙ times_scale o l c ys xs k ∙ ap (o.product c) (times_comm o l ys xs k)

  by_sum : (a b c d : A) → o.sum (o.sum a b) (o.neg (o.sum c d)) ≡ o.sum (o.sum a (o.neg c)) (o.sum b (o.neg d))
  by_sum a b c d = ring (solvable o l) (a ∷ b ∷ c ∷ d ∷ []) (search reading depth 40 fits 20000) refl

  by_scale : (c a b : A) → o.sum (o.product c a) (o.neg (o.product c b)) ≡ o.product c (o.sum a (o.neg b))
  by_scale c a b = ring (solvable o l) (c ∷ a ∷ b ∷ []) (search reading depth 40 fits 20000) refl

  -- the difference of the key equation is such a map of Y
  pub difference_linear : (q b : List A) (k : ℕ) → IsLinear (λ y. difference_at o l q b y k)
  difference_linear q b k =
      let s : List A → List A = λ xs. list_shift o o.unit xs in
      record {
        same = λ xs ys e. cc (
          times_same_right o l q (s xs) (s ys) (shifted_same o l o.unit xs ys e) k,
          times_same_right o l b xs ys e k,
        );
        sum = λ xs ys. cc (
          times_same_right o l q (s (list_sum o xs ys)) (list_sum o (s xs) (s ys))
              (λ i. shifted_sum o l o.unit xs ys i ∙ sym (at_sum o l (s xs) (s ys) i)) k,
          times_sum o l q (s xs) (s ys) k,
          times_sum o l b xs ys k,
          by_sum (at (list_product o q (s xs)) k) (at (list_product o q (s ys)) k) (at (list_product o b xs) k) (at (list_product o b ys) k),
        );
        scale = λ c xs. cc (
          times_same_right o l q (s (map (o.product c) xs)) (map (o.product c) (s xs))
              (λ i. shifted_scale o l o.unit c xs i ∙ sym (at_scale o l c (s xs) i)) k,
          times_scale_right c q (s xs) k,
          times_scale_right c b xs k,
          by_scale c (at (list_product o q (s xs)) k) (at (list_product o b xs) k),
        );
      }
