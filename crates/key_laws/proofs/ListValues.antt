-- Values of lists of coefficients at a value of their ring, and the quotient by the variable less a zero.
use Rattle.std.specs.Prelude.{◌≡◌, ℕ, zero, suc, ◌≤◌, List, [], ◌∷◌, map, refl}
use Rattle.std.proofs.Common.{ap, sym, ◌∙◌, arith}
use Rattle.ring_laws.specs.Algebra.{Ops, RingLaws}
use Rattle.poly_laws.specs.Evaluation.{list_value}
use Rattle.poly_laws.specs.Lists.{coefficient_at, list_sum, list_product, SameCoefficients}
use Rattle.poly_laws.proofs.ListLaws.{sum_nought, product_nought, nought_product, times_zero, times_suc}
use Rattle.poly_laws.proofs.OneQuotient.{equal_by}
use Rattle.poly_laws.proofs.Rings.{solvable, read_nought}
use Rattle.ring_solver.proofs.Read.{reading, ring}

module _ {A : Type 0} (o : Ops A) (l : RingLaws o) (v : A) where
  abbrev at : List A → ℕ → A
  at xs k = coefficient_at o xs k

  abbrev value : List A → A
  value xs = list_value o v xs

  value_none : (xs : List A) → ((k : ℕ) → at xs k ≡ o.nought) → value xs ≡ o.nought
  value_none [] h = refl
  value_none (x ∷ xs) h = cc (h 0, value_none xs (λ k. h (suc k)), product_nought o l v, l.nought_sum o.nought)

  pub value_same : (xs ys : List A) → SameCoefficients o xs ys → list_value o v xs ≡ list_value o v ys
  value_same [] ys e = sym (value_none ys (λ k. sym (e k)))
  value_same (x ∷ xs) [] e = value_none (x ∷ xs) e
  value_same (x ∷ xs) (y ∷ ys) e = cc (e 0, value_same xs ys (λ k. e (suc k)))

  step_sum : (x y a b : A) → o.sum (o.sum x y) (o.product v (o.sum a b)) ≡ o.sum (o.sum x (o.product v a)) (o.sum y (o.product v b))
  step_sum x y a b = ring (solvable o l) (x ∷ y ∷ a ∷ b ∷ v ∷ []) (search reading depth 40 fits 20000) refl

  pub value_sum : (xs ys : List A) → list_value o v (list_sum o xs ys) ≡ o.sum (list_value o v xs) (list_value o v ys)
  value_sum [] ys = sym (l.nought_sum (value ys))
  value_sum (x ∷ xs) [] = sym (sum_nought o l (value (x ∷ xs)))
  value_sum (x ∷ xs) (y ∷ ys) = ap (λ t. o.sum (o.sum x y) (o.product v t)) (value_sum xs ys) ∙ step_sum x y (value xs) (value ys)

  step_scale : (c x a : A) → o.sum (o.product c x) (o.product v (o.product c a)) ≡ o.product c (o.sum x (o.product v a))
  step_scale c x a = ring (solvable o l) (c ∷ x ∷ a ∷ v ∷ []) (search reading depth 40 fits 20000) refl

  value_scale : (c : A) (xs : List A) → value (map (o.product c) xs) ≡ o.product c (value xs)
  value_scale c [] = sym (product_nought o l c)
  value_scale c (x ∷ xs) = ap (λ t. o.sum (o.product c x) (o.product v t)) (value_scale c xs) ∙ step_scale c x (value xs)

  step_product : (x a y : A) → o.sum (o.product x y) (o.sum o.nought (o.product v (o.product a y))) ≡ o.product (o.sum x (o.product v a)) y
  step_product x a y = ring (solvable o l) (x ∷ a ∷ y ∷ v ∷ []) (search (reading, read_nought o l) depth 40 fits 20000) refl

  pub value_product : (xs ys : List A) → list_value o v (list_product o xs ys) ≡ o.product (list_value o v xs) (list_value o v ys)
  value_product [] ys = sym (nought_product o l (value ys))
  value_product (x ∷ xs) ys =
      value_sum (map (o.product x) ys) (o.nought ∷ list_product o xs ys)
      ∙ cc (value_scale x ys, value_product xs ys, step_product x (value xs) (value ys))

  -- the values of what is left of a list from each place on
  abbrev values_on : List A → List A
  values_on [] = []
  values_on (x ∷ xs) = list_value o v (x ∷ xs) ∷ values_on xs

  -- the quotient by the variable less v
  abbrev pub quotient_of : List A → List A
  quotient_of [] = []
  quotient_of (x ∷ xs) = values_on xs

  -- the variable less v
  abbrev pub less : List A
  less = o.neg v ∷ o.unit ∷ []

  unit_times : (qs : List A) (k : ℕ) → at (list_product o (o.unit ∷ []) qs) k ≡ at qs k
  unit_times qs zero = times_zero o l o.unit [] qs ∙ l.unit_product (at qs 0)
  unit_times qs (suc k) = times_suc o l o.unit [] qs k ∙ sum_nought o l (o.product o.unit (at qs (suc k))) ∙ l.unit_product (at qs (suc k))

  first_value : (xs : List A) → at (values_on xs) 0 ≡ value xs
  first_value [] = refl
  first_value (x ∷ xs) = refl

  next_step : (x a : A) → o.sum (o.product (o.neg v) a) (o.sum x (o.product v a)) ≡ x
  next_step x a = ring (solvable o l) (x ∷ a ∷ v ∷ []) (search reading depth 40 fits 20000) refl

  none_left : o.sum (o.product (o.neg v) o.nought) o.nought ≡ o.nought
  none_left = ring (solvable o l) (v ∷ []) (search (reading, read_nought o l) depth 40 fits 20000) refl

  later : (xs : List A) (k : ℕ) → o.sum (o.product (o.neg v) (at (values_on xs) (suc k))) (at (values_on xs) k) ≡ at xs k
  later [] k = none_left
  later (x ∷ xs) zero = ap (λ t. o.sum (o.product (o.neg v) t) (value (x ∷ xs))) (first_value xs) ∙ next_step x (value xs)
  later (x ∷ xs) (suc k) = later xs k

  first_step : (x a : A) → o.sum x (o.product v a) ≡ o.nought → o.product (o.neg v) a ≡ x
  first_step x a e =
      equal_by o l (o.product (o.neg v) a) x (negative ∙ ap o.neg e ∙ sym (l.nought_sum (o.neg o.nought)) ∙ l.sum_neg o.nought)
    where
      negative : o.sum (o.product (o.neg v) a) (o.neg x) ≡ o.neg (o.sum x (o.product v a))
      negative = ring (solvable o l) (x ∷ a ∷ v ∷ []) (search reading depth 40 fits 20000) refl

  -- a list with the value zero at v is the variable less v times the quotient
  pub divided : (xs : List A) → list_value o v xs ≡ o.nought → (k : ℕ) → at (list_product o (o.neg v ∷ o.unit ∷ []) (quotient_of xs)) k ≡ at xs k
  divided [] e zero = times_zero o l (o.neg v) (o.unit ∷ []) [] ∙ product_nought o l (o.neg v)
  divided [] e (suc k) = times_suc o l (o.neg v) (o.unit ∷ []) [] k ∙ ap (o.sum (o.product (o.neg v) o.nought)) (unit_times [] k) ∙ none_left
  divided (x ∷ xs) e zero =
      times_zero o l (o.neg v) (o.unit ∷ []) (values_on xs) ∙ ap (o.product (o.neg v)) (first_value xs) ∙ first_step x (value xs) e
  divided (x ∷ xs) e (suc k) =
      times_suc o l (o.neg v) (o.unit ∷ []) (values_on xs) k
      ∙ ap (o.sum (o.product (o.neg v) (at (values_on xs) (suc k)))) (unit_times (values_on xs) k)
      ∙ later xs k

  -- the coefficients from n on are zero
  abbrev pub StopsAt : ℕ → List A → Type 0
  StopsAt n xs = (k : ℕ) → n ≤ k → coefficient_at o xs k ≡ o.nought

  values_stop : (n : ℕ) (xs : List A) → StopsAt n xs → StopsAt n (values_on xs)
  values_stop n [] h k b = refl
  values_stop n (x ∷ xs) h zero b = value_none (x ∷ xs) (λ k. h k (omega (arith, b)))
  values_stop zero (x ∷ xs) h (suc k) b = values_stop zero xs (λ i c. h (suc i) (omega arith)) k (omega arith)
  values_stop (suc n) (x ∷ xs) h (suc k) b = values_stop n xs (λ i c. h (suc i) (omega (arith, c))) k (omega (arith, b))

  -- the quotient has one coefficient less
  pub quotient_stops : (n : ℕ) (xs : List A) → StopsAt (suc n) xs → StopsAt n (quotient_of xs)
  quotient_stops n [] h k b = refl
  quotient_stops n (x ∷ xs) h k b = values_stop n xs (λ i c. h (suc i) (omega (arith, c))) k b
