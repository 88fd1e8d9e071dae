-- The two greatest coefficients of a polynomial at k+t: that of k^e stays, and that of k^(e-1) grows by e times t times it.
use Rattle.std.specs.Prelude.{◌≡◌, ℕ, zero, suc, ◌<◌, pos, ◌+ℤ◌, List, [], ◌∷◌, refl}
use Rattle.std.proofs.Common.{ap, sym, ◌∙◌, arith}
use Rattle.std.proofs.lemmas.Int.{ints}
use Rattle.ring_laws.specs.Algebra.{Ops, RingLaws}
use Rattle.poly_laws.specs.Lists.{coefficient_at}
use Rattle.poly_laws.specs.Shift.{list_shift}
use Rattle.poly_laws.proofs.ListLaws.{sum_nought, product_nought, nought_product}
use Rattle.poly_laws.proofs.Rings.{solvable, read_nought, read_unit}
use Rattle.ring_solver.proofs.Read.{reading, ring}
use Rattle.poly_laws.proofs.ShiftedCoefficients.{shifted_zero, shifted_suc, shifted_above}

one_more : (e : ℕ) → pos (suc e) ≡ pos e +ℤ pos 1
one_more e = omega (arith, ints)

module _ {A : Type 0} (o : Ops A) (l : RingLaws o) where
  abbrev at : List A → ℕ → A
  at xs k = coefficient_at o xs k

  abbrev before : List A → ℕ → A
  before xs k = coefficient_at o (o.nought ∷ xs) k

  -- the coefficients above m are zero
  abbrev pub EndsBy : List A → ℕ → Type 0
  EndsBy xs m = (k : ℕ) → m < k → coefficient_at o xs k ≡ o.nought

  pub tail_ends : (x : A) (xs : List A) (m : ℕ) → EndsBy (x ∷ xs) (suc m) → EndsBy xs m
  tail_ends x xs m h k b = h (suc k) (omega arith)

  -- behind a constant there are zeros
  pub tail_zero : (x : A) (xs : List A) → EndsBy (x ∷ xs) 0 → (k : ℕ) → coefficient_at o xs k ≡ o.nought
  tail_zero x xs h k = h (suc k) (omega arith)

  module _ (t : A) where
    pub shifted_ends : (xs : List A) (m : ℕ) → EndsBy xs m → EndsBy (list_shift o t xs) m
    shifted_ends xs m h k b = shifted_above o l t xs (suc m) (λ i c. h i (omega arith)) k (omega arith)

    pub shifted_top : (xs : List A) (e : ℕ) → EndsBy xs e → at (list_shift o t xs) e ≡ at xs e
    shifted_top [] e h = refl
    shifted_top (x ∷ xs) zero h =
        cc (
          shifted_zero o l t x xs,
          shifted_above o l t xs 0 (λ k b. tail_zero x xs h k) 0 (omega arith),
          product_nought o l t,
          sum_nought o l x,
        )
    shifted_top (x ∷ xs) (suc e) h =
        let f : EndsBy xs e = tail_ends x xs e h in
        cc (
          shifted_suc o l t x xs e,
          shifted_ends xs e f (suc e) (omega arith),
          shifted_top xs e f,
          product_nought o l t,
          l.nought_sum (at xs e),
        )

  module _ (t : A) where
    -- e times t times x
    abbrev pub times : ℕ → A → A
    times e x = o.product (o.product (o.whole (pos e)) t) x

    times_none : (x : A) → times 0 x ≡ o.nought
    times_none x = ap (λ z. o.product (o.product z t) x) l.whole_zero ∙ ap (λ z. o.product z x) (nought_product o l t) ∙ nought_product o l x

    times_more : (e : ℕ) (x : A) → times (suc e) x ≡ o.sum (times e x) (o.product t x)
    times_more e x =
        ap (λ z. o.product (o.product z t) x) (ap o.whole (one_more e) ∙ l.whole_sum (pos e) (pos 1) ∙ ap (o.sum (o.whole (pos e))) l.whole_one)
        ∙ spread (o.whole (pos e))
      where
        spread : (w : A) → o.product (o.product (o.sum w o.unit) t) x ≡ o.sum (o.product (o.product w t) x) (o.product t x)
        spread w = ring (solvable o l) (w ∷ x ∷ t ∷ []) (search (reading, read_unit o l) depth 40 fits 20000) refl

    first_step : (x s : A) → o.sum x (o.product t s) ≡ o.sum x (o.sum o.nought (o.product t s))
    first_step x s = ring (solvable o l) (x ∷ s ∷ t ∷ []) (search (reading, read_nought o l) depth 40 fits 20000) refl

    later_step : (s b w : A) → o.sum (o.product t s) (o.sum b w) ≡ o.sum b (o.sum w (o.product t s))
    later_step s b w = ring (solvable o l) (s ∷ b ∷ w ∷ t ∷ []) (search reading depth 40 fits 20000) refl

    pub shifted_second : (xs : List A) (e : ℕ) → EndsBy xs e
        → before (list_shift o t xs) e ≡ o.sum (before xs e) (o.product (o.product (o.whole (pos e)) t) (at xs e))
    shifted_second xs zero h = sym (ap (o.sum o.nought) (times_none (at xs 0)) ∙ l.nought_sum o.nought)
    shifted_second [] (suc e) h = sym (ap (o.sum o.nought) (product_nought o l (o.product (o.whole (pos (suc e))) t)) ∙ l.nought_sum o.nought)
    shifted_second (x ∷ xs) (suc zero) h =
        cc (
          shifted_zero o l t x xs,
          shifted_top t xs 0 (tail_ends x xs 0 h),
          first_step x (at xs 0),
          times_none (at xs 0),
          times_more 0 (at xs 0),
        )
    shifted_second (x ∷ xs) (suc (suc e)) h =
        let f : EndsBy xs (suc e) = tail_ends x xs (suc e) h in
        cc (
          shifted_suc o l t x xs e,
          shifted_top t xs (suc e) f,
          shifted_second xs (suc e) f,
          later_step (at xs (suc e)) (before xs (suc e)) (times (suc e) (at xs (suc e))),
          times_more (suc e) (at xs (suc e)),
        )

  by_one : (w x : A) → o.product (o.product w o.unit) x ≡ o.product w x
  by_one w x = ap (λ z. o.product z x) (l.product_comm w o.unit ∙ l.unit_product w)

  -- the same at k+1
  pub next_second : (xs : List A) (e : ℕ) → EndsBy xs e
      → before (list_shift o o.unit xs) e ≡ o.sum (before xs e) (o.product (o.whole (pos e)) (at xs e))
  next_second xs e h = shifted_second o.unit xs e h ∙ ap (o.sum (before xs e)) (by_one (o.whole (pos e)) (at xs e))
