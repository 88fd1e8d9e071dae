-- A product at k+t is the product at k+t, and what isn't zero isn't zero at k+t.
use Rattle.std.specs.Prelude.{◌≡◌, ℕ, zero, suc, ◌+◌, ◌≤◌, List, [], ◌∷◌, map, length, refl}
use Rattle.std.proofs.Common.{ap, sym, ◌∙◌, arith}
use Rattle.ring_laws.specs.Algebra.{Ops, RingLaws}
use Rattle.poly_laws.specs.Lists.{coefficient_at, list_sum, list_product}
use Rattle.poly_laws.specs.Shift.{raised_by, list_shift}
use Rattle.poly_laws.proofs.ListLaws.{sum_nought, nought_product, times_zero, times_suc, times_sum_left, times_scale}
use Rattle.poly_laws.proofs.Trimming.{beyond}
use Rattle.poly_laws.proofs.ShiftedCoefficients.{raised_at, shifted_sum, shifted_scale}
use Rattle.poly_laws.proofs.ShiftedTops.{EndsBy, shifted_top}

module _ {A : Type 0} (o : Ops A) (l : RingLaws o) (t : A) where
  abbrev at : List A → ℕ → A
  at xs k = coefficient_at o xs k

  abbrev s : List A → List A
  s xs = list_shift o t xs

  -- the variable times a list, times another
  front_times : (xs ys : List A) (k : ℕ) → at (list_product o (o.nought ∷ xs) ys) k ≡ at (o.nought ∷ list_product o xs ys) k
  front_times xs ys zero = times_zero o l o.nought xs ys ∙ nought_product o l (at ys 0)
  front_times xs ys (suc k) =
      times_suc o l o.nought xs ys k
      ∙ ap (λ z. o.sum z (at (list_product o xs ys) k)) (nought_product o l (at ys (suc k)))
      ∙ l.nought_sum (at (list_product o xs ys) k)

  one_times : (x : A) (ys : List A) (k : ℕ) → at (list_product o (x ∷ []) ys) k ≡ o.product x (at ys k)
  one_times x ys zero = times_zero o l x [] ys
  one_times x ys (suc k) = times_suc o l x [] ys k ∙ sum_nought o l (o.product x (at ys (suc k)))

  raised_times : (x : A) (f g : List A) (k : ℕ)
      → at (list_product o (raised_by o t x f) g) k
      ≡ o.sum (o.product x (at g k)) (o.sum (o.product t (at (list_product o f g) k)) (at (o.nought ∷ list_product o f g) k))
  raised_times x f g k =
      cc (
        times_sum_left o l (x ∷ []) (list_sum o (map (o.product t) f) (o.nought ∷ f)) g k,
        one_times x g k,
        times_sum_left o l (map (o.product t) f) (o.nought ∷ f) g k,
        times_scale o l t f g k,
        front_times f g k,
      )

  none_first : (k : ℕ) → at (o.nought ∷ []) k ≡ o.nought
  none_first zero = refl
  none_first (suc k) = refl

  pub shifted_front : (h : List A) (k : ℕ) → at (s (o.nought ∷ h)) k ≡ o.sum (o.product t (at (s h) k)) (at (o.nought ∷ s h) k)
  shifted_front h k =
      raised_at o l t o.nought (s h) k
      ∙ ap (λ z. o.sum z (o.sum (o.product t (at (s h) k)) (at (o.nought ∷ s h) k))) (none_first k)
      ∙ l.nought_sum (o.sum (o.product t (at (s h) k)) (at (o.nought ∷ s h) k))

  pub in_front : (xs ys : List A) → ((k : ℕ) → at xs k ≡ at ys k) → (k : ℕ) → at (o.nought ∷ xs) k ≡ at (o.nought ∷ ys) k
  in_front xs ys h zero = refl
  in_front xs ys h (suc k) = h k

  pub shifted_product : (f g : List A) (k : ℕ)
      → at (list_shift o t (list_product o f g)) k ≡ at (list_product o (list_shift o t f) (list_shift o t g)) k
  shifted_product [] g k = refl
  shifted_product (x ∷ f) g k =
      cc (
        shifted_sum o l t (map (o.product x) g) (o.nought ∷ list_product o f g) k,
        shifted_scale o l t x g k,
        shifted_front (list_product o f g) k,
        shifted_product f g k,
        in_front (s (list_product o f g)) (list_product o (s f) (s g)) (shifted_product f g) k,
        raised_times x (s f) (s g) k,
      )

  none_above : (xs : List A) → ((k : ℕ) → at (s xs) k ≡ o.nought) → (fuel i : ℕ) → length xs ≤ i + fuel → at xs i ≡ o.nought
  none_above xs h zero i b = beyond o xs i (omega (arith, b))
  none_above xs h (suc fuel) i b =
      let later : EndsBy o l xs i = λ k c. none_above xs h fuel k (omega (arith, b, c)) in
      sym (shifted_top o l t xs i later) ∙ h i

  -- what is zero at k+t is zero
  pub shifted_none : (xs : List A) → ((k : ℕ) → at (list_shift o t xs) k ≡ o.nought) → (k : ℕ) → at xs k ≡ o.nought
  shifted_none xs h k = none_above xs h (length xs) k (omega arith)
