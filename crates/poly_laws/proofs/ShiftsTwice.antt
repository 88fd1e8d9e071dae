-- Shifts of lists one after another.
use Rattle.std.specs.Prelude.{◌≡◌, ℕ, zero, suc, List, [], ◌∷◌, map, refl}
use Rattle.std.proofs.Common.{ap, ◌∙◌}
use Rattle.ring_laws.specs.Algebra.{Ops, RingLaws}
use Rattle.poly_laws.specs.Lists.{coefficient_at, list_sum}
use Rattle.poly_laws.specs.Shift.{list_shift}
use Rattle.poly_laws.proofs.ListLaws.{sum_nought, product_nought, nought_product}
use Rattle.poly_laws.proofs.Rings.{solvable}
use Rattle.ring_solver.proofs.Read.{reading, ring}
use Rattle.poly_laws.proofs.ShiftedCoefficients.{raised_at, shifted_zero, shifted_suc, shifted_sum, shifted_scale}
use Rattle.poly_laws.proofs.ShiftedProducts.{shifted_front, in_front}

module _ {A : Type 0} (o : Ops A) (l : RingLaws o) where
  abbrev at : List A → ℕ → A
  at xs k = coefficient_at o xs k

  pub alone : (t x : A) (k : ℕ) → at (list_shift o t (x ∷ [])) k ≡ at (x ∷ []) k
  alone t x zero = shifted_zero o l t x [] ∙ ap (o.sum x) (product_nought o l t) ∙ sum_nought o l x
  alone t x (suc k) = shifted_suc o l t x [] k ∙ ap (λ z. o.sum z o.nought) (product_nought o l t) ∙ l.nought_sum o.nought

  joined : (x u t z w : A) → o.sum x (o.sum (o.product u z) (o.sum (o.product t z) w)) ≡ o.sum x (o.sum (o.product (o.sum u t) z) w)
  joined x u t z w = ring (solvable o l) (x ∷ u ∷ t ∷ z ∷ w ∷ []) (search reading depth 40 fits 20000) refl

  pub shifted_twice : (t u : A) (xs : List A) (k : ℕ) → at (list_shift o t (list_shift o u xs)) k ≡ at (list_shift o (o.sum u t) xs) k
  shifted_twice t u [] k = refl
  shifted_twice t u (x ∷ xs) k =
      let ys : List A = list_shift o u xs in
      let zs : List A = list_shift o (o.sum u t) xs in
      cc (
        shifted_sum o l t (x ∷ []) (list_sum o (map (o.product u) ys) (o.nought ∷ ys)) k,
        alone t x k,
        shifted_sum o l t (map (o.product u) ys) (o.nought ∷ ys) k,
        shifted_scale o l t u ys k,
        shifted_front o l t ys k,
        shifted_twice t u xs k,
        in_front o l t (list_shift o t ys) zs (shifted_twice t u xs) k,
        joined (at (x ∷ []) k) u t (at zs k) (at (o.nought ∷ zs) k),
        raised_at o l (o.sum u t) x zs k,
      )

  pub shifted_by_none : (xs : List A) (k : ℕ) → at (list_shift o o.nought xs) k ≡ at xs k
  shifted_by_none [] k = refl
  shifted_by_none (x ∷ xs) zero =
      shifted_zero o l o.nought x xs ∙ ap (o.sum x) (nought_product o l (at (list_shift o o.nought xs) 0)) ∙ sum_nought o l x
  shifted_by_none (x ∷ xs) (suc k) =
      shifted_suc o l o.nought x xs k
      ∙ cc (
        nought_product o l (at (list_shift o o.nought xs) (suc k)),
        shifted_by_none xs k,
        l.nought_sum (at xs k),
      )
