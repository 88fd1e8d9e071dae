-- The coefficients of q(k) Y(k+1) - b(k) Y(k), and the two greatest of them.
use Rattle.std.specs.Prelude.{◌≡◌, ℕ, suc, ◌+◌, pos, List, [], ◌∷◌, refl}
use Rattle.std.proofs.Common.{sym, ◌∙◌, ⊎_elim}
use Rattle.ring_laws.specs.Algebra.{Ops, RingLaws}
use Rattle.poly_laws.specs.Lists.{coefficient_at, list_product}
use Rattle.poly_laws.specs.Shift.{list_shift}
use Rattle.poly_laws.proofs.OneQuotient.{NoDivisors, equal_by}
use Rattle.poly_laws.proofs.Rings.{solvable}
use Rattle.ring_solver.proofs.Read.{reading, ring}
use Rattle.poly_laws.proofs.ShiftedTops.{EndsBy, shifted_ends, shifted_top, next_second}
use Rattle.poly_laws.proofs.ProductTops.{product_top, product_second}

module _ {A : Type 0} (o : Ops A) (l : RingLaws o) where
  abbrev at : List A → ℕ → A
  at xs k = coefficient_at o xs k

  abbrev before : List A → ℕ → A
  before xs k = coefficient_at o (o.nought ∷ xs) k

  abbrev pub difference_at : List A → List A → List A → ℕ → A
  difference_at q b y n = o.sum (coefficient_at o (list_product o q (list_shift o o.unit y)) n) (o.neg (coefficient_at o (list_product o b y) n))

  by_top : (u v y : A) → o.sum (o.product u y) (o.neg (o.product v y)) ≡ o.product (o.sum u (o.neg v)) y
  by_top u v y = ring (solvable o l) (u ∷ v ∷ y ∷ []) (search reading depth 40 fits 20000) refl

  pub difference_top : (q b y : List A) (m e n : ℕ) → EndsBy o l q m → EndsBy o l b m → EndsBy o l y e → n ≡ m + e
      → difference_at q b y n ≡ o.product (o.sum (at q m) (o.neg (at b m))) (at y e)
  difference_top q b y m e n f g h p =
      cc (
        product_top o l q (list_shift o o.unit y) m e n f (shifted_ends o l o.unit y e h) p,
        shifted_top o l o.unit y e h,
        product_top o l b y m e n g h p,
        by_top (at q m) (at b m) (at y e),
      )

  by_second : (u c w d x y : A)
      → o.sum (o.sum (o.product u (o.sum c (o.product w y))) (o.product d y)) (o.neg (o.sum (o.product u c) (o.product x y)))
      ≡ o.product (o.sum (o.product w u) (o.neg (o.sum x (o.neg d)))) y
  by_second u c w d x y = ring (solvable o l) (u ∷ c ∷ w ∷ d ∷ x ∷ y ∷ []) (search reading depth 40 fits 20000) refl

  pub difference_second : (q b y : List A) (m e n : ℕ) → EndsBy o l q m → EndsBy o l b m → EndsBy o l y e → suc n ≡ m + e → at q m ≡ at b m
      → difference_at q b y n
      ≡ o.product (o.sum (o.product (o.whole (pos e)) (at q m)) (o.neg (o.sum (before b m) (o.neg (before q m))))) (at y e)
  difference_second q b y m e n f g h p same =
      cc (
        product_second o l q (list_shift o o.unit y) m e n f (shifted_ends o l o.unit y e h) p,
        shifted_top o l o.unit y e h,
        next_second o l y e h,
        product_second o l b y m e n g h p,
        same,
        by_second (at q m) (before y e) (o.whole (pos e)) (before q m) (before b m) (at y e),
      )

  module _ (d : NoDivisors o) where
    -- where the leading coefficients differ, the greatest power has a coefficient that isn't zero
    pub stays_at_top : (q b y : List A) (m e n : ℕ) → EndsBy o l q m → EndsBy o l b m → EndsBy o l y e → n ≡ m + e
        → ¬ (at q m ≡ at b m) → ¬ (at y e ≡ o.nought) → ¬ (difference_at q b y n ≡ o.nought)
    stays_at_top q b y m e n f g h p differ some zero =
        ⊎_elim (λ z. differ (equal_by o l (at q m) (at b m) z)) some
        (d (o.sum (at q m) (o.neg (at b m))) (at y e) (sym (difference_top q b y m e n f g h p) ∙ zero))

    -- where they agree, the power below has one, unless e times the leading coefficient is B - A
    pub stays_below_top : (q b y : List A) (m e n : ℕ) → EndsBy o l q m → EndsBy o l b m → EndsBy o l y e → suc n ≡ m + e
        → at q m ≡ at b m → ¬ (at y e ≡ o.nought) → difference_at q b y n ≡ o.nought
        → o.product (o.whole (pos e)) (at q m) ≡ o.sum (before b m) (o.neg (before q m))
    stays_below_top q b y m e n f g h p same some zero =
        ⊎_elim (λ z. equal_by o l (o.product (o.whole (pos e)) (at q m)) (o.sum (before b m) (o.neg (before q m))) z) (λ z. absurd (some z))
        (d (o.sum (o.product (o.whole (pos e)) (at q m)) (o.neg (o.sum (before b m) (o.neg (before q m))))) (at y e)
        (sym (difference_second q b y m e n f g h p same) ∙ zero))
