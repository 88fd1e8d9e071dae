-- Polynomials over a ring keep the laws on magnitudes.
use Rattle.std.specs.Prelude.{◌≡◌, ℕ, zero, suc, ◌+◌, ℤ, pos, unsigned_abs, ◌⊎◌, [], ◌∷◌, refl}
use Rattle.std.proofs.Common.{ap, sym, ◌∙◌, inl, inr, ⊎_elim, arith}
use Rattle.ring_laws.specs.Algebra.{Ops, RingLaws, MagnitudeLaws, Algebra, Passing, Closed, within, Laws}
use Rattle.poly_laws.specs.Lists.{coefficient_at}
use Rattle.poly_laws.specs.PolyAlgebra.{poly_algebra}
use Rattle.poly_laws.proofs.Coefficients.{coefficients, poly_closed}
use Rattle.poly_laws.proofs.Fitting.{coefficient-magnitude, coefficient-magnitudes, coefficient-magnitude_sum, coefficient-magnitude_product, FitsAt, fits_at, at_fits, covers_at, at_covers}
use Rattle.poly_laws.proofs.ListMagnitudes.{magnitudes_of, covers_by, fits_by, times_magnitude, times_covers, product_covered, part_of_product, AllNought, SomeNot, find, covered_by_nought, fits_covered_magnitude}
use Rattle.poly_laws.proofs.PolyLaws.{equal_coefficients, coefficient-sum, coefficient-product, coefficient-neg, coefficient-nought, coefficient-whole, product_same, poly_ring}

module _ (a : Algebra) (c : Closed a) (l : RingLaws (within a c)) (m : MagnitudeLaws (within a c)) where
  abbrev base : Ops (Passing a)
  base = within a c

  abbrev poly : Ops (Passing (poly_algebra a))
  poly = within (poly_algebra a) (poly_closed a c)

  abbrev coefficient : Passing (poly_algebra a) → ℕ → Passing a
  coefficient x k = coefficient_at base (coefficients a c x) k

  whole_magnitude : (w : ℤ) (k : ℕ) → base.magnitude (coefficient_at base (base.whole w ∷ []) k)
      ≡ coefficient_at base (base.whole (pos (unsigned_abs w)) ∷ []) k
  whole_magnitude w zero = m.of_whole w
  whole_magnitude w (suc k) = m.of_nought

  magnitude_again : (x : Passing (poly_algebra a)) (k : ℕ) → base.magnitude (coefficient (poly.magnitude x) k) ≡ coefficient (poly.magnitude x) k
  magnitude_again x k = cc (coefficient-magnitude a c l m x k, m.of_magnitude (coefficient x k))

  -- in a product of two magnitudes a coefficient covers the product of one of each
  pub part_covered_at : (x y : Passing (poly_algebra a)) (i j : ℕ)
      → base.Covers (coefficient (poly.product (poly.magnitude x) (poly.magnitude y)) (i + j))
      (base.product (base.magnitude (coefficient x i)) (base.magnitude (coefficient y j)))
  part_covered_at x y i j =
      covers_by base l m {y =
      base.product (base.magnitude (coefficient x i)) (base.magnitude (coefficient y j))} (coefficient-magnitude_product a c l m x y (i + j)) refl
      (part_of_product base l m (coefficients a c x) (coefficients a c y) i j (i + j) refl)

  not_both : (x y : Passing (poly_algebra a)) (i j : ℕ) → coefficient (poly.product (poly.magnitude x) (poly.magnitude y)) (i + j) ≡ base.nought
      → ¬ (coefficient y j ≡ base.nought) → coefficient x i ≡ base.nought
  not_both x y i j e ny =
      let C : Type 0 = coefficient x i ≡ base.nought in
      ⊎_elim {C = C} (λ h. m.only_nought (coefficient x i) h) (λ h. absurd (ny (m.only_nought (coefficient y j) h)))
      (m.factors (coefficient x i) (coefficient y j)
      (covered_by_nought base l m (coefficient (poly.product (poly.magnitude x) (poly.magnitude y)) (i + j))
      (base.product (base.magnitude (coefficient x i)) (base.magnitude (coefficient y j)))
      e (part_covered_at x y i j) (m.of_product (coefficient x i) (coefficient y j))))

  pub nought_by : (x : Passing (poly_algebra a)) → AllNought base l m (coefficients a c x) → x ≡ poly.nought
  nought_by x h = equal_coefficients a c l x poly.nought (λ k. h k ∙ sym (coefficient-nought a c l k))

  magnitude_nought : (x : Passing (poly_algebra a)) → AllNought base l m (coefficients a c x) → poly.magnitude x ≡ poly.nought
  magnitude_nought x h = nought_by (poly.magnitude x) (λ k. coefficient-magnitude a c l m x k ∙ ap base.magnitude (h k) ∙ m.of_nought)

  factors_at : (x y : Passing (poly_algebra a)) → poly.product (poly.magnitude x) (poly.magnitude y) ≡ poly.nought
      → (AllNought base l m (coefficients a c y)) ⊎ (SomeNot base l m (coefficients a c y))
      → (poly.magnitude x ≡ poly.nought) ⊎ (poly.magnitude y ≡ poly.nought)
  factors_at x y e (inl h) = inr (magnitude_nought y h)
  factors_at x y e (inr (j, ny)) =
      inl (magnitude_nought x (λ i. not_both x y i j (ap (λ t. coefficient t (i + j)) e ∙ coefficient-nought a c l (i + j)) ny))

  factor_fits : (x y : Passing (poly_algebra a)) → FitsAt a c l m (poly.product (poly.magnitude x) (poly.magnitude y)) → ¬ (y ≡ poly.nought)
      → (AllNought base l m (coefficients a c y)) ⊎ (SomeNot base l m (coefficients a c y)) → FitsAt a c l m (poly.magnitude x)
  factor_fits x y h ny (inl n) = absurd (ny (nought_by y n))
  factor_fits x y h ny (inr (j, nj)) = record {
    short = λ i b. coefficient-magnitude a c l m x i ∙ ap base.magnitude (not_both x y i j (h.short (i + j) (omega arith)) nj) ∙ m.of_nought;
    each = λ i. fits_by base l m (coefficient-magnitude a c l m x i)
        (m.fits_factor (coefficient x i) (coefficient y j)
        (fits_covered_magnitude base l m (coefficient (poly.product (poly.magnitude x) (poly.magnitude y)) (i + j))
        (base.product (base.magnitude (coefficient x i)) (base.magnitude (coefficient y j)))
        (h.each (i + j)) (part_covered_at x y i j) (m.of_product (coefficient x i) (coefficient y j)))
        nj);
  }

  pub poly_magnitudes : MagnitudeLaws poly
  poly_magnitudes = record {
    of_magnitude = λ x. equal_coefficients a c l (poly.magnitude (poly.magnitude x)) (poly.magnitude x)
        (λ k. coefficient-magnitude a c l m (poly.magnitude x) k ∙ magnitude_again x k);
    of_nought = equal_coefficients a c l (poly.magnitude poly.nought) poly.nought (λ k. coefficient-magnitude a c l m poly.nought k
        ∙ ap base.magnitude (coefficient-nought a c l k) ∙ m.of_nought ∙ sym (coefficient-nought a c l k));
    of_neg = λ x. equal_coefficients a c l (poly.magnitude (poly.neg x)) (poly.magnitude x)
        (λ k. cc (
          coefficient-magnitude a c l m (poly.neg x) k,
          coefficient-neg a c l x k,
          m.of_neg (coefficient x k),
          coefficient-magnitude a c l m x k,
        ));
    of_whole = λ w. equal_coefficients a c l (poly.magnitude (poly.whole w)) (poly.whole (pos (unsigned_abs w)))
        (λ k. coefficient-magnitude a c l m (poly.whole w) k ∙ ap base.magnitude (coefficient-whole a c l w k) ∙ whole_magnitude w k
        ∙ sym (coefficient-whole a c l (pos (unsigned_abs w)) k));
    of_sum = λ x y. equal_coefficients a c l (poly.magnitude (poly.sum (poly.magnitude x) (poly.magnitude y)))
        (poly.sum (poly.magnitude x) (poly.magnitude y))
        (λ k. cc (
          coefficient-magnitude a c l m (poly.sum (poly.magnitude x) (poly.magnitude y)) k,
          coefficient-sum a c l (poly.magnitude x) (poly.magnitude y) k,
          coefficient-magnitude a c l m x k,
          coefficient-magnitude a c l m y k,
          m.of_sum (coefficient x k) (coefficient y k),
        ));
    of_product = λ x y. equal_coefficients a c l (poly.magnitude (poly.product (poly.magnitude x) (poly.magnitude y)))
        (poly.product (poly.magnitude x) (poly.magnitude y))
        (λ k. cc (
          coefficient-magnitude a c l m (poly.product (poly.magnitude x) (poly.magnitude y)) k,
          coefficient-magnitude_product a c l m x y k,
          times_magnitude base l m (coefficients a c x) (coefficients a c y) k,
        ));
    only_nought = λ x e. nought_by x (λ k. m.only_nought (coefficient x k) (sym (coefficient-magnitude a c l m x k) ∙ ap (λ t. coefficient t k) e
        ∙ coefficient-nought a c l k));
    fits = λ x. (
      (λ h. at_fits a c l m (poly.magnitude x) (record {
        short = λ k b. coefficient-magnitude a c l m x k ∙ ap base.magnitude ((fits_at a c l m x h).short k b) ∙ m.of_nought;
        each = λ k. fits_by base l m (coefficient-magnitude a c l m x k) ((m.fits (coefficient x k)).0 ((fits_at a c l m x h).each k));
      })),
      (λ h. at_fits a c l m x (record {
        short = λ k b. m.only_nought (coefficient x k) (sym (coefficient-magnitude a c l m x k) ∙ (fits_at a c l m (poly.magnitude x) h).short k b);
        each = λ k. (m.fits (coefficient x k)).1
            (fits_by base l m (sym (coefficient-magnitude a c l m x k)) ((fits_at a c l m (poly.magnitude x) h).each k));
      })),
    );
    fits_nought = at_fits a c l m poly.nought (record {
      short = λ k b. coefficient-nought a c l k;
      each =
          λ k. fits_by base l m (coefficient-nought a c l k) m.fits_nought;
    });
    covers_same = λ x. at_covers a c l m x x (λ k. m.covers_same (coefficient x k));
    covers_trans = λ x y z h i.
        at_covers a c l m x z (λ k. m.covers_trans (coefficient x k) (coefficient y k) (coefficient z k) (covers_at a c l m x y h k)
        (covers_at a c l m y z i k));
    covers_sum = λ x y z h. at_covers a c l m (poly.sum x z) (poly.sum y z)
        (λ k. covers_by base l m (coefficient-sum a c l x z k) (coefficient-sum a c l y z k)
        (m.covers_sum (coefficient x k) (coefficient y k) (coefficient z k) (covers_at a c l m x y h k)));
    covers_product = λ x y z h. at_covers a c l m (poly.product x (poly.magnitude z)) (poly.product y (poly.magnitude z))
        (λ k. covers_by base l m (product_same a c l x (poly.magnitude z) (coefficients a c x) (magnitudes_of base l m (coefficients a c z))
        (λ j. refl) (coefficient-magnitudes a c l m z) k)
        (product_same a c l y (poly.magnitude z) (coefficients a c y) (magnitudes_of base l m (coefficients a c z)) (λ j. refl)
        (coefficient-magnitudes a c l m z) k)
        (times_covers base l m (coefficients a c z) (coefficients a c x) (coefficients a c y) (covers_at a c l m x y h) k));
    sum_covers = λ x y. at_covers a c l m (poly.sum (poly.magnitude x) (poly.magnitude y)) (poly.magnitude (poly.sum x y))
        (λ k. covers_by base l m (coefficient-magnitude_sum a c l m x y k) (coefficient-magnitude a c l m (poly.sum x y) k
        ∙ ap base.magnitude (coefficient-sum a c l x y k)) (m.sum_covers (coefficient x k) (coefficient y k)));
    product_covers = λ x y. at_covers a c l m (poly.product (poly.magnitude x) (poly.magnitude y)) (poly.magnitude (poly.product x y))
        (λ k. covers_by base l m (coefficient-magnitude_product a c l m x y k) (coefficient-magnitude a c l m (poly.product x y) k
        ∙ ap base.magnitude (coefficient-product a c l x y k)) (product_covered base l m (coefficients a c x) (coefficients a c y) k));
    part_covered = λ x y. at_covers a c l m (poly.sum x (poly.magnitude y)) x
        (λ k. covers_by base l m {y = coefficient x k} (coefficient-sum a c l x (poly.magnitude y) k
        ∙ ap (base.sum (coefficient x k)) (coefficient-magnitude a c l m y k)) refl (m.part_covered (coefficient x k) (coefficient y k)));
    fits_covered = λ x y h i. at_fits a c l m (poly.magnitude y) (record {
      short = λ k b. covered_by_nought base l m (coefficient x k) (coefficient (poly.magnitude y) k) ((fits_at a c l m x h).short k b)
          (covers_at a c l m x (poly.magnitude y) i k) (magnitude_again y k);
      each = λ k. fits_covered_magnitude base l m (coefficient x k) (coefficient (poly.magnitude y) k) ((fits_at a c l m x h).each k)
          (covers_at a c l m x (poly.magnitude y) i k) (magnitude_again y k);
    });
    nought_covers = λ x h. nought_by (poly.magnitude x)
        (λ k. covered_by_nought base l m (coefficient poly.nought k) (coefficient (poly.magnitude x) k) (coefficient-nought a c l k)
        (covers_at a c l m poly.nought (poly.magnitude x) h k) (magnitude_again x k));
    factors = λ x y e. factors_at x y e (find base l m (coefficients a c y));
    fits_factor = λ x y h ny.
        at_fits a c l m (poly.magnitude x) (factor_fits x y (fits_at a c l m (poly.product (poly.magnitude x) (poly.magnitude y)) h) ny
        (find base l m (coefficients a c y)));
  }

pub poly_laws : (a : Algebra) → Laws a → Laws (poly_algebra a)
poly_laws a l = record {
  closed = poly_closed a l.closed;
  ring = poly_ring a l.closed l.ring;
  magnitudes =
      poly_magnitudes a l.closed l.ring l.magnitudes;
}
