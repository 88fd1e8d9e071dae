-- Magnitudes of polynomials, what fits and what covers, by the coefficients.
use Rattle.std.specs.Prelude.{◌≡◌, ℕ, zero, suc, ◌≤◌, List, [], ◌∷◌, length, refl}
use Rattle.std.proofs.Common.{ap, sym, ◌∙◌, subst, arith}
use Rattle.std.proofs.lemmas.List.{length-map}
use Rattle.ring_laws.specs.Meaning.{items}
use Rattle.ring_laws.specs.Algebra.{Ops, RingLaws, MagnitudeLaws, Algebra, Passing, Closed, within}
use Rattle.poly_laws.specs.Lists.{coefficient_at, list_product}
use Rattle.poly_laws.specs.PolyAlgebra.{poly_algebra}
use Rattle.poly_laws.proofs.Coefficients.{meanings_of, coefficients, meanings-coefficients, coefficients_trimmed, poly_closed, coefficients-magnitude}
use Rattle.poly_laws.proofs.ListMagnitudes.{magnitudes_of, at_magnitudes}
use Rattle.poly_laws.proofs.PolyLaws.{trimmed_at, coefficient-sum, product_same}
use Rattle.poly_laws.proofs.Trimming.{beyond, length_within}

module _ (a : Algebra) (c : Closed a) (l : RingLaws (within a c)) (m : MagnitudeLaws (within a c)) where
  abbrev base : Ops (Passing a)
  base = within a c

  abbrev poly : Ops (Passing (poly_algebra a))
  poly = within (poly_algebra a) (poly_closed a c)

  abbrev coefficient : Passing (poly_algebra a) → ℕ → Passing a
  coefficient x k = coefficient_at base (coefficients a c x) k

  pub coefficient-magnitude : (x : Passing (poly_algebra a)) (k : ℕ) → coefficient (poly.magnitude x) k ≡ base.magnitude (coefficient x k)
  coefficient-magnitude x k = trimmed_at a c l (poly.magnitude x) (magnitudes_of base l m (coefficients a c x)) (coefficients-magnitude a c x) k
      ∙ at_magnitudes base l m (coefficients a c x) k

  pub coefficient-magnitudes : (x : Passing (poly_algebra a)) (k : ℕ)
      → coefficient (poly.magnitude x) k ≡ coefficient_at base (magnitudes_of base l m (coefficients a c x)) k
  coefficient-magnitudes x k = trimmed_at a c l (poly.magnitude x) (magnitudes_of base l m (coefficients a c x)) (coefficients-magnitude a c x) k

  -- the sum of two magnitudes
  pub coefficient-magnitude_sum : (x y : Passing (poly_algebra a)) (k : ℕ) → coefficient (poly.sum (poly.magnitude x) (poly.magnitude y)) k
      ≡ base.sum (base.magnitude (coefficient x k)) (base.magnitude (coefficient y k))
  coefficient-magnitude_sum x y k =
      cc (coefficient-sum a c l (poly.magnitude x) (poly.magnitude y) k, coefficient-magnitude x k, coefficient-magnitude y k)

  -- the product of two magnitudes
  pub coefficient-magnitude_product : (x y : Passing (poly_algebra a)) (k : ℕ) → coefficient (poly.product (poly.magnitude x) (poly.magnitude y)) k
      ≡ coefficient_at base (list_product base (magnitudes_of base l m (coefficients a c x)) (magnitudes_of base l m (coefficients a c y))) k
  coefficient-magnitude_product x y k =
      product_same a c l (poly.magnitude x) (poly.magnitude y) (magnitudes_of base l m (coefficients a c x))
      (magnitudes_of base l m (coefficients a c y)) (coefficient-magnitudes x) (coefficient-magnitudes y) k

  pub meanings-at : (xs : List (Passing a)) (k : ℕ) → coefficient_at a.ops (meanings_of a c xs) k ≡ (coefficient_at base xs k).0
  meanings-at [] k = refl
  meanings-at (x ∷ xs) zero = refl
  meanings-at (x ∷ xs) (suc k) = meanings-at xs k

  pub item_at : (x : Passing (poly_algebra a)) (k : ℕ) → coefficient_at a.ops (items x.0) k ≡ (coefficient x k).0
  item_at x k = ap (λ t. coefficient_at a.ops t k) (sym (meanings-coefficients a c x)) ∙ meanings-at (coefficients a c x) k

  item_count : (x : Passing (poly_algebra a)) → length (items x.0) ≡ length (coefficients a c x)
  item_count x = ap length (sym (meanings-coefficients a c x)) ∙ length-map (coefficients a c x) (λ (v : Passing a). v.0)

  -- what fits, by the coefficients
  pub record FitsAt (x : Passing (poly_algebra a)) : Type 0 where
    pub short : (k : ℕ) → 256 ≤ k → coefficient x k ≡ base.nought
    pub each : (k : ℕ) → base.Fits (coefficient x k)

  pub fits_at : (x : Passing (poly_algebra a)) → poly.Fits x → FitsAt x
  fits_at x h = record {
    short = λ k b. beyond base (coefficients a c x) k (omega (arith, item_count x, h.0));
    each = λ k. subst a.ops.Fits (item_at x k) (h.1 k);
  }

  pub at_fits : (x : Passing (poly_algebra a)) → FitsAt x → poly.Fits x
  at_fits x h =
      let n : length (coefficients a c x) ≤ 256 = length_within base l (coefficients a c x) 256 (coefficients_trimmed a c x) h.short in
      (omega (arith, item_count x), λ k. subst a.ops.Fits (sym (item_at x k)) (h.each k))

  abbrev pub CoversAt : Passing (poly_algebra a) → Passing (poly_algebra a) → Type 0
  CoversAt x y = (k : ℕ) → base.Covers (coefficient x k) (coefficient y k)

  pub covers_at : (x y : Passing (poly_algebra a)) → poly.Covers x y → CoversAt x y
  covers_at x y h k = subst (λ t. a.ops.Covers t (coefficient y k).0) (item_at x k)
      (subst (λ t. a.ops.Covers (coefficient_at a.ops (items x.0) k) t) (item_at y k) (h k))

  pub at_covers : (x y : Passing (poly_algebra a)) → CoversAt x y → poly.Covers x y
  at_covers x y h k = subst (λ t. a.ops.Covers t (coefficient_at a.ops (items y.0) k)) (sym (item_at x k))
      (subst (λ t. a.ops.Covers (coefficient x k).0 t) (sym (item_at y k)) (h k))
