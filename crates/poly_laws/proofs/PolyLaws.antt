-- Polynomials over a ring keep the laws of a ring.
use Rattle.std.specs.Prelude.{◌≡◌, ℕ, zero, suc, ℤ, pos, ◌+ℤ◌, ◌*ℤ◌, IsTrue, ◌↔◌, List, [], ◌∷◌, map, refl}
use Rattle.std.proofs.Common.{ap, sym, ◌∙◌}
use Rattle.ring_laws.specs.Meaning.{Meaning, items}
use Rattle.ring_laws.specs.Algebra.{Ops, RingLaws, Algebra, Passing, Closed, within}
use Rattle.poly_laws.specs.Lists.{coefficient_at, list_sum, list_product, trimmed}
use Rattle.poly_laws.specs.PolyAlgebra.{is_empty, poly_algebra}
use Rattle.poly_laws.proofs.Coefficients.{meanings_of, coefficients, meanings-coefficients, coefficients_trimmed, coefficients_same, poly_closed, coefficients-sum, coefficients-product, coefficients-neg, coefficients-nought, coefficients-unit, coefficients-whole}
use Rattle.poly_laws.proofs.ListLaws.{sum_nought, product_nought, at_sum, at_neg, times_zero, times_suc, times_same_right, times_comm, times_same_left, times_sum, times_assoc, times_unit}
use Rattle.poly_laws.proofs.Trimming.{at_trimmed, trimmed_same, trimmed_already}

module _ (a : Algebra) (c : Closed a) (l : RingLaws (within a c)) where
  abbrev base : Ops (Passing a)
  base = within a c

  abbrev poly : Ops (Passing (poly_algebra a))
  poly = within (poly_algebra a) (poly_closed a c)

  -- the coefficient of a polynomial at a power
  abbrev pub coefficient : Passing (poly_algebra a) → ℕ → Passing a
  coefficient x k = coefficient_at base (coefficients a c x) k

  pub equal_coefficients : (x y : Passing (poly_algebra a)) → ((k : ℕ) → coefficient x k ≡ coefficient y k) → x ≡ y
  equal_coefficients x y e = coefficients_same a c x y
      (sym (trimmed_already base (coefficients a c x) (coefficients_trimmed a c x)) ∙ trimmed_same base l (coefficients a c x) (coefficients a c y) e
      ∙ trimmed_already base (coefficients a c y) (coefficients_trimmed a c y))

  pub trimmed_at : (x : Passing (poly_algebra a)) (xs : List (Passing a)) → coefficients a c x ≡ trimmed base xs → (k : ℕ)
      → coefficient x k ≡ coefficient_at base xs k
  trimmed_at x xs e k = ap (λ t. coefficient_at base t k) e ∙ at_trimmed base l xs k

  pub coefficient-sum : (x y : Passing (poly_algebra a)) (k : ℕ) → coefficient (poly.sum x y) k ≡ base.sum (coefficient x k) (coefficient y k)
  coefficient-sum x y k = trimmed_at (poly.sum x y) (list_sum base (coefficients a c x) (coefficients a c y)) (coefficients-sum a c x y) k
      ∙ at_sum base l (coefficients a c x) (coefficients a c y) k

  pub coefficient-product : (x y : Passing (poly_algebra a)) (k : ℕ)
      → coefficient (poly.product x y) k ≡ coefficient_at base (list_product base (coefficients a c x) (coefficients a c y)) k
  coefficient-product x y k =
      trimmed_at (poly.product x y) (list_product base (coefficients a c x) (coefficients a c y)) (coefficients-product a c x y) k

  pub coefficient-neg : (x : Passing (poly_algebra a)) (k : ℕ) → coefficient (poly.neg x) k ≡ base.neg (coefficient x k)
  coefficient-neg x k = trimmed_at (poly.neg x) (map base.neg (coefficients a c x)) (coefficients-neg a c x) k ∙ at_neg base l (coefficients a c x) k

  pub coefficient-nought : (k : ℕ) → coefficient poly.nought k ≡ base.nought
  coefficient-nought k = ap (λ t. coefficient_at base t k) (coefficients-nought a c)

  pub coefficient-unit : (k : ℕ) → coefficient poly.unit k ≡ coefficient_at base (base.unit ∷ []) k
  coefficient-unit k = trimmed_at poly.unit (base.unit ∷ []) (coefficients-unit a c) k

  pub coefficient-whole : (w : ℤ) (k : ℕ) → coefficient (poly.whole w) k ≡ coefficient_at base (base.whole w ∷ []) k
  coefficient-whole w k = trimmed_at (poly.whole w) (base.whole w ∷ []) (coefficients-whole a c w) k

  empty_coefficients : (xs : List (Passing a)) (ms : List Meaning) → meanings_of a c xs ≡ ms → IsTrue (is_empty ms) ↔ (xs ≡ [])
  empty_coefficients [] [] e = ((λ h. refl), (λ h. refl))
  empty_coefficients [] (m ∷ ms) e = ((λ h. cc), (λ h. cc))
  empty_coefficients (x ∷ xs) [] e = ((λ h. cc), (λ h. cc))
  empty_coefficients (x ∷ xs) (m ∷ ms) e = ((λ h. cc), (λ h. cc))

  whole_part : (w : ℤ) (v : Passing a) (k : ℕ) → base.whole w ≡ v → coefficient_at base (base.whole w ∷ []) k ≡ coefficient_at base (v ∷ []) k
  whole_part w v k e = ap (λ t. coefficient_at base (t ∷ []) k) e

  nought_part : (k : ℕ) → coefficient_at base (base.nought ∷ []) k ≡ base.nought
  nought_part zero = refl
  nought_part (suc k) = refl

  whole_sums : (v w : ℤ) (k : ℕ)
      → coefficient_at base (base.whole (v +ℤ w) ∷ []) k
      ≡ base.sum (coefficient_at base (base.whole v ∷ []) k) (coefficient_at base (base.whole w ∷ []) k)
  whole_sums v w zero = l.whole_sum v w
  whole_sums v w (suc k) = sym (l.nought_sum base.nought)

  whole_products : (v w : ℤ) (k : ℕ)
      → coefficient_at base (base.whole (v *ℤ w) ∷ []) k ≡ coefficient_at base (list_product base (base.whole v ∷ []) (base.whole w ∷ [])) k
  whole_products v w zero = l.whole_product v w ∙ sym (times_zero base l (base.whole v) [] (base.whole w ∷ []))
  whole_products v w (suc k) =
      sym (times_suc base l (base.whole v) [] (base.whole w ∷ []) k ∙ sum_nought base l (base.product (base.whole v) base.nought)
      ∙ product_nought base l (base.whole v))

  -- the product of polynomials given by their coefficients
  pub product_same : (x y : Passing (poly_algebra a)) (xs ys : List (Passing a)) → ((k : ℕ) → coefficient x k ≡ coefficient_at base xs k)
      → ((k : ℕ) → coefficient y k ≡ coefficient_at base ys k) → (k : ℕ)
      → coefficient (poly.product x y) k ≡ coefficient_at base (list_product base xs ys) k
  product_same x y xs ys e f k = coefficient-product x y k ∙ times_same_left base l (coefficients a c x) xs (coefficients a c y) e k
      ∙ times_same_right base l xs (coefficients a c y) ys f k

  pub poly_ring : RingLaws poly
  poly_ring = record {
    nought_sum = λ x. equal_coefficients (poly.sum poly.nought x) x (λ k. cc (
      coefficient-sum poly.nought x k,
      coefficient-nought k,
      l.nought_sum (coefficient x k),
    ));
    sum_comm = λ x y. equal_coefficients (poly.sum x y) (poly.sum y x)
        (λ k. cc (coefficient-sum x y k, coefficient-sum y x k, l.sum_comm (coefficient x k) (coefficient y k)));
    sum_assoc = λ x y z. equal_coefficients (poly.sum (poly.sum x y) z) (poly.sum x (poly.sum y z))
        (λ k. cc (
          coefficient-sum (poly.sum x y) z k,
          coefficient-sum x y k,
          coefficient-sum x (poly.sum y z) k,
          coefficient-sum y z k,
          l.sum_assoc (coefficient x k) (coefficient y k) (coefficient z k),
        ));
    sum_neg = λ x. equal_coefficients (poly.sum x (poly.neg x)) poly.nought (λ k. cc (
      coefficient-sum x (poly.neg x) k,
      coefficient-neg x k,
      coefficient-nought k,
      l.sum_neg (coefficient x k),
    ));
    unit_product = λ x. equal_coefficients (poly.product poly.unit x) x
        (λ k. product_same poly.unit x (base.unit ∷ []) (coefficients a c x) coefficient-unit (λ j. refl) k
        ∙ times_unit base l (coefficients a c x) k);
    product_comm = λ x y. equal_coefficients (poly.product x y) (poly.product y x)
        (λ k. coefficient-product x y k ∙ times_comm base l (coefficients a c x) (coefficients a c y) k ∙ sym (coefficient-product y x k));
    product_assoc = λ x y z. equal_coefficients (poly.product (poly.product x y) z) (poly.product x (poly.product y z))
        (λ k. product_same (poly.product x y) z (list_product base (coefficients a c x) (coefficients a c y)) (coefficients a c z)
        (coefficient-product x y) (λ j. refl) k
        ∙ times_assoc base l (coefficients a c x) (coefficients a c y) (coefficients a c z) k
        ∙ sym (product_same x (poly.product y z) (coefficients a c x) (list_product base (coefficients a c y) (coefficients a c z)) (λ j. refl)
        (coefficient-product y z) k));
    distributes = λ x y z. equal_coefficients (poly.product x (poly.sum y z)) (poly.sum (poly.product x y) (poly.product x z))
        (λ k. product_same x (poly.sum y z) (coefficients a c x) (list_sum base (coefficients a c y) (coefficients a c z)) (λ j. refl)
        (λ j. coefficient-sum y z j ∙ sym (at_sum base l (coefficients a c y) (coefficients a c z) j)) k
        ∙ cc (
          times_sum base l (coefficients a c x) (coefficients a c y) (coefficients a c z) k,
          coefficient-sum (poly.product x y) (poly.product x z) k,
          coefficient-product x y k,
          coefficient-product x z k,
        ));
    whole_zero = equal_coefficients (poly.whole (pos 0)) poly.nought (λ k. coefficient-whole (pos 0) k ∙ whole_part (pos 0) base.nought k l.whole_zero
        ∙ nought_part k ∙ sym (coefficient-nought k));
    whole_one = equal_coefficients (poly.whole (pos 1)) poly.unit (λ k. coefficient-whole (pos 1) k ∙ whole_part (pos 1) base.unit k l.whole_one
        ∙ sym (coefficient-unit k));
    whole_sum = λ v w. equal_coefficients (poly.whole (v +ℤ w)) (poly.sum (poly.whole v) (poly.whole w))
        (λ k. cc (
          coefficient-whole (v +ℤ w) k,
          whole_sums v w k,
          coefficient-whole v k,
          coefficient-whole w k,
          coefficient-sum (poly.whole v) (poly.whole w) k,
        ));
    whole_product = λ v w. equal_coefficients (poly.whole (v *ℤ w)) (poly.product (poly.whole v) (poly.whole w))
        (λ k. coefficient-whole (v *ℤ w) k ∙ whole_products v w k
        ∙ sym (product_same (poly.whole v) (poly.whole w) (base.whole v ∷ []) (base.whole w ∷ []) (coefficient-whole v) (coefficient-whole w) k));
    is_nought = λ x. (
      (λ h. coefficients_same a c x poly.nought ((empty_coefficients (coefficients a c x) (items x.0) (meanings-coefficients a c x)).0 h
          ∙ sym (coefficients-nought a c))),
      (λ e. (empty_coefficients (coefficients a c x) (items x.0) (meanings-coefficients a c x)).1 (ap (coefficients a c) e
          ∙ coefficients-nought a c)),
    );
  }
