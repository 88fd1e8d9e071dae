-- Where the shift of a list on magnitudes fits, each step of the shift is in bounds.
use Rattle.std.specs.Prelude.{◌≡◌, ℕ, zero, suc, List, [], ◌∷◌, drop, map, refl}
use Rattle.std.proofs.Common.{ap, sym, ◌∙◌, subst}
use Rattle.ring_laws.specs.Algebra.{Ops, RingLaws, MagnitudeLaws}
use Rattle.poly_laws.specs.Lists.{coefficient_at, list_sum}
use Rattle.poly_laws.specs.Shift.{raised_by, list_shift}
use Rattle.poly_laws.proofs.ListLaws.{at_sum, at_scale}
use Rattle.poly_laws.proofs.ListMagnitudes.{magnitudes_of, covers_by, fits_by, covers_sums, sum_magnitude, product_magnitude, left_part, right_part, sum_covered, fits_covered_magnitude}
use Rattle.poly_laws.proofs.ValuesInBounds.{product_covered_by}

module _ {A : Type 0} (o : Ops A) (l : RingLaws o) (m : MagnitudeLaws o) (t : A) where
  abbrev at : List A → ℕ → A
  at xs k = coefficient_at o xs k

  -- the coefficient of t * f + (the variable) * f, and with x more
  pub row_at : (s : A) (ys : List A) (k : ℕ) → coefficient_at o (list_sum o (map (o.product s) ys) (o.nought ∷ ys)) k
      ≡ o.sum (o.product s (coefficient_at o ys k)) (coefficient_at o (o.nought ∷ ys) k)
  row_at s ys k = at_sum o l (map (o.product s) ys) (o.nought ∷ ys) k ∙ ap (λ z. o.sum z (at (o.nought ∷ ys) k)) (at_scale o l s ys k)

  raised_at : (s x : A) (ys : List A) (k : ℕ)
      → at (raised_by o s x ys) k ≡ o.sum (at (x ∷ []) k) (o.sum (o.product s (at ys k)) (at (o.nought ∷ ys) k))
  raised_at s x ys k = at_sum o l (x ∷ []) (list_sum o (map (o.product s) ys) (o.nought ∷ ys)) k ∙ ap (o.sum (at (x ∷ []) k)) (row_at s ys k)

  -- the counterpart on magnitudes
  abbrev total : List A → List A
  total xs = list_shift o (o.magnitude t) (magnitudes_of o l m xs)

  abbrev shift : List A → List A
  shift xs = list_shift o t xs

  one_magnitude : (x : A) (k : ℕ) → o.magnitude (at (o.magnitude x ∷ []) k) ≡ at (o.magnitude x ∷ []) k
  one_magnitude x zero = m.of_magnitude x
  one_magnitude x (suc k) = m.of_nought

  raised_magnitude : (ys : List A) → ((k : ℕ) → o.magnitude (at ys k) ≡ at ys k) → (k : ℕ) → o.magnitude (at (o.nought ∷ ys) k) ≡ at (o.nought ∷ ys) k
  raised_magnitude ys h zero = m.of_nought
  raised_magnitude ys h (suc k) = h k

  row_magnitude : (ys : List A) → ((k : ℕ) → o.magnitude (at ys k) ≡ at ys k) → (k : ℕ)
      → o.magnitude (o.sum (o.product (o.magnitude t) (at ys k)) (at (o.nought ∷ ys) k))
      ≡ o.sum (o.product (o.magnitude t) (at ys k)) (at (o.nought ∷ ys) k)
  row_magnitude ys h k =
      sum_magnitude o l m (o.product (o.magnitude t) (at ys k)) (at (o.nought ∷ ys) k)
      (product_magnitude o l m (o.magnitude t) (at ys k) (m.of_magnitude t) (h k)) (raised_magnitude ys h k)

  pub total_magnitude : (xs : List A) (k : ℕ) → o.magnitude (at (total xs) k) ≡ at (total xs) k
  total_magnitude [] k = m.of_nought
  total_magnitude (c ∷ cs) k =
      ap o.magnitude (raised_at (o.magnitude t) (o.magnitude c) (total cs) k)
      ∙ sum_magnitude o l m (at (o.magnitude c ∷ []) k) (o.sum (o.product (o.magnitude t) (at (total cs) k)) (at (o.nought ∷ total cs) k))
      (one_magnitude c k) (row_magnitude (total cs) (total_magnitude cs) k)
      ∙ sym (raised_at (o.magnitude t) (o.magnitude c) (total cs) k)

  one_covered : (x : A) (k : ℕ) → o.Covers (at (o.magnitude x ∷ []) k) (o.magnitude (at (x ∷ []) k))
  one_covered x zero = m.covers_same (o.magnitude x)
  one_covered x (suc k) = covers_by o l m refl m.of_nought (m.covers_same o.nought)

  raised_covered : (zs ys : List A) → ((k : ℕ) → o.Covers (at zs k) (o.magnitude (at ys k))) → (k : ℕ)
      → o.Covers (at (o.nought ∷ zs) k) (o.magnitude (at (o.nought ∷ ys) k))
  raised_covered zs ys h zero = covers_by o l m refl m.of_nought (m.covers_same o.nought)
  raised_covered zs ys h (suc k) = h k

  row_covered : (zs ys : List A) → ((k : ℕ) → o.Covers (at zs k) (o.magnitude (at ys k))) → (k : ℕ)
      → o.Covers (o.sum (o.product (o.magnitude t) (at zs k)) (at (o.nought ∷ zs) k))
      (o.magnitude (o.sum (o.product t (at ys k)) (at (o.nought ∷ ys) k)))
  row_covered zs ys h k =
      sum_covered o l m (o.product t (at ys k)) (at (o.nought ∷ ys) k) (o.product (o.magnitude t) (at zs k)) (at (o.nought ∷ zs) k)
      (product_covered_by o l m t (at ys k) (at zs k) (h k)) (raised_covered zs ys h k)

  pub shift_covered : (xs : List A) (k : ℕ) → o.Covers (at (total xs) k) (o.magnitude (at (shift xs) k))
  shift_covered [] k = covers_by o l m refl m.of_nought (m.covers_same o.nought)
  shift_covered (c ∷ cs) k =
      covers_by o l m (raised_at (o.magnitude t) (o.magnitude c) (total cs) k) (ap o.magnitude (raised_at t c (shift cs) k))
      (sum_covered o l m (at (c ∷ []) k) (o.sum (o.product t (at (shift cs) k)) (at (o.nought ∷ shift cs) k)) (at (o.magnitude c ∷ []) k)
      (o.sum (o.product (o.magnitude t) (at (total cs) k)) (at (o.nought ∷ total cs) k)) (one_covered c k)
      (row_covered (total cs) (shift cs) (shift_covered cs) k))

  abbrev pub AllFit : List A → Type 0
  AllFit xs = (k : ℕ) → o.Fits (coefficient_at o xs k)

  -- what stands behind the first coefficient fits
  row_fits : (c : A) (cs : List A) → AllFit (total (c ∷ cs)) → (k : ℕ)
      → o.Fits (o.sum (o.product (o.magnitude t) (at (total cs) k)) (at (o.nought ∷ total cs) k))
  row_fits c cs h k =
      fits_covered_magnitude o l m (at (total (c ∷ cs)) k) (o.sum (o.product (o.magnitude t) (at (total cs) k)) (at (o.nought ∷ total cs) k)) (h k)
      (covers_by o l m {y =
      o.sum (o.product (o.magnitude t) (at (total cs) k)) (at (o.nought ∷ total cs) k)} (raised_at (o.magnitude t) (o.magnitude c) (total cs) k) refl
      (right_part o l m (at (o.magnitude c ∷ []) k) (o.sum (o.product (o.magnitude t) (at (total cs) k)) (at (o.nought ∷ total cs) k))
      (one_magnitude c k)))
      (row_magnitude (total cs) (total_magnitude cs) k)

  tail_fits : (c : A) (cs : List A) → AllFit (total (c ∷ cs)) → AllFit (total cs)
  tail_fits c cs h k =
      fits_covered_magnitude o l m (o.sum (o.product (o.magnitude t) (at (total cs) (suc k))) (at (total cs) k)) (at (total cs) k)
      (row_fits c cs h (suc k))
      (right_part o l m (o.product (o.magnitude t) (at (total cs) (suc k))) (at (total cs) k)
      (product_magnitude o l m (o.magnitude t) (at (total cs) (suc k)) (m.of_magnitude t) (total_magnitude cs (suc k))))
      (total_magnitude cs k)

  pub drop_fits : (i : ℕ) (xs : List A) → AllFit (total xs) → AllFit (total (drop i xs))
  drop_fits zero xs h = h
  drop_fits (suc i) [] h = h
  drop_fits (suc i) (c ∷ cs) h = drop_fits i cs (tail_fits c cs h)

  -- the products, the sums and the last sum of a step of the shift are in bounds
  pub record Step (c : A) (ys : List A) : Type 0 where
    pub products : (k : ℕ) → o.Fits (o.product (o.magnitude t) (o.magnitude (coefficient_at o ys k)))
    pub sums : (k : ℕ) → o.Fits (o.sum (o.magnitude (o.product t (coefficient_at o ys k))) (o.magnitude (coefficient_at o (o.nought ∷ ys) k)))
    pub constant : (k : ℕ) → o.Fits
        (o.sum (o.magnitude (coefficient_at o (c ∷ []) k)) (o.magnitude (coefficient_at o (list_sum o (map (o.product t) ys) (o.nought ∷ ys)) k)))

  first_step : (c : A) (cs : List A) → AllFit (total (c ∷ cs)) → Step c (shift cs)
  first_step c cs h = record {
    products = λ k.
        fits_covered_magnitude o l m (o.sum (o.product (o.magnitude t) (at (total cs) k)) (at (o.nought ∷ total cs) k))
        (o.product (o.magnitude t) (o.magnitude (at (shift cs) k))) (row_fits c cs h k)
        (m.covers_trans (o.sum (o.product (o.magnitude t) (at (total cs) k)) (at (o.nought ∷ total cs) k))
        (o.product (o.magnitude t) (at (total cs) k)) (o.product (o.magnitude t) (o.magnitude (at (shift cs) k)))
        (left_part o l m (o.product (o.magnitude t) (at (total cs) k)) (at (o.nought ∷ total cs) k)
        (raised_magnitude (total cs) (total_magnitude cs) k))
        (covers_by o l m (l.product_comm (o.magnitude t) (at (total cs) k)) (l.product_comm (o.magnitude t) (o.magnitude (at (shift cs) k)))
        (m.covers_product (at (total cs) k) (o.magnitude (at (shift cs) k)) t (shift_covered cs k))))
        (m.of_product t (at (shift cs) k));
    sums = λ k.
        fits_covered_magnitude o l m (o.sum (o.product (o.magnitude t) (at (total cs) k)) (at (o.nought ∷ total cs) k))
        (o.sum (o.magnitude (o.product t (at (shift cs) k))) (o.magnitude (at (o.nought ∷ shift cs) k))) (row_fits c cs h k)
        (covers_sums o l m (o.product (o.magnitude t) (at (total cs) k)) (o.magnitude (o.product t (at (shift cs) k))) (at (o.nought ∷ total cs) k)
        (o.magnitude (at (o.nought ∷ shift cs) k))
        (product_covered_by o l m t (at (shift cs) k) (at (total cs) k) (shift_covered cs k))
        (raised_covered (total cs) (shift cs) (shift_covered cs) k))
        (m.of_sum (o.product t (at (shift cs) k)) (at (o.nought ∷ shift cs) k));
    constant = λ k.
        fits_by o l m (ap (λ z. o.sum (o.magnitude (at (c ∷ []) k)) (o.magnitude z)) (row_at t (shift cs) k))
        (fits_covered_magnitude o l m (at (total (c ∷ cs)) k)
        (o.sum (o.magnitude (at (c ∷ []) k)) (o.magnitude (o.sum (o.product t (at (shift cs) k)) (at (o.nought ∷ shift cs) k)))) (h k)
        (covers_by o l m {y = o.sum (o.magnitude (at (c ∷ []) k)) (o.magnitude (o.sum (o.product t (at (shift cs) k)) (at (o.nought ∷ shift cs) k)))}
        (raised_at (o.magnitude t) (o.magnitude c) (total cs) k) refl
        (covers_sums o l m (at (o.magnitude c ∷ []) k) (o.magnitude (at (c ∷ []) k))
        (o.sum (o.product (o.magnitude t) (at (total cs) k)) (at (o.nought ∷ total cs) k))
        (o.magnitude (o.sum (o.product t (at (shift cs) k)) (at (o.nought ∷ shift cs) k))) (one_covered c k)
        (row_covered (total cs) (shift cs) (shift_covered cs) k)))
        (m.of_sum (at (c ∷ []) k) (o.sum (o.product t (at (shift cs) k)) (at (o.nought ∷ shift cs) k))));
  }

  -- each step, from the greatest power down
  pub shift_step : (xs : List A) (i : ℕ) (c : A) (cs : List A) → drop i xs ≡ c ∷ cs → AllFit (list_shift o (o.magnitude t) (magnitudes_of o l m xs))
      → Step c (list_shift o t cs)
  shift_step xs i c cs e h = first_step c cs (subst (λ z. AllFit (total z)) e (drop_fits i xs h))
