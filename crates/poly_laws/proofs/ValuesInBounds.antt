-- Where the value of a list on magnitudes fits, each step of Horner's rule is in bounds.
use Rattle.std.specs.Prelude.{◌≡◌, ℕ, zero, suc, List, [], ◌∷◌, drop, refl}
use Rattle.std.proofs.Common.{ap, sym, ◌∙◌, subst, ⊎_elim}
use Rattle.ring_laws.specs.Algebra.{Ops, RingLaws, MagnitudeLaws}
use Rattle.poly_laws.specs.Evaluation.{list_value}
use Rattle.poly_laws.proofs.ListLaws.{nought_product, sum_nought}
use Rattle.poly_laws.proofs.ListMagnitudes.{magnitudes_of, covers_by, fits_by, covers_sums, sum_magnitude, product_magnitude, right_part, sum_covered, decide, fits_covered_magnitude}

module _ {A : Type 0} (o : Ops A) (l : RingLaws o) (m : MagnitudeLaws o) where
  -- what covers |v| times |x| covers the magnitude of the product
  pub product_covered_by : (x v t : A) → o.Covers t (o.magnitude v) → o.Covers (o.product (o.magnitude x) t) (o.magnitude (o.product x v))
  product_covered_by x v t h =
      m.covers_trans (o.product (o.magnitude x) t) (o.product (o.magnitude x) (o.magnitude v)) (o.magnitude (o.product x v))
      (covers_by o l m (l.product_comm (o.magnitude x) t) (l.product_comm (o.magnitude x) (o.magnitude v)) (m.covers_product t (o.magnitude v) x h))
      (m.product_covers x v)

  module _ (x : A) where
    abbrev value : List A → A
    value xs = list_value o x xs

    -- the counterpart on magnitudes
    abbrev total : List A → A
    total xs = list_value o (o.magnitude x) (magnitudes_of o l m xs)

    total_magnitude : (xs : List A) → o.magnitude (total xs) ≡ total xs
    total_magnitude [] = m.of_nought
    total_magnitude (c ∷ cs) =
        sum_magnitude o l m (o.magnitude c) (o.product (o.magnitude x) (total cs)) (m.of_magnitude c)
        (product_magnitude o l m (o.magnitude x) (total cs) (m.of_magnitude x) (total_magnitude cs))

    value_covered : (xs : List A) → o.Covers (total xs) (o.magnitude (value xs))
    value_covered [] = covers_by o l m refl m.of_nought (m.covers_same o.nought)
    value_covered (c ∷ cs) =
        sum_covered o l m c (o.product x (value cs)) (o.magnitude c) (o.product (o.magnitude x) (total cs)) (m.covers_same (o.magnitude c))
        (product_covered_by x (value cs) (total cs) (value_covered cs))

    scaled_fits : (c : A) (cs : List A) → o.Fits (total (c ∷ cs)) → o.Fits (o.product (o.magnitude x) (total cs))
    scaled_fits c cs h =
        fits_covered_magnitude o l m (total (c ∷ cs)) (o.product (o.magnitude x) (total cs)) h
        (right_part o l m (o.magnitude c) (o.product (o.magnitude x) (total cs)) (m.of_magnitude c))
        (product_magnitude o l m (o.magnitude x) (total cs) (m.of_magnitude x) (total_magnitude cs))

    -- without the first coefficient, unless all powers are zero
    tail_fits : (c : A) (cs : List A) → ¬ (x ≡ o.nought) → o.Fits (total (c ∷ cs)) → o.Fits (total cs)
    tail_fits c cs n h =
        fits_by o l m (sym (total_magnitude cs))
        (m.fits_factor (total cs) x
        (fits_by o l m (ap (λ t. o.product t (o.magnitude x)) (total_magnitude cs) ∙ l.product_comm (total cs) (o.magnitude x))
        (scaled_fits c cs h)) n)

    drop_fits : (i : ℕ) (xs : List A) → ¬ (x ≡ o.nought) → o.Fits (total xs) → o.Fits (total (drop i xs))
    drop_fits zero xs n h = h
    drop_fits (suc i) [] n h = h
    drop_fits (suc i) (c ∷ cs) n h = drop_fits i cs n (tail_fits c cs n h)

    -- the product and the sum of a step of Horner's rule are in bounds
    pub record Step (c : A) (cs : List A) : Type 0 where
      pub product : o.Fits (o.product (o.magnitude x) (o.magnitude (list_value o x cs)))
      pub sum : o.Fits (o.sum (o.magnitude c) (o.magnitude (o.product x (list_value o x cs))))

    first_step : (c : A) (cs : List A) → o.Fits (total (c ∷ cs)) → Step c cs
    first_step c cs h = record {
      product =
          fits_covered_magnitude o l m (o.product (o.magnitude x) (total cs)) (o.product (o.magnitude x) (o.magnitude (value cs)))
          (scaled_fits c cs h)
          (covers_by o l m (l.product_comm (o.magnitude x) (total cs)) (l.product_comm (o.magnitude x) (o.magnitude (value cs)))
          (m.covers_product (total cs) (o.magnitude (value cs)) x (value_covered cs)))
          (m.of_product x (value cs));
      sum =
          fits_covered_magnitude o l m (total (c ∷ cs)) (o.sum (o.magnitude c) (o.magnitude (o.product x (value cs)))) h
          (covers_sums o l m (o.magnitude c) (o.magnitude c) (o.product (o.magnitude x) (total cs)) (o.magnitude (o.product x (value cs)))
          (m.covers_same (o.magnitude c))
          (product_covered_by x (value cs) (total cs) (value_covered cs)))
          (m.of_sum c (o.product x (value cs)));
    }

    nought_step : (c : A) (cs : List A) → x ≡ o.nought → o.Fits c → Step c cs
    nought_step c cs e h =
        let p : o.product x (value cs) ≡ o.nought = ap (λ t. o.product t (value cs)) e ∙ nought_product o l (value cs) in
        record {
          product = fits_by o l m (ap (λ t. o.product (o.magnitude t) (o.magnitude (value cs))) e
              ∙ ap (λ t. o.product t (o.magnitude (value cs))) m.of_nought ∙ nought_product o l (o.magnitude (value cs))) m.fits_nought;
          sum = fits_by o l m (ap (λ t. o.sum (o.magnitude c) (o.magnitude t)) p ∙ ap (o.sum (o.magnitude c)) m.of_nought
              ∙ sum_nought o l (o.magnitude c)) ((m.fits c).0 h);
        }

    -- each step, from the greatest power down
    pub value_step : (xs : List A) (i : ℕ) (c : A) (cs : List A) → drop i xs ≡ c ∷ cs → o.Fits c
        → o.Fits (list_value o (o.magnitude x) (magnitudes_of o l m xs)) → Step c cs
    value_step xs i c cs e fits h =
        let S : Type 0 = Step c cs in
        ⊎_elim {C = S} (λ z. nought_step c cs z fits) (λ n. first_step c cs (subst (λ t. o.Fits (total t)) e (drop_fits i xs n h))) (decide o l m x)
