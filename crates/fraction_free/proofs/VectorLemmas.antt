-- A row times a vector, absorbing a number, and the entry of one pivot row, from what the calls answer.
use Rattle.std.proofs.Common.{◌≡◌, ℕ, zero, suc, ◌+◌, ◌-◌, ◌<◌, IsTrue, List, [], ◌∷◌, ◌++◌, map, length, get_or, refl, sym, ap, ◌∙◌, subst, arith}
use Rattle.std.proofs.Math.ListN.{set}
use Rattle.std.proofs.lemmas.List.{length-map, map-set, map_push}
use Rattle.ring_laws.specs.Meaning.{Meaning}
use Rattle.ring_laws.specs.Algebra.{Ops, Algebra, Passing, within, Laws, SumInBounds, ProductInBounds}
use Rattle.ring_laws.specs.Answer.{OnFault, fault_weaker}
use Rattle.ring_laws.specs.declared.faults.RingFault.{RingFault}
use Rattle.poly_generic.proofs.ListLemmas.{at_item}
use Rattle.kernel_laws.specs.Rows.{entry_at, total}
use Rattle.kernel_laws.specs.BackSubstitution.{TimesInBounds, zeros, unit_vector}
use Rattle.kernel_laws.proofs.Totals.{total_from}
use Rattle.kernel_laws.proofs.BackRuns.{length-zeros}
use Rattle.kernel_laws.proofs.TimesInBounds.{fits_from, first_fits, sum_fits}

module _ {T : Type 0} (a : Algebra) (l : Laws a) (meaning : T → Meaning) (passes : (x : T) → IsTrue (a.passes (meaning x))) (row vector : List T) where
  abbrev W : Ops (Passing a)
  W = within a l.closed

  abbrev rs : ℕ → Passing a
  rs k = entry_at W (map (λ x. (meaning x, passes x)) row) k

  abbrev vs : ℕ → Passing a
  vs k = entry_at W (map (λ x. (meaning x, passes x)) vector) k

  abbrev r_at : ℕ → Meaning
  r_at k = entry_at a.ops (map meaning row) k

  abbrev v_at : ℕ → Meaning
  v_at k = entry_at a.ops (map meaning vector) k

  belongs_at : (xs : List T) (k : ℕ) → entry_at a.ops (map meaning xs) k ≡ (entry_at W (map (λ x. (meaning x, passes x)) xs) k).0
  belongs_at [] k = refl
  belongs_at (x ∷ xs) zero = refl
  belongs_at (x ∷ xs) (suc k) = belongs_at xs k

  total_meant : (m : ℕ) (f : ℕ → Passing a) (g : ℕ → Meaning) → ((k : ℕ) → g k ≡ (f k).0) → total a.ops m g ≡ (total W m f).0
  total_meant zero f g h = refl
  total_meant (suc m) f g h = cc (h 0, total_meant m (λ k. f (suc k)) (λ k. g (suc k)) (λ k. h (suc k)))

  -- the products from a place on
  abbrev pub from_place : ℕ → Meaning
  from_place i = total a.ops (length vector - i) (λ k. a.ops.product (r_at (i + k)) (v_at (i + k)))

  pub one_more : (at i : ℕ) → i + 1 ≡ at → i < length vector → from_place i ≡ a.ops.sum (a.ops.product (r_at i) (v_at i)) (from_place at)
  one_more at i e b =
      let s : length vector - i ≡ suc (length vector - at) = omega (arith, b, e) in
      ap (λ m. total a.ops m (λ k. a.ops.product (r_at (i + k)) (v_at (i + k)))) s
      ∙ total_from a.ops (length vector - at) (λ k. a.ops.product (r_at k) (v_at k)) i
      ∙ ap (λ j. a.ops.sum (a.ops.product (r_at i) (v_at i)) (total a.ops (length vector - at) (λ k. a.ops.product (r_at (j + k)) (v_at (j + k))))) e

  abbrev InBounds : Type 0
  InBounds = TimesInBounds a (length vector) (map meaning row) (map meaning vector)

  sizes : ℕ → Passing a
  sizes k = W.product (W.magnitude (rs k)) (W.magnitude (vs k))

  -- the sizes from a place on fit
  fits_at : InBounds → (i m : ℕ) → i + m ≡ length vector
      → W.Fits (total W m (λ k. W.product (W.magnitude (rs (i + k))) (W.magnitude (vs (i + k)))))
  fits_at h i m e = fits_zero i m (subst (λ n. W.Fits (total W n (λ k. W.product (W.magnitude (rs (0 + k))) (W.magnitude (vs (0 + k)))))) (sym e) start)
    where
      fits_zero : (i m : ℕ) → W.Fits (total W (i + m) (λ k. W.product (W.magnitude (rs (0 + k))) (W.magnitude (vs (0 + k)))))
          → W.Fits (total W m (λ k. W.product (W.magnitude (rs (i + k))) (W.magnitude (vs (i + k)))))
      fits_zero i m h =
          let z : 0 + i ≡ i = omega arith in
          subst (λ j. W.Fits (total W m (λ k. W.product (W.magnitude (rs (j + k))) (W.magnitude (vs (j + k)))))) z
          (fits_from W l.ring l.magnitudes i m 0 rs vs h)

      zero_plus : (k : ℕ) → 0 + k ≡ k
      zero_plus k = omega arith

      start : W.Fits (total W (length vector) (λ k. W.product (W.magnitude (rs (0 + k))) (W.magnitude (vs (0 + k)))))
      start = subst a.ops.Fits
          (total_meant (length vector) (λ k. W.product (W.magnitude (rs (0 + k))) (W.magnitude (vs (0 + k))))
          (λ k. a.ops.product (a.ops.magnitude (r_at k)) (a.ops.magnitude (v_at k)))
          (λ k. cc (belongs_at row k, belongs_at vector k, zero_plus k))) h

  -- so each product and each sum is in bounds
  pub product_in_bounds : InBounds → (at i : ℕ) → i + 1 ≡ at → i < length vector → ProductInBounds a (r_at i) (v_at i)
  product_in_bounds h at i e b =
      let n : i + suc (length vector - at) ≡ length vector = omega (arith, e, b) in
      let f = first_fits W l.ring l.magnitudes (length vector - at) (λ k. rs (i + k)) (λ k. vs (i + k)) (fits_at h i (suc (length vector - at)) n) in
      let z : i + 0 ≡ i = omega arith in
      let g : W.Fits (W.product (W.magnitude (rs i)) (W.magnitude (vs i))) =
      subst (λ j. W.Fits (W.product (W.magnitude (rs j)) (W.magnitude (vs j)))) z f in
      subst (λ t. ProductInBounds a t (v_at i)) (sym (belongs_at row i)) (subst (λ t. ProductInBounds a (rs i).0 t) (sym (belongs_at vector i)) g)

  pub sum_in_bounds : InBounds → (at i : ℕ) → i + 1 ≡ at → i < length vector → SumInBounds a (a.ops.product (r_at i) (v_at i)) (from_place at)
  sum_in_bounds h at i e b =
      let n : i + suc (length vector - at) ≡ length vector = omega (arith, e, b) in
      let f = sum_fits W l.ring l.magnitudes (length vector - at) (λ k. rs (i + k)) (λ k. vs (i + k)) (fits_at h i (suc (length vector - at)) n) in
      let z : i + 0 ≡ i = omega arith in
      subst (λ t. SumInBounds a (a.ops.product (r_at i) (v_at i)) t) (sym (rest at i e))
      (subst (λ t. SumInBounds a t (total W (length vector - at) (λ k. W.product (rs (i + suc k)) (vs (i + suc k)))).0)
      (ap (λ j. a.ops.product (rs j).0 (vs j).0) z ∙ sym (cc (belongs_at row i, belongs_at vector i))) f)
    where
      rest : (at i : ℕ) → i + 1 ≡ at → from_place at ≡ (total W (length vector - at) (λ k. W.product (rs (i + suc k)) (vs (i + suc k)))).0
      rest at i e =
          total_meant (length vector - at) (λ k. W.product (rs (i + suc k)) (vs (i + suc k))) (λ k. a.ops.product (r_at (at + k)) (v_at (at + k)))
          (λ k. cc (belongs_at row (at + k), belongs_at vector (at + k), shift at i k e))
        where
          shift : (at i k : ℕ) → i + 1 ≡ at → at + k ≡ i + suc k
          shift at i k e = omega (arith, e)

  -- ---- one place
  module _ (at i : ℕ) (e : i + 1 ≡ at) (b : i < length vector) (c : i < length row) (x y : T) (f : x ≡ get_or row i x) (g : y ≡ get_or vector i y) where
    x_is : r_at i ≡ meaning x
    x_is = at_item a.ops meaning row i x c f

    y_is : v_at i ≡ meaning y
    y_is = at_item a.ops meaning vector i y b g

    pub product_not : (fault : RingFault) → OnFault (¬ (ProductInBounds a (meaning x) (meaning y))) fault → OnFault (¬ InBounds) fault
    product_not fault h =
        fault_weaker fault (λ n k. n (subst (λ t. ProductInBounds a t (meaning y)) x_is
        (subst (λ t. ProductInBounds a (r_at i) t) y_is (product_in_bounds k at i e b)))) h

    pub sum_not : (p s : Meaning) (fault : RingFault) → p ≡ a.ops.product (meaning x) (meaning y) → s ≡ from_place at
        → OnFault (¬ (SumInBounds a p s)) fault → OnFault (¬ InBounds) fault
    sum_not p s fault q t h =
        fault_weaker fault (λ n k. n (subst (λ u. SumInBounds a u s) (cc (q, x_is, y_is))
        (subst (λ u. SumInBounds a (a.ops.product (r_at i) (v_at i)) u) (sym t) (sum_in_bounds k at i e b)))) h

    pub sum_made : (p s new : Meaning) → p ≡ a.ops.product (meaning x) (meaning y) → s ≡ from_place at → new ≡ a.ops.sum p s → new ≡ from_place i
    sum_made p s new q t h = cc (h, q, t, x_is, y_is, one_more at i e b)

-- ---- the start
pub one_zero_more : {A : Type 0} (o : Ops A) (n : ℕ) → zeros o (n + 1) ≡ zeros o n ++ o.nought ∷ []
one_zero_more o n =
    let m : suc n ≡ n + 1 = omega arith in sym (ap (zeros o) m) ∙ last n
  where
    last : (n : ℕ) → zeros o (suc n) ≡ zeros o n ++ o.nought ∷ []
    last zero = refl
    last (suc n) = ap (λ t. o.nought ∷ t) (last n)

pub zero_pushed : {T : Type 0} (a : Algebra) (meaning : T → Meaning) (out new : List T) (z : T) (n : ℕ) → new ≡ out ++ z ∷ []
    → map meaning out ≡ zeros a.ops n → meaning z ≡ a.ops.nought → map meaning new ≡ zeros a.ops (n + 1)
zero_pushed a meaning out new z n e f g =
    ap (map meaning) e ∙ map_push meaning out z ∙ cc (f, g) ∙ sym (one_zero_more a.ops n)

pub one_placed : {T : Type 0} (a : Algebra) (meaning : T → Meaning) (out new : List T) (x : T) (n columns free : ℕ) → new ≡ set out free x
    → map meaning out ≡ zeros a.ops n → n ≡ columns → meaning x ≡ a.ops.unit → map meaning new ≡ unit_vector a.ops columns free
one_placed a meaning out new x n columns free e f g h =
    ap (map meaning) e ∙ map-set meaning out free x ∙ cc (f, g, h)

pub zeros_length : {T : Type 0} (a : Algebra) (meaning : T → Meaning) (out : List T) (n : ℕ) → map meaning out ≡ zeros a.ops n → length out ≡ n
zeros_length a meaning out n e = sym (length-map out meaning) ∙ ap length e ∙ length-zeros a.ops n
