-- The steps of Horner's rule and of a shift, over meanings.
use Rattle.std.specs.Prelude.{◌≡◌, ℕ, ℤ, IsTrue, List, [], ◌∷◌, drop, map, refl}
use Rattle.std.proofs.Common.{ap, sym, ◌∙◌, subst}
use Rattle.ring_laws.specs.Meaning.{Meaning, items}
use Rattle.ring_laws.specs.Algebra.{Ops, Algebra, Passing, within, Laws, SumInBounds, ProductInBounds}
use Rattle.poly_laws.specs.Lists.{coefficient_at, list_sum, trimmed}
use Rattle.poly_laws.specs.PolyAlgebra.{poly_algebra}
use Rattle.poly_laws.specs.Bounds.{ListSumInBounds, ScalingInBounds}
use Rattle.poly_laws.specs.Evaluation.{list_value, ValueInBounds}
use Rattle.poly_laws.specs.Shift.{raised_by, list_shift, poly_shift, ListShiftInBounds}
use Rattle.poly_laws.proofs.Coefficients.{meanings_of, meanings-sum, meanings-scale, meanings-magnitude, meanings-trimmed, coefficients, meanings-coefficients, trimmed_passes}
use Rattle.poly_laws.proofs.Fitting.{meanings-at}
use Rattle.poly_laws.proofs.ListLaws.{at_scale}
use Rattle.poly_laws.proofs.ListMagnitudes.{magnitudes_of}
use Rattle.poly_laws.proofs.ValuesInBounds
use Rattle.poly_laws.proofs.ShiftsInBounds

module _ (a : Algebra) (l : Laws a) where
  abbrev base : Ops (Passing a)
  base = within a l.closed

  abbrev means : List (Passing a) → List Meaning
  means xs = meanings_of a l.closed xs

  pub meanings-value : (v : Passing a) (xs : List (Passing a)) → (list_value base v xs).0 ≡ list_value a.ops v.0 (meanings_of a l.closed xs)
  meanings-value v [] = refl
  meanings-value v (x ∷ xs) = ap (λ t. a.ops.sum x.0 (a.ops.product v.0 t)) (meanings-value v xs)

  meanings-raised : (t x : Passing a) (ys : List (Passing a)) → means (raised_by base t x ys) ≡ raised_by a.ops t.0 x.0 (means ys)
  meanings-raised t x ys =
      meanings-sum a l.closed (x ∷ []) (list_sum base (map (base.product t) ys) (base.nought ∷ ys))
      ∙ ap (list_sum a.ops (x.0 ∷ [])) (meanings-sum a l.closed (map (base.product t) ys) (base.nought ∷ ys)
      ∙ ap (λ z. list_sum a.ops z (a.ops.nought ∷ means ys)) (meanings-scale a l.closed t ys))

  pub meanings-shift : (t : Passing a) (xs : List (Passing a))
      → meanings_of a l.closed (list_shift base t xs) ≡ list_shift a.ops t.0 (meanings_of a l.closed xs)
  meanings-shift t [] = refl
  meanings-shift t (x ∷ xs) = meanings-raised t x (list_shift base t xs) ∙ ap (raised_by a.ops t.0 x.0) (meanings-shift t xs)

  -- a polynomial at its variable plus a whole number belongs to the polynomials
  pub shift_passes : (w : ℤ) (x : Passing (poly_algebra a)) → IsTrue ((poly_algebra a).passes (poly_shift a.ops w x.0))
  shift_passes w x =
      let shifted : List (Passing a) = list_shift base (base.whole w) (coefficients a l.closed x) in
      trimmed_passes a l.closed shifted (trimmed a.ops (list_shift a.ops (a.ops.whole w) (items x.0)))
      (meanings-trimmed a l.closed shifted
      ∙ ap (trimmed a.ops) (meanings-shift (base.whole w) (coefficients a l.closed x)
      ∙ ap (list_shift a.ops (a.ops.whole w)) (meanings-coefficients a l.closed x)))

  -- the products and sums of a step of Horner's rule
  pub record ValueStep (v c : Passing a) (cs : List (Passing a)) : Type 0 where
    pub product : ProductInBounds a v.0 (list_value a.ops v.0 (meanings_of a l.closed cs))
    pub sum : SumInBounds a c.0 (a.ops.product v.0 (list_value a.ops v.0 (meanings_of a l.closed cs)))

  pub value_steps : (v : Passing a) (xs : List (Passing a)) (i : ℕ) (c : Passing a) (cs : List (Passing a)) → drop i xs ≡ c ∷ cs → a.ops.Fits c.0
      → ValueInBounds a v.0 (meanings_of a l.closed xs) → ValueStep v c cs
  value_steps v xs i c cs e fits h =
      let total_is : (list_value base (base.magnitude v) (magnitudes_of base l.ring l.magnitudes xs)).0
      ≡ list_value a.ops (a.ops.magnitude v.0) (map a.ops.magnitude (means xs)) =
      meanings-value (base.magnitude v) (magnitudes_of base l.ring l.magnitudes xs)
      ∙ ap (list_value a.ops (a.ops.magnitude v.0)) (meanings-magnitude a l.closed xs) in
      let s = ValuesInBounds.value_step base l.ring l.magnitudes v xs i c cs e fits (subst a.ops.Fits (sym total_is) h) in
      record {
        product = subst (λ z. ProductInBounds a v.0 z) (meanings-value v cs) s.product;
        sum = subst (λ z. SumInBounds a c.0 (a.ops.product v.0 z)) (meanings-value v cs) s.sum;
      }

  -- the products and sums of a step of a shift
  pub record ShiftStep (t c : Passing a) (ys : List Meaning) : Type 0 where
    pub products : ScalingInBounds a t.0 ys
    pub row : ListSumInBounds a (map (a.ops.product t.0) ys) (a.ops.nought ∷ ys)
    pub constant : ListSumInBounds a (c.0 ∷ []) (list_sum a.ops (map (a.ops.product t.0) ys) (a.ops.nought ∷ ys))

  at_meanings : (xs : List (Passing a)) (k : ℕ) → coefficient_at a.ops (means xs) k ≡ (coefficient_at base xs k).0
  at_meanings xs k = meanings-at a l.closed l.ring l.magnitudes xs k

  step_meanings : (t c : Passing a) (ys : List (Passing a)) → ShiftsInBounds.Step base l.ring l.magnitudes t c ys → ShiftStep t c (means ys)
  step_meanings t c ys s =
      let row_is : means (list_sum base (map (base.product t) ys) (base.nought ∷ ys))
      ≡ list_sum a.ops (map (a.ops.product t.0) (means ys)) (a.ops.nought ∷ means ys) =
      meanings-sum a l.closed (map (base.product t) ys) (base.nought ∷ ys)
      ∙ ap (λ z. list_sum a.ops z (a.ops.nought ∷ means ys)) (meanings-scale a l.closed t ys) in
      record {
        products = λ k b. subst (λ z. ProductInBounds a t.0 z) (sym (at_meanings ys k)) (s.products k);
        row = λ k b d.
            subst (λ z. SumInBounds a (coefficient_at a.ops z k) (coefficient_at a.ops (a.ops.nought ∷ means ys) k)) (meanings-scale a l.closed t ys)
            (subst (λ z. SumInBounds a z (coefficient_at a.ops (a.ops.nought ∷ means ys) k)) (sym (at_meanings (map (base.product t) ys) k))
            (subst (λ z. SumInBounds a (coefficient_at base (map (base.product t) ys) k).0 z) (sym (at_meanings (base.nought ∷ ys) k))
            (subst (λ z. a.ops.Fits (a.ops.sum (a.ops.magnitude z.0) (a.ops.magnitude (coefficient_at base (base.nought ∷ ys) k).0)))
            (sym (scale_at t ys k)) (s.sums k))));
        constant = λ k b d.
            subst (λ z. SumInBounds a (coefficient_at a.ops (c.0 ∷ []) k) (coefficient_at a.ops z k)) row_is
            (subst (λ z. SumInBounds a z (coefficient_at a.ops (means (list_sum base (map (base.product t) ys) (base.nought ∷ ys))) k))
            (sym (at_meanings (c ∷ []) k))
            (subst (λ z. SumInBounds a (coefficient_at base (c ∷ []) k).0 z)
            (sym (at_meanings (list_sum base (map (base.product t) ys) (base.nought ∷ ys)) k)) (s.constant k)));
      }
    where
      scale_at : (t : Passing a) (ys : List (Passing a)) (k : ℕ)
          → coefficient_at base (map (base.product t) ys) k ≡ base.product t (coefficient_at base ys k)
      scale_at t ys k = at_scale base l.ring t ys k

  pub shift_steps : (t : Passing a) (xs : List (Passing a)) (i : ℕ) (c : Passing a) (cs : List (Passing a)) → drop i xs ≡ c ∷ cs
      → ListShiftInBounds a t.0 (meanings_of a l.closed xs) → ShiftStep t c (list_shift a.ops t.0 (meanings_of a l.closed cs))
  shift_steps t xs i c cs e h =
      let total_is : means (list_shift base (base.magnitude t) (magnitudes_of base l.ring l.magnitudes xs))
      ≡ list_shift a.ops (a.ops.magnitude t.0) (map a.ops.magnitude (means xs)) =
      meanings-shift (base.magnitude t) (magnitudes_of base l.ring l.magnitudes xs)
      ∙ ap (list_shift a.ops (a.ops.magnitude t.0)) (meanings-magnitude a l.closed xs) in
      let all : (k : ℕ) → a.ops.Fits (coefficient_at base (list_shift base (base.magnitude t) (magnitudes_of base l.ring l.magnitudes xs)) k).0 =
      λ k. subst a.ops.Fits (ap (λ z. coefficient_at a.ops z k) (sym total_is)
      ∙ at_meanings (list_shift base (base.magnitude t) (magnitudes_of base l.ring l.magnitudes xs)) k) (h k) in
      subst (λ z. ShiftStep t c z) (meanings-shift t cs)
      (step_meanings t c (list_shift base t cs) (ShiftsInBounds.shift_step base l.ring l.magnitudes t xs i c cs e all))
