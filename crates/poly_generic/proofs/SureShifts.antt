-- What the cheap test of a shift shows: the value of the magnitudes at 1 + |t| covers each coefficient of their shift by |t|.
use Rattle.std.proofs.Common.{◌≡◌, ℕ, zero, suc, pos, IsTrue, IsOk, IfOk, List, [], ◌∷◌, map, refl, sym, ap, ◌∙◌, subst, Result, Ok, Err}
use Rattle.ring_laws.specs.declared.faults.RingFault.{RingFault}
use Rattle.ring_laws.specs.Algebra.{Ops, RingLaws, MagnitudeLaws, Algebra, Passing, within, Laws}
use Rattle.ring_laws.specs.Meaning.{Meaning}
use Rattle.poly_laws.specs.Evaluation.{list_value}
use Rattle.poly_laws.specs.Lists.{coefficient_at}
use Rattle.poly_laws.specs.Shift.{list_shift, ListShiftInBounds}
use Rattle.poly_laws.proofs.Coefficients.{meanings-magnitude}
use Rattle.poly_laws.proofs.Fitting.{meanings-at}
use Rattle.poly_laws.proofs.ListLaws.{sum_nought}
use Rattle.poly_laws.proofs.ListMagnitudes.{magnitudes_of, covers_by, covers_sums, sum_magnitude, product_magnitude, right_part, fits_covered_magnitude}
use Rattle.poly_laws.proofs.ShiftedCoefficients.{shifted_zero, shifted_suc}
use Rattle.poly_laws.proofs.ShiftsInBounds.{total_magnitude}
use Rattle.poly_laws.proofs.StepMeanings.{meanings-value, meanings-shift}
use Rattle.poly_generic.proofs.MagnitudeSums.{covers_nought}
use Rattle.poly_generic.proofs.Senses.{meanings-senses}

module _ {A : Type 0} (o : Ops A) (l : RingLaws o) (m : MagnitudeLaws o) (t : A) where
  abbrev size : A
  size = o.magnitude t

  abbrev above : A
  above = o.sum o.unit (o.magnitude t)

  abbrev total : List A → List A
  total xs = list_shift o (o.magnitude t) (magnitudes_of o l m xs)

  abbrev whole : List A → A
  whole xs = list_value o (o.sum o.unit (o.magnitude t)) (magnitudes_of o l m xs)

  above_magnitude : o.magnitude above ≡ above
  above_magnitude =
      let unit : o.magnitude o.unit ≡ o.unit = ap o.magnitude (sym l.whole_one) ∙ m.of_whole (pos 1) ∙ l.whole_one in
      sum_magnitude o l m o.unit size unit (m.of_magnitude t)

  whole_magnitude : (xs : List A) → o.magnitude (whole xs) ≡ whole xs
  whole_magnitude [] = m.of_nought
  whole_magnitude (c ∷ cs) =
      sum_magnitude o l m (o.magnitude c) (o.product above (whole cs)) (m.of_magnitude c)
      (product_magnitude o l m above (whole cs) above_magnitude (whole_magnitude cs))

  -- (1 + |t|)*v = |t|*v + v
  parts : (v : A) → o.product above v ≡ o.sum (o.product size v) v
  parts v =
      cc (
        l.product_comm above v,
        l.distributes v o.unit size,
        l.product_comm v o.unit,
        l.unit_product v,
        l.product_comm v size,
        l.sum_comm v (o.product size v),
      )

  -- so it covers |t|*x + y where v covers both
  row_covered : (v x y : A) → o.Covers v x → o.Covers v y → o.Covers (o.product above v) (o.sum (o.product size x) y)
  row_covered v x y h k =
      covers_by o l m (parts v) refl
      (covers_sums o l m (o.product size v) (o.product size x) v y
      (covers_by o l m (l.product_comm size v) (l.product_comm size x) (m.covers_product v x t h)) k)

  whole_covers : (xs : List A) (k : ℕ) → o.Covers (whole xs) (coefficient_at o (total xs) k)
  whole_covers [] k = m.covers_same o.nought
  whole_covers (c ∷ cs) zero =
      let x : A = coefficient_at o (total cs) 0 in
      covers_by o l m refl (shifted_zero o l size (o.magnitude c) (magnitudes_of o l m cs))
      (covers_sums o l m (o.magnitude c) (o.magnitude c) (o.product above (whole cs)) (o.product size x) (m.covers_same (o.magnitude c))
      (covers_by o l m refl (sym (sum_nought o l (o.product size x)))
      (row_covered (whole cs) x o.nought (whole_covers cs 0) (covers_nought o l m (whole cs) (whole_magnitude cs)))))
  whole_covers (c ∷ cs) (suc k) =
      let row : A = o.product above (whole cs) in
      let next : A = o.sum (o.product size (coefficient_at o (total cs) (suc k))) (coefficient_at o (total cs) k) in
      covers_by o l m refl (shifted_suc o l size (o.magnitude c) (magnitudes_of o l m cs) k)
      (m.covers_trans (o.sum (o.magnitude c) row) row next (right_part o l m (o.magnitude c) row (m.of_magnitude c))
      (row_covered (whole cs) (coefficient_at o (total cs) (suc k)) (coefficient_at o (total cs) k) (whole_covers cs (suc k)) (whole_covers cs k)))

  pub shift_fits : (xs : List A) → o.Fits (list_value o (o.sum o.unit (o.magnitude t)) (magnitudes_of o l m xs)) → (k : ℕ)
      → o.Fits (coefficient_at o (list_shift o (o.magnitude t) (magnitudes_of o l m xs)) k)
  shift_fits xs h k =
      fits_covered_magnitude o l m (whole xs) (coefficient_at o (total xs) k) h (whole_covers xs k) (total_magnitude o l m t xs k)

module _ {T : Type 0} (a : Algebra) (l : Laws a) (meaning : T → Meaning)
    (passes : (x : T) → IsTrue (a.passes (meaning x))) (fits : (x : T) → a.ops.Fits (meaning x)) where
  abbrev senses : List T → List (Passing a)
  senses xs = map (λ x. (meaning x, passes x)) xs

  abbrev base : Ops (Passing a)
  base = within a l.closed

  -- where that value is one of the ring, the shift is in bounds
  pub surely_shifted : (xs : List T) (t one of_t at : T) (r : Result T RingFault) → meaning one ≡ a.ops.unit
      → meaning of_t ≡ a.ops.magnitude (meaning t) → meaning at ≡ a.ops.sum (meaning one) (meaning of_t) → IsOk r
      → IfOk r (λ v. meaning v ≡ list_value a.ops (meaning at) (map a.ops.magnitude (map meaning xs)))
      → ListShiftInBounds a (meaning t) (map meaning xs)
  surely_shifted xs t one of_t at (Err fault) e f g o h k = cc
  surely_shifted xs t one of_t at (Ok v) e f g o h k =
      let s : Passing a = (meaning t, passes t) in
      let sizes : List (Passing a) = magnitudes_of base l.ring l.magnitudes (senses xs) in
      let above : meaning at ≡ a.ops.sum a.ops.unit (a.ops.magnitude (meaning t)) = cc (e, f, g) in
      let are : map (λ (x : Passing a). x.0) sizes ≡ map a.ops.magnitude (map meaning xs) =
      meanings-magnitude a l.closed (senses xs) ∙ ap (map a.ops.magnitude) (meanings-senses a l meaning passes xs) in
      let is : (list_value base (base.sum base.unit (base.magnitude s)) sizes).0 ≡ meaning v =
      meanings-value a l (base.sum base.unit (base.magnitude s)) sizes
      ∙ ap (list_value a.ops (a.ops.sum a.ops.unit (a.ops.magnitude (meaning t)))) are
      ∙ ap (λ z. list_value a.ops z (map a.ops.magnitude (map meaning xs))) (sym above)
      ∙ sym h in
      let coefficient : (coefficient_at base (list_shift base (base.magnitude s) sizes) k).0
      ≡ coefficient_at a.ops (list_shift a.ops (a.ops.magnitude (meaning t)) (map a.ops.magnitude (map meaning xs))) k =
      sym (meanings-at a l.closed l.ring l.magnitudes (list_shift base (base.magnitude s) sizes) k)
      ∙ ap (λ z. coefficient_at a.ops z k) (meanings-shift a l (base.magnitude s) sizes ∙ ap (list_shift a.ops (a.ops.magnitude (meaning t))) are) in
      subst a.ops.Fits coefficient (shift_fits base l.ring l.magnitudes s (senses xs) (subst a.ops.Fits (sym is) (fits v)) k)
