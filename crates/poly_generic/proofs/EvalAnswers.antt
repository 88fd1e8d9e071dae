-- What `eval` and `shift_by` of polynomials answer.
use Rattle.std.proofs.Common.{◌≡◌, ◌≤◌, ℤ, IsTrue, List, [], ◌∷◌, map, length, refl, sym, ap, ◌∙◌, subst, arith, Result, Ok, Err}
use Rattle.std.proofs.lemmas.List.{length-map}
use Rattle.ring_laws.specs.Meaning.{Meaning, listed, items, parted-joined}
use Rattle.ring_laws.specs.Algebra.{Ops, Algebra, Passing, Laws}
use Rattle.ring_laws.specs.Answer.{OnFault, GivesInBounds, fault_weaker}
use Rattle.ring_laws.specs.declared.faults.RingFault.{RingFault}
use Rattle.poly_laws.specs.Evaluation.{list_value, ValueInBounds}
use Rattle.poly_laws.specs.Lists.{coefficient_at, list_sum, trimmed}
use Rattle.poly_laws.specs.Shift.{list_shift, poly_shift, ListShiftInBounds}
use Rattle.poly_laws.proofs.Belonging.{each_fits}
use Rattle.poly_laws.proofs.Trimming.{length-trimmed}
use Rattle.poly_generic.proofs.ListLemmas.{length-list_sum}
use Rattle.poly_generic.proofs.ProductAnswers.{magnitudes_twice}

-- a shift has as many coefficients
pub length-list_shift : {A : Type 0} (o : Ops A) (t : A) (xs : List A) → length (list_shift o t xs) ≡ length xs
length-list_shift o t [] = refl
length-list_shift o t (x ∷ xs) =
    let ys = list_shift o t xs in
    let row = list_sum o (map (o.product t) ys) (o.nought ∷ ys) in
    omega (
      arith,
      length-list_sum o (x ∷ []) row,
      length-list_sum o (map (o.product t) ys) (o.nought ∷ ys),
      length-map ys (o.product t),
      length-list_shift o t xs,
    )

module _ {T : Type 0} (a : Algebra) (l : Laws a) (meaning : T → Meaning)
    (passes : (x : T) → IsTrue (a.passes (meaning x))) (fits : (x : T) → a.ops.Fits (meaning x)) where
  abbrev m : List T → List Meaning
  m xs = map meaning xs

  abbrev coefficients_of : List T → List Meaning
  coefficients_of xs = items (listed (map meaning xs))

  are : (xs : List T) → coefficients_of xs ≡ m xs
  are xs = parted-joined (m xs)

  again : (x : T) → a.ops.magnitude (a.ops.magnitude (meaning x)) ≡ a.ops.magnitude (meaning x)
  again x = ap (λ (v : Passing a). v.0) (l.magnitudes.of_magnitude (meaning x, passes x))

  -- the value of the magnitudes is its own counterpart
  pub eval_bound_fault : (v : T) (xs : List T) (size : Meaning) (sizes : List Meaning) (fault : RingFault) → size ≡ a.ops.magnitude (meaning v)
      → sizes ≡ map a.ops.magnitude (map meaning xs) → OnFault (¬ (ValueInBounds a size sizes)) fault
      → OnFault (¬ (ValueInBounds a (meaning v) (items (listed (map meaning xs))))) fault
  eval_bound_fault v xs size sizes fault e f h =
      let p : a.ops.magnitude size ≡ a.ops.magnitude (meaning v) = ap a.ops.magnitude e ∙ again v in
      let q : map a.ops.magnitude sizes ≡ map a.ops.magnitude (coefficients_of xs) =
      ap (map a.ops.magnitude) f ∙ magnitudes_twice a l meaning passes fits xs ∙ ap (map a.ops.magnitude) (sym (are xs)) in
      fault_weaker fault
      (λ n t. n (subst (λ z. a.ops.Fits (list_value a.ops z (map a.ops.magnitude sizes))) (sym p)
      (subst (λ z. a.ops.Fits (list_value a.ops (a.ops.magnitude (meaning v)) z)) (sym q) t))) h

  pub eval_fault : (v : T) (xs : List T) (fault : RingFault) → OnFault (¬ (ValueInBounds a (meaning v) (map meaning xs))) fault
      → OnFault (¬ (ValueInBounds a (meaning v) (items (listed (map meaning xs))))) fault
  eval_fault v xs fault h = fault_weaker fault (λ n t. n (subst (λ z. ValueInBounds a (meaning v) z) (are xs) t)) h

  pub eval_given : (v : T) (xs : List T) (size : Meaning) (sizes : List Meaning) (bound value : T) → size ≡ a.ops.magnitude (meaning v)
      → sizes ≡ map a.ops.magnitude (map meaning xs) → meaning bound ≡ list_value a.ops size sizes
      → meaning value ≡ list_value a.ops (meaning v) (map meaning xs)
      → (ValueInBounds a (meaning v) (items (listed (map meaning xs))))
      × (meaning value ≡ list_value a.ops (meaning v) (items (listed (map meaning xs))))
  eval_given v xs size sizes bound value e f b h =
      let q : sizes ≡ map a.ops.magnitude (coefficients_of xs) = f ∙ ap (map a.ops.magnitude) (sym (are xs)) in
      let is : meaning bound ≡ list_value a.ops (a.ops.magnitude (meaning v)) (map a.ops.magnitude (coefficients_of xs)) =
      b ∙ ap (λ z. list_value a.ops z sizes) e ∙ ap (list_value a.ops (a.ops.magnitude (meaning v))) q in
      (subst a.ops.Fits is (fits bound), h ∙ ap (list_value a.ops (meaning v)) (sym (are xs)))

  -- the shift of the magnitudes is its own counterpart
  pub shift_bound_fault : (t : T) (xs : List T) (size : Meaning) (sizes : List Meaning) (fault : RingFault) → size ≡ a.ops.magnitude (meaning t)
      → sizes ≡ map a.ops.magnitude (map meaning xs) → OnFault (¬ (ListShiftInBounds a size sizes)) fault
      → OnFault (¬ (ListShiftInBounds a (meaning t) (map meaning xs))) fault
  shift_bound_fault t xs size sizes fault e f h =
      let p : a.ops.magnitude size ≡ a.ops.magnitude (meaning t) = ap a.ops.magnitude e ∙ again t in
      let q : map a.ops.magnitude sizes ≡ map a.ops.magnitude (m xs) = ap (map a.ops.magnitude) f ∙ magnitudes_twice a l meaning passes fits xs in
      fault_weaker fault
      (λ n s. n (λ k. subst (λ z. a.ops.Fits (coefficient_at a.ops (list_shift a.ops z (map a.ops.magnitude sizes)) k)) (sym p)
      (subst (λ z. a.ops.Fits (coefficient_at a.ops (list_shift a.ops (a.ops.magnitude (meaning t)) z) k)) (sym q) (s k)))) h

  -- where it is a list of values, the shift is in bounds
  pub shift_bounded : (t : T) (xs bound : List T) (size : Meaning) (sizes : List Meaning) → size ≡ a.ops.magnitude (meaning t)
      → sizes ≡ map a.ops.magnitude (map meaning xs) → map meaning bound ≡ list_shift a.ops size sizes
      → ListShiftInBounds a (meaning t) (map meaning xs)
  shift_bounded t xs bound size sizes e f b k =
      let is : m bound ≡ list_shift a.ops (a.ops.magnitude (meaning t)) (map a.ops.magnitude (m xs)) =
      b ∙ ap (λ y. list_shift a.ops y sizes) e ∙ ap (list_shift a.ops (a.ops.magnitude (meaning t))) f in
      subst (λ y. a.ops.Fits (coefficient_at a.ops y k)) is (each_fits a meaning l.magnitudes.fits_nought fits bound k)

  pub shift_list_fault : (t : T) (by_ : Meaning) (xs : List T) (fault : RingFault) → meaning t ≡ by_
      → OnFault (¬ (ListShiftInBounds a (meaning t) (map meaning xs))) fault
      → OnFault (¬ (ListShiftInBounds a by_ (items (listed (map meaning xs))))) fault
  shift_list_fault t by_ xs fault w h =
      fault_weaker fault (λ n s. n (subst (λ z. ListShiftInBounds a z (m xs)) (sym w) (subst (λ z. ListShiftInBounds a by_ z) (are xs) s))) h

  pub shift_given : {Q : Type 0} (mean : Q → Meaning) (t : T) (by_ : ℤ) (xs : List T) (zs : List Meaning) (r : Result Q RingFault)
      → meaning t ≡ a.ops.whole by_ → length xs ≤ 256 → ListShiftInBounds a (meaning t) (map meaning xs)
      → zs ≡ list_shift a.ops (meaning t) (map meaning xs)
      → GivesInBounds mean (length (trimmed a.ops zs) ≤ 256) (listed (trimmed a.ops zs)) r
      → GivesInBounds mean (ListShiftInBounds a (a.ops.whole by_) (items (listed (map meaning xs))))
      (poly_shift a.ops by_ (listed (map meaning xs))) r
  shift_given mean t by_ xs zs (Ok q) w short b z h =
      let list : zs ≡ list_shift a.ops (a.ops.whole by_) (coefficients_of xs) =
      z ∙ ap (λ y. list_shift a.ops y (m xs)) w ∙ ap (list_shift a.ops (a.ops.whole by_)) (sym (are xs)) in (
        subst (λ y. ListShiftInBounds a y (coefficients_of xs)) w (subst (λ y. ListShiftInBounds a (meaning t) y) (sym (are xs)) b),
        h.1 ∙ ap (λ y. listed (trimmed a.ops y)) list,
      )
  shift_given mean t by_ xs zs (Err fault) w short b z h =
      let n : length zs ≡ length xs = ap length z ∙ length-list_shift a.ops (meaning t) (m xs) ∙ length-map xs meaning in
      fault_weaker fault (λ k. absurd (k (omega (arith, length-trimmed a.ops zs, n, short)))) h

-- a shift by the same number
pub shift_number : {Q : Type 0} (a : Algebra) (mean : Q → Meaning) (v w : ℤ) (m : Meaning) (r : Result Q RingFault) → v ≡ w
    → GivesInBounds mean (ListShiftInBounds a (a.ops.whole v) (items m)) (poly_shift a.ops v m) r
    → GivesInBounds mean (ListShiftInBounds a (a.ops.whole w) (items m)) (poly_shift a.ops w m) r
shift_number a mean v w m r e h = subst (λ z. GivesInBounds mean (ListShiftInBounds a (a.ops.whole z) (items m)) (poly_shift a.ops z m) r) e h
