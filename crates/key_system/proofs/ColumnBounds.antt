-- Where |q| (k+1)^i + |b| k^i fits, each step of a column is in bounds: the shift, both products, and their difference.
use Rattle.std.specs.Prelude.{◌≡◌, ℕ, zero, suc, pos, Bool, true, false, cond, IsFalse, Result, List, [], ◌∷◌, map, refl}
use Rattle.std.proofs.Common.{ap, sym, ◌∙◌, subst}
use Rattle.ring_laws.specs.Meaning.{Meaning, items, parted-joined}
use Rattle.ring_laws.specs.Algebra.{Ops, RingLaws, MagnitudeLaws, Algebra, Passing, within, Laws, SumInBounds, ProductInBounds}
use Rattle.ring_laws.specs.Answer.{OnFault, fault_weaker, GivesInBounds}
use Rattle.ring_laws.specs.declared.faults.RingFault.{RingFault}
use Rattle.poly_laws.specs.Lists.{coefficient_at, in_front, trimmed}
use Rattle.poly_laws.specs.PolyAlgebra.{poly_algebra}
use Rattle.poly_laws.specs.Shift.{list_shift, poly_shift, ListShiftInBounds}
use Rattle.poly_laws.proofs.Coefficients.{poly_closed, meanings_same, meanings-magnitude, meanings-trimmed, meanings-coefficients}
use Rattle.poly_laws.proofs.Fitting.{coefficient-magnitude, meanings-at, fits_at}
use Rattle.poly_laws.proofs.ListMagnitudes.{magnitudes_of, fits_by}
use Rattle.poly_laws.proofs.PolyLaws.{poly_ring}
use Rattle.poly_laws.proofs.PolyMagnitudes.{poly_magnitudes}
use Rattle.poly_laws.proofs.ShiftsInBounds.{total_magnitude}
use Rattle.poly_laws.proofs.StepMeanings.{meanings-shift}
use Rattle.poly_generic.specs.ListAnswer.{GivesValue}
use Rattle.division_laws.proofs.Polynomials.{polynomials, list_of, part, listed_in, shifted_in, shifted_at}
use Rattle.fraction_free.proofs.Crossing.{left_in_bounds, left_not, right_not, difference}
use Rattle.key_laws.specs.KeyEquation.{key_difference}
use Rattle.key_laws.specs.KeyRows.{power_list, power_of_k}
use Rattle.key_laws.proofs.Columns.{power_meant}
use Rattle.key_system.specs.Reckoning.{ColumnInBounds}

module _ {A : Type 0} (o : Ops A) (l : RingLaws o) (m : MagnitudeLaws o) where
  unit_magnitude : o.magnitude o.unit ≡ o.unit
  unit_magnitude = ap o.magnitude (sym l.whole_one) ∙ m.of_whole (pos 1) ∙ l.whole_one

  one_kept : (b : Bool) (x : A) → o.magnitude x ≡ x → map o.magnitude (cond b [] (x ∷ [])) ≡ cond b [] (x ∷ [])
  one_kept true x e = refl
  one_kept false x e = ap (λ t. t ∷ []) e

  front_kept : (x : A) (xs : List A) → o.magnitude x ≡ x → map o.magnitude xs ≡ xs → map o.magnitude (in_front o x xs) ≡ in_front o x xs
  front_kept x [] e f = one_kept (o.is_nought x) x e
  front_kept x (y ∷ ys) e f = cc (e, f)

  -- the coefficients of k^n are their own magnitudes
  powers_kept : (n : ℕ) → map o.magnitude (trimmed o (power_list o n)) ≡ trimmed o (power_list o n)
  powers_kept zero = front_kept o.unit [] unit_magnitude refl
  powers_kept (suc n) = front_kept o.nought (trimmed o (power_list o n)) m.of_nought (powers_kept n)

  -- and where coefficients are, so are those of the polynomial at k + 1
  shift_kept : (xs : List A) → map o.magnitude xs ≡ xs → (k : ℕ)
      → coefficient_at o (list_shift o (o.magnitude (o.whole (pos 1))) (magnitudes_of o l m xs)) k
      ≡ o.magnitude (coefficient_at o (list_shift o (o.whole (pos 1)) xs) k)
  shift_kept xs e k =
      let same : list_shift o (o.magnitude (o.whole (pos 1))) (magnitudes_of o l m xs) ≡ list_shift o (o.whole (pos 1)) xs =
      cc (m.of_whole (pos 1), e) in
      sym (total_magnitude o l m (o.whole (pos 1)) xs k) ∙ ap (λ ys. o.magnitude (coefficient_at o ys k)) same

module _ (a : Algebra) (l : Laws a) (i : ℕ) where
  abbrev base : Ops (Passing a)
  base = within a l.closed

  abbrev P : Ops (Passing (poly_algebra a))
  P = polynomials a l

  abbrev L : Laws (poly_algebra a)
  L = record {
    closed = poly_closed a l.closed;
    ring = poly_ring a l.closed l.ring;
    magnitudes = poly_magnitudes a l.closed l.ring l.magnitudes;
  }

  -- k^i and (k+1)^i
  abbrev power : Passing (poly_algebra a)
  power = listed_in a l (power_list base i) (power_list a.ops i) (power_meant a l i)

  abbrev next : Passing (poly_algebra a)
  next = shifted_in a l (pos 1) power

  coefficients_are : list_of a l power ≡ trimmed base (power_list base i)
  coefficients_are =
      meanings_same a l.closed (list_of a l power) (trimmed base (power_list base i))
      (meanings-coefficients a l.closed power ∙ parted-joined (trimmed a.ops (power_list a.ops i))
      ∙ ap (trimmed a.ops) (sym (power_meant a l i)) ∙ sym (meanings-trimmed a l.closed (power_list base i)))

  coefficients_kept : map base.magnitude (list_of a l power) ≡ list_of a l power
  coefficients_kept = subst (λ xs. map base.magnitude xs ≡ xs) (sym coefficients_are) (powers_kept base l.ring l.magnitudes i)

  -- the shift of the magnitudes is the magnitude of (k+1)^i
  total_is : (k : ℕ)
      → coefficient_at a.ops (list_shift a.ops (a.ops.magnitude (a.ops.whole (pos 1))) (map a.ops.magnitude (items power.0))) k
      ≡ (part a l (P.magnitude next) k).0
  total_is k =
      let by : Passing a = base.magnitude (base.whole (pos 1)) in
      let sizes : List (Passing a) = magnitudes_of base l.ring l.magnitudes (list_of a l power) in
      ap (λ ys. coefficient_at a.ops (list_shift a.ops by.0 ys) k)
      (ap (map a.ops.magnitude) (sym (meanings-coefficients a l.closed power)) ∙ sym (meanings-magnitude a l.closed (list_of a l power)))
      ∙ ap (λ ys. coefficient_at a.ops ys k) (sym (meanings-shift a l by sizes))
      ∙ meanings-at a l.closed l.ring l.magnitudes (list_shift base by sizes) k
      ∙ ap (λ (t : Passing a). t.0) (shift_kept base l.ring l.magnitudes (list_of a l power) coefficients_kept k
      ∙ ap base.magnitude (sym (shifted_at a l (pos 1) power k)) ∙ sym (coefficient-magnitude a l.closed l.ring l.magnitudes next k))

  shift_in_bounds : P.Fits (P.magnitude next) → ListShiftInBounds a (a.ops.whole (pos 1)) (items power.0)
  shift_in_bounds h k = subst a.ops.Fits (sym (total_is k)) ((fits_at a l.closed l.ring l.magnitudes (P.magnitude next) h).each k)

  module _ (q b : Passing (poly_algebra a)) where
    abbrev InBounds : Type 0
    InBounds = ColumnInBounds a q.0 b.0 i

    -- (k+1)^i is a factor of what fits, and the other factor isn't zero
    next_in_bounds : IsFalse (P.is_nought q) → InBounds → ListShiftInBounds a (a.ops.whole (pos 1)) (items power.0)
    next_in_bounds n h =
        shift_in_bounds (L.magnitudes.fits_factor next q
        (fits_by P L.ring L.magnitudes (L.ring.product_comm (P.magnitude next) (P.magnitude q)) (left_in_bounds (poly_algebra a) L q next b power h))
        (λ e. cc (n, (L.ring.is_nought q).1 e)))

    pub next_fault : (y : Meaning) (fault : RingFault) → IsFalse (P.is_nought q) → y ≡ power_of_k a.ops i
        → OnFault (¬ (ListShiftInBounds a (a.ops.whole (pos 1)) (items y))) fault → OnFault (¬ InBounds) fault
    next_fault y fault n e h =
        fault_weaker fault (λ out t. out (subst (λ z. ListShiftInBounds a (a.ops.whole (pos 1)) (items z)) (sym e) (next_in_bounds n t))) h

    -- k^i and (k+1)^i as the calls give them
    module _ (y z : Meaning) (e : y ≡ power_of_k a.ops i) (f : z ≡ poly_shift a.ops (pos 1) y) where
      is_next : z ≡ next.0
      is_next = f ∙ ap (poly_shift a.ops (pos 1)) e

      pub left_fault : (fault : RingFault) → OnFault (¬ (ProductInBounds (poly_algebra a) q.0 z)) fault → OnFault (¬ InBounds) fault
      left_fault fault h =
          left_not (poly_algebra a) L q next b power fault (subst (λ t. OnFault (¬ (ProductInBounds (poly_algebra a) q.0 t)) fault) is_next h)

      pub right_fault : (fault : RingFault) → OnFault (¬ (ProductInBounds (poly_algebra a) b.0 y)) fault → OnFault (¬ InBounds) fault
      right_fault fault h =
          right_not (poly_algebra a) L q next b power fault (subst (λ t. OnFault (¬ (ProductInBounds (poly_algebra a) b.0 t)) fault) e h)

      pub column_given : {T : Type 0} (meaning : T → Meaning) (left right : T) (r : Result T RingFault) → meaning left ≡ (poly_algebra a).ops.product q.0 z
          → meaning right ≡ (poly_algebra a).ops.product b.0 y
          → GivesInBounds meaning (SumInBounds (poly_algebra a) (meaning left) (meaning right))
          ((poly_algebra a).ops.sum (meaning left) ((poly_algebra a).ops.neg (meaning right))) r
          → GivesValue meaning InBounds (key_difference a.ops q.0 b.0 (power_of_k a.ops i)) r
      column_given meaning left right r g h s =
          difference (poly_algebra a) L q next b power meaning left right r (g ∙ ap ((poly_algebra a).ops.product q.0) is_next)
          (h ∙ ap ((poly_algebra a).ops.product b.0) e) s
