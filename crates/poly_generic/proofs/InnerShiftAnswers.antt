-- What the shift of each coefficient answers.
use Rattle.std.proofs.Common.{◌≡◌, ℕ, ◌<◌, ◌≤◌, List, [], ◌∷◌, ◌++◌, ◌+◌, take, map, length, get_or, sym, ap, ◌∙◌, subst, arith, ⊎_elim, Result, Ok, Err, Vec, IsErrAnd, ℤ}
use Rattle.std.proofs.lemmas.Bool.{cases_lt}
use Rattle.std.proofs.lemmas.List.{length-map, map_more, map_push}
use Rattle.ring_laws.specs.Algebra.{Algebra, Laws}
use Rattle.ring_laws.specs.Answer.{OnFault, GivesInBounds, fault_weaker}
use Rattle.ring_laws.specs.Meaning.{Meaning, listed, items, parted-joined}
use Rattle.ring_laws.specs.declared.faults.RingFault.{RingFault}
use Rattle.poly_laws.specs.Lists.{coefficient_at, trimmed}
use Rattle.poly_laws.specs.PolyAlgebra.{poly_ops}
use Rattle.poly_laws.specs.Shift.{poly_shift, inner_shift, ListShiftInBounds, InnerShiftInBounds}
use Rattle.poly_laws.proofs.Trimming.{beyond, length-trimmed}
use Rattle.poly_generic.proofs.ListLemmas.{at_item}
use Rattle.poly_generic.specs.ListAnswer.{GivesListInBounds}

-- the shift of the coefficient at a power is in bounds
abbrev pub InBoundsAt : Algebra → Meaning → List Meaning → ℕ → Type 0
InBoundsAt a t xs k = ListShiftInBounds a t (items (coefficient_at (poly_ops a.ops) xs k))

module _ (a : Algebra) (l : Laws a) (t : Meaning) where
  -- past the end there is nothing to shift
  pub in_bounds_all : (xs : List Meaning) (n : ℕ) → length xs ≤ n → ((k : ℕ) → k < n → InBoundsAt a t xs k) → InnerShiftInBounds a t xs
  in_bounds_all xs n h each k = ⊎_elim (λ b. each k b)
      (λ b. subst (λ m. ListShiftInBounds a t (items m)) (sym (beyond (poly_ops a.ops) xs k (omega arith))) (λ j. l.magnitudes.fits_nought))
      (cases_lt k n)

  -- a coefficient that is out of bounds
  pub shift_fault : {T : Type 0} (meaning : T → Meaning) (xs : List T) (i : ℕ) (x : T) (fault : RingFault) → i < length xs → x ≡ get_or xs i x
      → OnFault (¬ (ListShiftInBounds a t (items (meaning x)))) fault → OnFault (¬ (InnerShiftInBounds a t (map meaning xs))) fault
  shift_fault meaning xs i x fault b e h =
      fault_weaker fault (λ n all. n (subst (λ m. ListShiftInBounds a t (items m)) (at_item (poly_ops a.ops) meaning xs i x b e) (all i))) h

  -- a coefficient that is in bounds
  pub shift_at : {T : Type 0} (meaning : T → Meaning) (xs : List T) (i : ℕ) (x : T) → i < length xs → x ≡ get_or xs i x
      → ListShiftInBounds a t (items (meaning x)) → InBoundsAt a t (map meaning xs) i
  shift_at meaning xs i x b e h = subst (λ m. ListShiftInBounds a t (items m)) (sym (at_item (poly_ops a.ops) meaning xs i x b e)) h

-- one more item
pub one_shifted : {T : Type 0} (meaning : T → Meaning) (f : Meaning → Meaning) (xs out new : List T) (i : ℕ) (x y : T) → i < length xs
    → x ≡ get_or xs i x → new ≡ out ++ y ∷ [] → meaning y ≡ f (meaning x) → map meaning out ≡ map f (map meaning (take i xs))
    → map meaning new ≡ map f (map meaning (take (i + 1) xs))
one_shifted meaning f xs out new i x y b is e g h =
    cc (
      ap (map meaning) e,
      map_push meaning out y,
      h,
      g,
      ap meaning is,
      ap (map f) (map_more meaning xs i x b),
      map_push f (map meaning (take i xs)) (meaning (get_or xs i x)),
    )

-- what the exit of a `?` returns
pub fault_shifts : {T Z : Type 0} (meaning : T → Meaning) (InBounds : Type 0) (ms : List Meaning) (r : Result (Vec T Z) RingFault) (fault : RingFault)
    → IsErrAnd r (λ e. e ≡ fault) → OnFault (¬ InBounds) fault → GivesListInBounds meaning InBounds ms r
fault_shifts meaning InBounds ms (Ok v) fault e h = absurd e
fault_shifts meaning InBounds ms (Err d) fault e h = subst (OnFault (¬ InBounds)) (sym e) h

-- the polynomial of the shifted coefficients
pub inner_given : {Q : Type 0} (a : Algebra) (mean : Q → Meaning) (t : Meaning) (w : ℤ) (ms zs : List Meaning) (r : Result Q RingFault)
    → length ms ≤ 256 → zs ≡ map (poly_shift a.ops w) ms → InnerShiftInBounds a t ms
    → GivesInBounds mean (length (trimmed (poly_ops a.ops) zs) ≤ 256) (listed (trimmed (poly_ops a.ops) zs)) r
    → GivesInBounds mean (InnerShiftInBounds a t (items (listed ms))) (inner_shift a.ops w (listed ms)) r
inner_given a mean t w ms zs (Ok q) b e inside h = (
  subst (InnerShiftInBounds a t) (sym (parted-joined ms)) inside,
  h.1
      ∙ ap (λ s. listed (trimmed (poly_ops a.ops) s)) (e ∙ ap (map (poly_shift a.ops w)) (sym (parted-joined ms))),
)
inner_given a mean t w ms zs (Err fault) b e inside h =
    fault_weaker fault (λ n. absurd (n (omega (arith, length-trimmed (poly_ops a.ops) zs, ap length e, length-map ms (poly_shift a.ops w))))) h

pub inner_fault : {Q : Type 0} (a : Algebra) (mean : Q → Meaning) (t m : Meaning) (ms : List Meaning) (r : Result Q RingFault) (fault : RingFault)
    → IsErrAnd r (λ e. e ≡ fault) → OnFault (¬ (InnerShiftInBounds a t ms)) fault → GivesInBounds mean (InnerShiftInBounds a t (items (listed ms))) m r
inner_fault a mean t m ms (Ok q) fault e h = absurd e
inner_fault a mean t m ms (Err d) fault e h =
    subst (λ xs. OnFault (¬ (InnerShiftInBounds a t xs)) d) (sym (parted-joined ms)) (subst (OnFault (¬ (InnerShiftInBounds a t ms))) (sym e) h)
