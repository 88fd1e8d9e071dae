-- What `add` and `sub` of polynomials answer.
use Rattle.std.proofs.Common.{◌≡◌, ◌≤◌, IsTrue, List, map, length, sym, ap, ◌∙◌, subst, arith, Result, Ok, Err}
use Rattle.std.proofs.lemmas.List.{length-map}
use Rattle.ring_laws.specs.declared.faults.RingFault.{RingFault}
use Rattle.poly_laws.specs.Bounds.{ListSumInBounds}
use Rattle.poly_laws.specs.Lists.{coefficient_at, list_sum, trimmed, is_trimmed}
use Rattle.poly_laws.specs.PolyAlgebra.{poly_algebra}
use Rattle.ring_laws.specs.Algebra.{Ops, Algebra, Passing, within, Laws, SumInBounds}
use Rattle.ring_laws.specs.Answer.{OnFault, GivesInBounds, fault_weaker}
use Rattle.ring_laws.specs.Meaning.{Meaning, listed, items, parted-joined}
use Rattle.poly_generic.proofs.ListLemmas.{length-list_sum}
use Rattle.poly_generic.proofs.Senses.{same_items, meanings-senses}
use Rattle.poly_laws.proofs.Belonging.{value_passes, value_fits}
use Rattle.poly_laws.proofs.InBounds.{sums_in_bounds, in_bounds_sums}
use Rattle.poly_laws.proofs.Coefficients.{meanings_of, meanings-sum, meanings-neg, meanings-trimmed}
use Rattle.poly_laws.proofs.ListLaws.{at_sum}
use Rattle.poly_laws.proofs.Trimming.{length-trimmed, at_trimmed, trimmed_same}

module _ {T : Type 0} (a : Algebra) (l : Laws a) (meaning : T → Meaning)
    (passes : (x : T) → IsTrue (a.passes (meaning x))) (fits : (x : T) → a.ops.Fits (meaning x)) where
  abbrev m : List T → List Meaning
  m xs = map meaning xs

  abbrev senses : List T → List (Passing a)
  senses xs = map (λ x. (meaning x, passes x)) xs

  abbrev base : Ops (Passing a)
  base = within a l.closed

  abbrev Mean : List T → Meaning
  Mean xs = listed (m xs)

  abbrev Trimmed : List T → Type 0
  Trimmed xs = IsTrue (is_trimmed a.ops (m xs))

  abbrev value : (xs : List T) → Trimmed xs → Passing (poly_algebra a)
  value xs h = (listed (m xs), value_passes a meaning passes xs h)

  pub list_sum_in_bounds : (xs ys : List T) → Trimmed xs → Trimmed ys → SumInBounds (poly_algebra a) (Mean xs) (Mean ys)
      → ListSumInBounds a (m xs) (m ys)
  list_sum_in_bounds xs ys hx hy h =
      subst (λ t. ListSumInBounds a t (m ys)) (same_items a l meaning passes xs)
      (subst (λ t. ListSumInBounds a (items (Mean xs)) t) (same_items a l meaning passes ys) (sums_in_bounds a l (value xs hx) (value ys hy) h))

  pub sum_fault : (xs ys : List T) (fault : RingFault) → Trimmed xs → Trimmed ys → OnFault (¬ (ListSumInBounds a (m xs) (m ys))) fault
      → OnFault (¬ (SumInBounds (poly_algebra a) (Mean xs) (Mean ys))) fault
  sum_fault xs ys fault hx hy h = fault_weaker fault (λ n t. n (list_sum_in_bounds xs ys hx hy t)) h

  pub sum_in_bounds : (xs ys : List T) → Trimmed xs → Trimmed ys → length xs ≤ 256 → length ys ≤ 256 → ListSumInBounds a (m xs) (m ys)
      → SumInBounds (poly_algebra a) (Mean xs) (Mean ys)
  sum_in_bounds xs ys hx hy bx by_ h =
      in_bounds_sums a l (value xs hx) (value ys hy) (value_fits a l meaning fits xs bx) (value_fits a l meaning fits ys by_)
      (subst (λ t. ListSumInBounds a t (items (Mean ys))) (sym (same_items a l meaning passes xs))
      (subst (λ t. ListSumInBounds a (m xs) t) (sym (same_items a l meaning passes ys)) h))

  -- what is made of a list of coefficients that is as long as the longer of the two
  pub sum_given : {Q : Type 0} (mean : Q → Meaning) (xs ys : List T) (zs us : List Meaning) (m : Meaning) (r : Result Q RingFault) → Trimmed xs
      → Trimmed ys → length xs ≤ 256 → length ys ≤ 256 → ListSumInBounds a (map meaning xs) (map meaning ys) → length us ≡ length ys
      → zs ≡ list_sum a.ops (map meaning xs) us → listed (trimmed a.ops (list_sum a.ops (map meaning xs) us)) ≡ m
      → GivesInBounds mean (length (trimmed a.ops zs) ≤ 256) (listed (trimmed a.ops zs)) r
      → GivesInBounds mean (SumInBounds (poly_algebra a) (Mean xs) (Mean ys)) m r
  sum_given mean xs ys zs us m (Ok q) hx hy bx by_ s n e is h =
      (sum_in_bounds xs ys hx hy bx by_ s, h.1 ∙ ap (λ t. listed (trimmed a.ops t)) e ∙ is)
  sum_given mean xs ys zs us m (Err fault) hx hy bx by_ s n e is h =
      fault_weaker fault (λ k.
      absurd (k (omega (
        arith,
        length-trimmed a.ops zs,
        ap length e,
        length-list_sum a.ops (map meaning xs) us,
        length-map xs meaning,
        n,
      )))) h

  pub sum_is : (xs ys : List T) → listed (trimmed a.ops (list_sum a.ops (m xs) (m ys))) ≡ (poly_algebra a).ops.sum (Mean xs) (Mean ys)
  sum_is xs ys = cc (same_items a l meaning passes xs, same_items a l meaning passes ys)

  -- zeros at the end of a summand change nothing
  sum_trimmed : (us vs : List (Passing a)) → trimmed base (list_sum base us vs) ≡ trimmed base (list_sum base us (trimmed base vs))
  sum_trimmed us vs =
      trimmed_same base l.ring (list_sum base us vs) (list_sum base us (trimmed base vs))
      (λ k. at_sum base l.ring us vs k
      ∙ ap (base.sum (coefficient_at base us k)) (sym (at_trimmed base l.ring vs k))
      ∙ sym (at_sum base l.ring us (trimmed base vs) k))

  -- a difference is the sum with the negation
  pub difference_is : (xs ys : List T) → listed (trimmed a.ops (list_sum a.ops (m xs) (map a.ops.neg (m ys))))
      ≡ (poly_algebra a).ops.sum (Mean xs) ((poly_algebra a).ops.neg (Mean ys))
  difference_is xs ys =
      let us : List (Passing a) = senses xs in
      let vs : List (Passing a) = map base.neg (senses ys) in
      let x : meanings_of a l.closed us ≡ m xs = meanings-senses a l meaning passes xs in
      let y : meanings_of a l.closed vs ≡ map a.ops.neg (m ys) =
      meanings-neg a l.closed (senses ys) ∙ ap (map a.ops.neg) (meanings-senses a l meaning passes ys) in
      let left : meanings_of a l.closed (trimmed base (list_sum base us vs)) ≡ trimmed a.ops (list_sum a.ops (m xs) (map a.ops.neg (m ys))) =
      cc (meanings-trimmed a l.closed (list_sum base us vs), meanings-sum a l.closed us vs, x, y) in
      let right : meanings_of a l.closed (trimmed base (list_sum base us (trimmed base vs)))
      ≡ trimmed a.ops (list_sum a.ops (m xs) (trimmed a.ops (map a.ops.neg (m ys)))) =
      cc (
        meanings-trimmed a l.closed (list_sum base us (trimmed base vs)),
        meanings-sum a l.closed us (trimmed base vs),
        meanings-trimmed a l.closed vs,
        x,
        y,
      ) in
      let same : trimmed a.ops (list_sum a.ops (m xs) (map a.ops.neg (m ys)))
      ≡ trimmed a.ops (list_sum a.ops (m xs) (trimmed a.ops (map a.ops.neg (m ys)))) =
      sym left ∙ ap (meanings_of a l.closed) (sum_trimmed us vs) ∙ right in
      cc (same, same_items a l meaning passes xs, same_items a l meaning passes ys, parted-joined (trimmed a.ops (map a.ops.neg (m ys))))
