-- What the functions over lists of coefficients answer, from what the ring's calls answer.
use Rattle.std.proofs.Common.{◌≡◌, ℕ, ◌<◌, ◌≤◌, ◌+◌, List, [], ◌∷◌, ◌++◌, map, length, get_or, take, sym, ap, ◌∙◌, subst, arith, Result, Ok, Err, Vec, IsErrAnd}
use Rattle.std.proofs.lemmas.List.{length-map, get_or-map, map_push, take_more}
use Rattle.ring_laws.specs.declared.faults.RingFault.{RingFault}
use Rattle.poly_generic.specs.ListAnswer.{GivesList, GivesListInBounds}
use Rattle.poly_laws.specs.Bounds.{SumInBoundsAt, ListSumInBounds, ScalingInBounds}
use Rattle.poly_laws.specs.Lists.{coefficient_at, list_sum}
use Rattle.ring_laws.specs.Algebra.{Algebra, SumInBounds, ProductInBounds}
use Rattle.ring_laws.specs.Answer.{OnFault, Gives, GivesInBounds, fault_weaker}
use Rattle.ring_laws.specs.Meaning.{Meaning}
use Rattle.poly_generic.proofs.ListLemmas.{sum_both, sum_left, sum_right, at_item}

module _ {T : Type 0} (a : Algebra) (meaning : T → Meaning) where
  -- the sum of a coefficient of xs and one of zs, which stand for ys or their negatives: where the first is missing, the second, and both
  pub given_right : (xs ys : List T) (zs : List Meaning) (i : ℕ) (z : Meaning) (r : Result T RingFault) → length xs ≤ i
      → coefficient_at a.ops zs i ≡ z → Gives meaning z r
      → GivesInBounds meaning (SumInBoundsAt a (map meaning xs) (map meaning ys) i)
      (coefficient_at a.ops (list_sum a.ops (map meaning xs) zs) i) r
  given_right xs ys zs i z (Ok v) p e h = (
    (λ b c. absurd (omega (arith, length-map xs meaning))),
    h ∙ sym (sum_right a.ops (map meaning xs) zs i (omega (arith, length-map xs meaning)) ∙ e),
  )
  given_right xs ys zs i z (Err fault) p e h = fault_weaker fault absurd h

  pub given_left : (xs ys : List T) (zs : List Meaning) (i : ℕ) (x : T) (r : Result T RingFault) → length zs ≡ length ys → length ys ≤ i
      → i < length xs → x ≡ get_or xs i x → Gives meaning (meaning x) r
      → GivesInBounds meaning (SumInBoundsAt a (map meaning xs) (map meaning ys) i)
      (coefficient_at a.ops (list_sum a.ops (map meaning xs) zs) i) r
  given_left xs ys zs i x (Ok v) n p q e h = (
    (λ b c. absurd (omega (arith, length-map ys meaning))),
    h ∙ sym (sum_left a.ops (map meaning xs) zs i (omega (arith, n)) ∙ at_item a.ops meaning xs i x q e),
  )
  given_left xs ys zs i x (Err fault) n p q e h = fault_weaker fault absurd h

  pub given_both : (xs ys : List T) (zs : List Meaning) (i : ℕ) (x y : T) (z : Meaning) (r : Result T RingFault) → length zs ≡ length ys
      → i < length xs → i < length ys → x ≡ get_or xs i x → y ≡ get_or ys i y → coefficient_at a.ops zs i ≡ z
      → GivesInBounds meaning (SumInBounds a (meaning x) (meaning y)) (a.ops.sum (meaning x) z) r
      → GivesInBounds meaning (SumInBoundsAt a (map meaning xs) (map meaning ys) i)
      (coefficient_at a.ops (list_sum a.ops (map meaning xs) zs) i) r
  given_both xs ys zs i x y z (Ok v) n p q e f w h =
      let s = at_item a.ops meaning xs i x p e in
      let t = at_item a.ops meaning ys i y q f in (
        (λ b c. subst (λ u. SumInBounds a u (coefficient_at a.ops (map meaning ys) i)) (sym s)
            (subst (λ u. SumInBounds a (meaning x) u) (sym t) h.0)),
        cc (
          h.1,
          s,
          w,
          sum_both a.ops (map meaning xs) zs i (omega (arith, length-map xs meaning)) (omega (arith, n)),
        ),
      )
  given_both xs ys zs i x y z (Err fault) n p q e f w h =
      let s = at_item a.ops meaning xs i x p e in
      let t = at_item a.ops meaning ys i y q f in
      fault_weaker fault
      (λ n b. n (subst (λ u. SumInBounds a u (meaning y)) s
      (subst (λ u. SumInBounds a (coefficient_at a.ops (map meaning xs) i) u) t
      (b (omega (arith, length-map xs meaning)) (omega (arith, length-map ys meaning)))))) h

  -- the negative of a coefficient
  pub negative_at : (ys : List T) (i : ℕ) (y : T) → i < length ys → y ≡ get_or ys i y
      → coefficient_at a.ops (map a.ops.neg (map meaning ys)) i ≡ a.ops.neg (meaning y)
  negative_at ys i y p e =
      get_or-map a.ops.neg (map meaning ys) i a.ops.nought a.ops.nought (omega (arith, p, length-map ys meaning))
      ∙ ap a.ops.neg (at_item a.ops meaning ys i y p e)

  pub length-negatives : (ys : List T) → length (map a.ops.neg (map meaning ys)) ≡ length ys
  length-negatives ys = length-map (map meaning ys) a.ops.neg ∙ length-map ys meaning

  -- what the exit of a `?` returns
  pub fault_list : {Z : Type 0} (InBounds : Type 0) (ms : List Meaning) (r : Result (Vec T Z) RingFault) (fault : RingFault)
      → IsErrAnd r (λ e. e ≡ fault) → OnFault (¬ InBounds) fault → GivesList meaning InBounds ms r
  fault_list InBounds ms (Ok v) fault e h = absurd e
  fault_list InBounds ms (Err d) fault e h = subst (OnFault (¬ InBounds)) (sym e) h

  pub fault_list_in_bounds : {Z : Type 0} (InBounds : Type 0) (ms : List Meaning) (r : Result (Vec T Z) RingFault) (fault : RingFault)
      → IsErrAnd r (λ e. e ≡ fault) → OnFault (¬ InBounds) fault → GivesListInBounds meaning InBounds ms r
  fault_list_in_bounds InBounds ms (Ok v) fault e h = absurd e
  fault_list_in_bounds InBounds ms (Err d) fault e h = subst (OnFault (¬ InBounds)) (sym e) h

  -- a list that is known to be in bounds
  pub list_in_bounds : {Z : Type 0} (InBounds : Type 0) (ms : List Meaning) (r : Result (Vec T Z) RingFault) → InBounds
      → GivesList meaning InBounds ms r → GivesListInBounds meaning InBounds ms r
  list_in_bounds InBounds ms (Ok v) b h = (b, h)
  list_in_bounds InBounds ms (Err fault) b h = h

  -- one more item
  pub push_made : (zs : List Meaning) (out new : List T) (item : T) (i : ℕ) (d : Meaning) → new ≡ out ++ item ∷ [] → map meaning out ≡ take i zs
      → meaning item ≡ get_or zs i d → i < length zs → map meaning new ≡ take (i + 1) zs
  push_made zs out new item i d e f h b = cc (ap (map meaning) e, map_push meaning out item, f, h, take_more zs i d b)

  pub sums_fault : (xs ys : List Meaning) (i : ℕ) (fault : RingFault) → OnFault (¬ (SumInBoundsAt a xs ys i)) fault
      → OnFault (¬ (ListSumInBounds a xs ys)) fault
  sums_fault xs ys i fault h = fault_weaker fault (λ n b. n (b i)) h

  pub scale_fault : (x : Meaning) (ys : List T) (i : ℕ) (y : T) (fault : RingFault) → i < length ys → y ≡ get_or ys i y
      → OnFault (¬ (ProductInBounds a x (meaning y))) fault → OnFault (¬ (ScalingInBounds a x (map meaning ys))) fault
  scale_fault x ys i y fault p e h =
      fault_weaker fault (λ n b.
      n (subst (λ u. ProductInBounds a x u) (at_item a.ops meaning ys i y p e) (b i (omega (arith, length-map ys meaning))))) h
