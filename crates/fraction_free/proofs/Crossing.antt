-- p*x - e*y, from what the ring's calls answer: where its counterpart on magnitudes fits, so does each step.
use Rattle.std.proofs.Common.{◌≡◌, sym, subst, Result, Ok, Err, IsErrAnd}
use Rattle.ring_laws.specs.Meaning.{Meaning}
use Rattle.ring_laws.specs.Algebra.{Ops, Algebra, Passing, within, Laws, SumInBounds, ProductInBounds}
use Rattle.ring_laws.specs.Answer.{OnFault, fault_weaker, GivesInBounds}
use Rattle.ring_laws.specs.declared.faults.RingFault.{RingFault}
use Rattle.poly_laws.proofs.ListMagnitudes.{covers_sums, left_part, right_part, fits_covered_magnitude}
use Rattle.poly_generic.specs.ListAnswer.{GivesValue}
use Rattle.kernel_laws.specs.RowSteps.{cross, CrossInBounds}

pub fault_value : {T : Type 0} (meaning : T → Meaning) (InBounds : Type 0) (m : Meaning) (r : Result T RingFault) (fault : RingFault)
    → IsErrAnd r (λ e. e ≡ fault) → OnFault (¬ InBounds) fault → GivesValue meaning InBounds m r
fault_value meaning InBounds m (Ok v) fault e h = absurd e
fault_value meaning InBounds m (Err d) fault e h = subst (OnFault (¬ InBounds)) (sym e) h

module _ (a : Algebra) (l : Laws a) (p x e y : Passing a) where
  abbrev W : Ops (Passing a)
  W = within a l.closed

  abbrev left : Passing a
  left = W.product (W.magnitude p) (W.magnitude x)

  abbrev right : Passing a
  right = W.product (W.magnitude e) (W.magnitude y)

  abbrev InBounds : Type 0
  InBounds = CrossInBounds a p.0 x.0 e.0 y.0

  pub left_in_bounds : InBounds → ProductInBounds a p.0 x.0
  left_in_bounds h =
      fits_covered_magnitude W l.ring l.magnitudes (W.sum left right) left h
      (left_part W l.ring l.magnitudes left right (l.magnitudes.of_product e y)) (l.magnitudes.of_product p x)

  right_in_bounds : InBounds → ProductInBounds a e.0 y.0
  right_in_bounds h =
      fits_covered_magnitude W l.ring l.magnitudes (W.sum left right) right h
      (right_part W l.ring l.magnitudes left right (l.magnitudes.of_product p x)) (l.magnitudes.of_product e y)

  difference_in_bounds : InBounds → SumInBounds a (a.ops.product p.0 x.0) (a.ops.product e.0 y.0)
  difference_in_bounds h =
      fits_covered_magnitude W l.ring l.magnitudes (W.sum left right)
      (W.sum (W.magnitude (W.product p x)) (W.magnitude (W.product e y))) h
      (covers_sums W l.ring l.magnitudes left (W.magnitude (W.product p x)) right (W.magnitude (W.product e y))
      (l.magnitudes.product_covers p x) (l.magnitudes.product_covers e y))
      (l.magnitudes.of_sum (W.product p x) (W.product e y))

  pub left_not : (fault : RingFault) → OnFault (¬ (ProductInBounds a p.0 x.0)) fault → OnFault (¬ InBounds) fault
  left_not fault h = fault_weaker fault (λ n t. n (left_in_bounds t)) h

  pub right_not : (fault : RingFault) → OnFault (¬ (ProductInBounds a e.0 y.0)) fault → OnFault (¬ InBounds) fault
  right_not fault h = fault_weaker fault (λ n t. n (right_in_bounds t)) h

  pub difference : {T : Type 0} (meaning : T → Meaning) (px ey : T) (r : Result T RingFault) → meaning px ≡ a.ops.product p.0 x.0
      → meaning ey ≡ a.ops.product e.0 y.0
      → GivesInBounds meaning (SumInBounds a (meaning px) (meaning ey)) (a.ops.sum (meaning px) (a.ops.neg (meaning ey))) r
      → GivesValue meaning InBounds (cross a.ops p.0 x.0 e.0 y.0) r
  difference meaning px ey (Ok v) f g h = cc (h.1, f, g)
  difference meaning px ey (Err fault) f g h =
      fault_weaker fault (λ n t. n (subst (λ u. SumInBounds a u (meaning ey)) (sym f)
      (subst (λ u. SumInBounds a (a.ops.product p.0 x.0) u) (sym g) (difference_in_bounds t)))) h
