-- What sums and differences of two products answer, from what the ring's calls answer.
use Rattle.std.proofs.Common.{◌≡◌, IsTrue, sym, ap, ◌∙◌, subst, Result, Ok, Err}
use mathlib.Core.Path.{ap₂}
use Rattle.ring_laws.specs.declared.faults.RingFault.{RingFault}
use Rattle.ring_laws.specs.Meaning.{Meaning}
use Rattle.ring_laws.specs.Algebra.{Ops, Algebra, Passing, within, Laws, SumInBounds, ProductInBounds}
use Rattle.ring_laws.specs.Answer.{OnFault, GivesInBounds, fault_weaker}
use Rattle.poly_fraction.specs.FractionAnswer.{ProductsInBounds}
use Rattle.poly_fraction.proofs.TwoProducts.{size_twice, sizes_twice, left_fits, right_fits, sum_fits}

module _ {T : Type 0} (a : Algebra) (l : Laws a) (meaning : T → Meaning) (passes : (x : T) → IsTrue (a.passes (meaning x))) where
  abbrev base : Ops (Passing a)
  base = within a l.closed

  abbrev value : T → Passing a
  value x = (meaning x, passes x)

  abbrev size : T → T → Meaning
  size x y = a.ops.product (a.ops.magnitude (meaning x)) (a.ops.magnitude (meaning y))

  abbrev InBounds : T → T → T → T → Type 0
  InBounds x y z w = ProductsInBounds a (meaning x) (meaning y) (meaning z) (meaning w)

  -- the product of two magnitudes is in bounds where the product is
  of_magnitudes : (x y : T) (p q : Meaning) → p ≡ a.ops.magnitude (meaning x) → q ≡ a.ops.magnitude (meaning y)
      → a.ops.Fits (size x y) → ProductInBounds a p q
  of_magnitudes x y p q e f h =
      subst a.ops.Fits (sym (ap₂ (λ s t. a.ops.product (a.ops.magnitude s) (a.ops.magnitude t)) e f
      ∙ ap (λ (t : Passing a). t.0) (size_twice base l.ring l.magnitudes (value x) (value y)))) h

  pub left_size_fault : (x y z w : T) (p q : Meaning) (fault : RingFault) → p ≡ a.ops.magnitude (meaning x) → q ≡ a.ops.magnitude (meaning y)
      → OnFault (¬ (ProductInBounds a p q)) fault → OnFault (¬ (InBounds x y z w)) fault
  left_size_fault x y z w p q fault e f h =
      fault_weaker fault (λ n b.
      n (of_magnitudes x y p q e f (left_fits base l.ring l.magnitudes (value x) (value y) (value z) (value w) b))) h

  pub right_size_fault : (x y z w : T) (p q : Meaning) (fault : RingFault) → p ≡ a.ops.magnitude (meaning z) → q ≡ a.ops.magnitude (meaning w)
      → OnFault (¬ (ProductInBounds a p q)) fault → OnFault (¬ (InBounds x y z w)) fault
  right_size_fault x y z w p q fault e f h =
      fault_weaker fault (λ n b.
      n (of_magnitudes z w p q e f (right_fits base l.ring l.magnitudes (value x) (value y) (value z) (value w) b))) h

  -- the sum of the products of the magnitudes
  pub size_given : (x y z w : T) (p q : Meaning) (r : Result T RingFault) → p ≡ size x y → q ≡ size z w
      → GivesInBounds meaning (SumInBounds a p q) (a.ops.sum p q) r
      → GivesInBounds meaning (InBounds x y z w) (a.ops.sum (size x y) (size z w)) r
  size_given x y z w p q (Ok v) e f h = (
    subst a.ops.Fits (sizes x y z w p q e f) h.0,
    h.1 ∙ ap₂ a.ops.sum e f,
  )
    where
      sizes : (x y z w : T) (p q : Meaning) → p ≡ size x y → q ≡ size z w
          → a.ops.sum (a.ops.magnitude p) (a.ops.magnitude q) ≡ a.ops.sum (size x y) (size z w)
      sizes x y z w p q e f =
          ap₂ (λ s t. a.ops.sum (a.ops.magnitude s) (a.ops.magnitude t)) e f
          ∙ ap (λ (t : Passing a). t.0) (sizes_twice base l.ring l.magnitudes (value x) (value y) (value z) (value w))
  size_given x y z w p q (Err fault) e f h =
      fault_weaker fault (λ n b. n (subst a.ops.Fits (sym (ap₂ (λ s t. a.ops.sum (a.ops.magnitude s) (a.ops.magnitude t)) e f
      ∙ ap (λ (t : Passing a). t.0) (sizes_twice base l.ring l.magnitudes (value x) (value y) (value z) (value w)))) b)) h

  -- where the counterpart fits, each step is in bounds
  pub left_fault : (x y z w : T) (fault : RingFault) → OnFault (¬ (ProductInBounds a (meaning x) (meaning y))) fault
      → OnFault (¬ (InBounds x y z w)) fault
  left_fault x y z w fault h =
      fault_weaker fault (λ n b. n (left_fits base l.ring l.magnitudes (value x) (value y) (value z) (value w) b)) h

  pub right_fault : (x y z w : T) (fault : RingFault) → OnFault (¬ (ProductInBounds a (meaning z) (meaning w))) fault
      → OnFault (¬ (InBounds x y z w)) fault
  right_fault x y z w fault h =
      fault_weaker fault (λ n b. n (right_fits base l.ring l.magnitudes (value x) (value y) (value z) (value w) b)) h

  -- the last step, for a sum and a difference alike
  pub last_given : (Last : Meaning → Meaning → Meaning) (x y z w : T) (p q : Meaning) (r : Result T RingFault)
      → p ≡ a.ops.product (meaning x) (meaning y) → q ≡ a.ops.product (meaning z) (meaning w) → InBounds x y z w
      → GivesInBounds meaning (SumInBounds a p q) (Last p q) r
      → GivesInBounds meaning (InBounds x y z w) (Last (a.ops.product (meaning x) (meaning y)) (a.ops.product (meaning z) (meaning w))) r
  last_given Last x y z w p q (Ok v) e f b h = (b, h.1 ∙ ap₂ Last e f)
  last_given Last x y z w p q (Err fault) e f b h =
      fault_weaker fault (λ n c. n (subst a.ops.Fits (sym (ap₂ (λ s t. a.ops.sum (a.ops.magnitude s) (a.ops.magnitude t)) e f))
      (sum_fits base l.ring l.magnitudes (value x) (value y) (value z) (value w) c))) h
