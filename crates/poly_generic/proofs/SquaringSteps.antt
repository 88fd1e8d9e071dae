-- The steps of the loop that multiplies by squares, and what a refused step says of the whole product.
use Rattle.std.specs.Prelude.{◌≡◌, ◌≢◌, ℕ, zero, suc, ◌+◌, ◌/◌, ◌%◌, ◌<◌, Result, Ok, Err}
use Rattle.std.proofs.Common.{sym, subst, arith, IsErrAnd}
use Rattle.ring_laws.specs.Meaning.{Meaning}
use Rattle.ring_laws.specs.Algebra.{Algebra, Laws, Passing, ProductInBounds}
use Rattle.ring_laws.specs.Answer.{OnFault, fault_weaker}
use Rattle.ring_laws.specs.declared.faults.RingFault.{RingFault}
use Rattle.poly_laws.specs.Powers.{power_in, nonzero_magnitude, IsBound}
use Rattle.poly_generic.specs.PowerAnswer.{GivesTimes}
use Rattle.poly_laws.proofs.Squaring.{Reached, odd_reached, square_reached, odd_refused, square_refused}

module _ (a : Algebra) (l : Laws a) where
  -- a step of the loop: an odd power gives a factor to the product, and half of the rest is left twice
  pub odd_halved : (m0 b0 : Meaning) (power : ℕ) (x y : Passing a) (left : ℕ) (m : Meaning) (different : a.ops.unit ≢ a.ops.nought)
      → Reached a m0 b0 power x.0 y.0 left → left % 2 ≡ 1 → m ≡ a.ops.product x.0 y.0 → Reached a m0 b0 power m y.0 (left / 2 + left / 2)
  odd_halved m0 b0 power x y left m different r odd e =
      let h : left ≡ suc (left / 2 + left / 2) = omega arith in
      subst (λ t. Reached a m0 b0 power t y.0 (left / 2 + left / 2)) (sym e)
      (odd_reached a l m0 b0 power x y (left / 2 + left / 2) different (subst (λ n. Reached a m0 b0 power x.0 y.0 n) h r))

  pub even_halved : (m0 b0 : Meaning) (power : ℕ) (x b : Meaning) (left : ℕ) (m : Meaning)
      → Reached a m0 b0 power x b left → ¬ (left % 2 ≡ 1) → m ≡ x → Reached a m0 b0 power m b (left / 2 + left / 2)
  even_halved m0 b0 power x b left m r even e =
      let h : left ≡ left / 2 + left / 2 = omega arith in
      subst (λ t. Reached a m0 b0 power t b (left / 2 + left / 2)) (sym e) (subst (λ n. Reached a m0 b0 power x b n) h r)

  pub squared : (m0 b0 : Meaning) (power : ℕ) (m : Meaning) (y : Passing a) (n : ℕ) (b : Meaning) (different : a.ops.unit ≢ a.ops.nought)
      → Reached a m0 b0 power m y.0 (n + n) → b ≡ a.ops.product y.0 y.0 → Reached a m0 b0 power m b n
  squared m0 b0 power m y n b different r e = subst (λ t. Reached a m0 b0 power m t n) (sym e) (square_reached a l m0 b0 power m y n different r)

  pub none_left : (m0 b0 : Meaning) (power : ℕ) (m b : Meaning) (n : ℕ) → Reached a m0 b0 power m b (n + n) → n ≡ 0 → Reached a m0 b0 power m b n
  none_left m0 b0 power m b n r e =
      let h : n + n ≡ n = omega arith in
      subst (λ t. Reached a m0 b0 power m b t) h r

  -- what a refused step says of the whole
  pub odd_fault : (m0 b0 : Meaning) (power : ℕ) (x y : Passing a) (left : ℕ) (different : a.ops.unit ≢ a.ops.nought) (fault : RingFault)
      → Reached a m0 b0 power x.0 y.0 left → 0 < left → OnFault (¬ ProductInBounds a x.0 y.0) fault
      → OnFault ((bound : Passing a) → IsBound a bound m0
      → ¬ a.ops.Fits (a.ops.product bound.0 (power_in a.ops (nonzero_magnitude a.ops b0) power))) fault
  odd_fault m0 b0 power x y zero different fault r some h = absurd (omega arith)
  odd_fault m0 b0 power x y (suc n) different fault r some h = fault_weaker fault (λ out. odd_refused a l m0 b0 power x y n different r out) h

  pub square_fault : (m0 b0 : Meaning) (power : ℕ) (x y : Passing a) (left : ℕ) (different : a.ops.unit ≢ a.ops.nought) (fault : RingFault)
      → Reached a m0 b0 power x.0 y.0 (left + left) → 0 < left → OnFault (¬ ProductInBounds a y.0 y.0) fault
      → OnFault ((bound : Passing a) → IsBound a bound m0
      → ¬ a.ops.Fits (a.ops.product bound.0 (power_in a.ops (nonzero_magnitude a.ops b0) power))) fault
  square_fault m0 b0 power x y zero different fault r some h = absurd (omega arith)
  square_fault m0 b0 power x y (suc n) different fault r some h = fault_weaker fault (λ out. square_refused a l m0 b0 power x y n different r out) h

-- a fault that is passed on
pub fault_times : {T : Type 0} (meaning : T → Meaning) (a : Algebra) (m f bound : Meaning) (r : Result T RingFault) (fault : RingFault)
    → IsErrAnd r (λ e. e ≡ fault) → OnFault ((b : Passing a) → IsBound a b m → ¬ a.ops.Fits (a.ops.product b.0 bound)) fault
    → GivesTimes meaning a m f bound r
fault_times meaning a m f bound (Ok x) fault e h = absurd e
fault_times meaning a m f bound (Err y) fault e h =
    subst (λ t. OnFault ((b : Passing a) → IsBound a b m → ¬ a.ops.Fits (a.ops.product b.0 bound)) t) (sym e) h
