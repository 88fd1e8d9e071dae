-- Polynomials at k+w: sums, products and shifts of shifts.
use Rattle.std.specs.Prelude.{◌≡◌, ℤ, pos, ◌+ℤ◌, neg_ℤ}
use Rattle.std.proofs.Common.{ap, sym, ◌∙◌, arith}
use Rattle.std.proofs.lemmas.Int.{ints}
use Rattle.ring_laws.specs.Algebra.{Ops, RingLaws, Algebra, Passing, within, Laws}
use Rattle.poly_laws.specs.Lists.{coefficient_at, list_sum, list_product}
use Rattle.poly_laws.specs.Shift.{list_shift}
use Rattle.poly_laws.proofs.ListLaws.{at_sum}
use Rattle.poly_laws.proofs.OneQuotient.{cancel}
use Rattle.poly_laws.proofs.PolyLaws.{equal_coefficients, coefficient-sum, coefficient-product, coefficient-nought, product_same, poly_ring}
use Rattle.division_laws.specs.Polynomials.{Polynomial}
use Rattle.division_laws.proofs.Polynomials.{polynomials, list_of, part, shifted_in, shifted_at}
use Rattle.poly_laws.proofs.ShiftedCoefficients.{shifted_above, shifted_same, shifted_sum}
use Rattle.poly_laws.proofs.ShiftedProducts.{shifted_product, shifted_none}
use Rattle.poly_laws.proofs.ShiftsTwice.{shifted_twice, shifted_by_none}

module _ (a : Algebra) (l : Laws a) where
  abbrev base : Ops (Passing a)
  base = within a l.closed

  abbrev P : Ops (Polynomial a)
  P = polynomials a l

  abbrev pub at_later : ℤ → Polynomial a → Polynomial a
  at_later w f = shifted_in a l w f

  pub later_product : (w : ℤ) (f g : Polynomial a) → at_later w (P.product f g) ≡ P.product (at_later w f) (at_later w g)
  later_product w f g =
      let t : Passing a = base.whole w in
      equal_coefficients a l.closed l.ring (at_later w (P.product f g)) (P.product (at_later w f) (at_later w g))
      (λ k. shifted_at a l w (P.product f g) k
      ∙ shifted_same base l.ring t (list_of a l (P.product f g)) (list_product base (list_of a l f) (list_of a l g))
      (coefficient-product a l.closed l.ring f g) k
      ∙ shifted_product base l.ring t (list_of a l f) (list_of a l g) k
      ∙ sym (product_same a l.closed l.ring (at_later w f) (at_later w g) (list_shift base t (list_of a l f)) (list_shift base t (list_of a l g))
      (shifted_at a l w f) (shifted_at a l w g) k))

  pub later_sum : (w : ℤ) (f g : Polynomial a) → at_later w (P.sum f g) ≡ P.sum (at_later w f) (at_later w g)
  later_sum w f g =
      let t : Passing a = base.whole w in
      equal_coefficients a l.closed l.ring (at_later w (P.sum f g)) (P.sum (at_later w f) (at_later w g))
      (λ k. shifted_at a l w (P.sum f g) k
      ∙ shifted_same base l.ring t (list_of a l (P.sum f g)) (list_sum base (list_of a l f) (list_of a l g))
      (λ j. coefficient-sum a l.closed l.ring f g j ∙ sym (at_sum base l.ring (list_of a l f) (list_of a l g) j)) k
      ∙ shifted_sum base l.ring t (list_of a l f) (list_of a l g) k
      ∙ sym (cc (coefficient-sum a l.closed l.ring (at_later w f) (at_later w g) k, shifted_at a l w f k, shifted_at a l w g k)))

  pub later_none : (w : ℤ) → at_later w P.nought ≡ P.nought
  later_none w =
      equal_coefficients a l.closed l.ring (at_later w P.nought) P.nought
      (λ k. shifted_at a l w P.nought k
      ∙ shifted_above base l.ring (base.whole w) (list_of a l P.nought) 0 (λ i b. coefficient-nought a l.closed l.ring i) k (omega arith)
      ∙ sym (coefficient-nought a l.closed l.ring k))

  pub later_neg : (w : ℤ) (f : Polynomial a) → at_later w (P.neg f) ≡ P.neg (at_later w f)
  later_neg w f =
      let r : RingLaws P = poly_ring a l.closed l.ring in
      cancel P r (at_later w (P.neg f)) (P.neg (at_later w f)) (at_later w f)
      (sym (later_sum w (P.neg f) f) ∙ ap (at_later w) (r.sum_comm (P.neg f) f ∙ r.sum_neg f) ∙ later_none w
      ∙ sym (r.sum_comm (P.neg (at_later w f)) (at_later w f) ∙ r.sum_neg (at_later w f)))

  pub later_twice : (z y : ℤ) (f : Polynomial a) → at_later z (at_later y f) ≡ at_later (y +ℤ z) f
  later_twice z y f =
      equal_coefficients a l.closed l.ring (at_later z (at_later y f)) (at_later (y +ℤ z) f)
      (λ k. shifted_at a l z (at_later y f) k
      ∙ shifted_same base l.ring (base.whole z) (list_of a l (at_later y f)) (list_shift base (base.whole y) (list_of a l f)) (shifted_at a l y f) k
      ∙ shifted_twice base l.ring (base.whole z) (base.whole y) (list_of a l f) k
      ∙ ap (λ t. coefficient_at base (list_shift base t (list_of a l f)) k) (sym (l.ring.whole_sum y z))
      ∙ sym (shifted_at a l (y +ℤ z) f k))

  pub later_by_none : (f : Polynomial a) → at_later (pos 0) f ≡ f
  later_by_none f =
      equal_coefficients a l.closed l.ring (at_later (pos 0) f) f
      (λ k. shifted_at a l (pos 0) f k
      ∙ ap (λ t. coefficient_at base (list_shift base t (list_of a l f)) k) l.ring.whole_zero
      ∙ shifted_by_none base l.ring (list_of a l f) k)

  opposite : (z : ℤ) → neg_ℤ z +ℤ z ≡ pos 0
  opposite z = omega (arith, ints)

  pub forth_and_back : (z : ℤ) (f : Polynomial a) → at_later z (at_later (neg_ℤ z) f) ≡ f
  forth_and_back z f = later_twice z (neg_ℤ z) f ∙ ap (λ t. at_later t f) (opposite z) ∙ later_by_none f

  other_way : (z : ℤ) → z +ℤ neg_ℤ z ≡ pos 0
  other_way z = omega (arith, ints)

  pub back_and_forth : (z : ℤ) (f : Polynomial a) → at_later (neg_ℤ z) (at_later z f) ≡ f
  back_and_forth z f = later_twice (neg_ℤ z) z f ∙ ap (λ t. at_later t f) (other_way z) ∙ later_by_none f

  -- what is zero at k+w is zero
  pub later_nought : (w : ℤ) (f : Polynomial a) → at_later w f ≡ P.nought → f ≡ P.nought
  later_nought w f e =
      equal_coefficients a l.closed l.ring f P.nought
      (λ k. shifted_none base l.ring (base.whole w) (list_of a l f)
      (λ i. sym (shifted_at a l w f i) ∙ ap (λ t. part a l t i) e ∙ coefficient-nought a l.closed l.ring i) k
      ∙ sym (coefficient-nought a l.closed l.ring k))
