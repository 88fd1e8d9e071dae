-- What is left of a polynomial over a ring of forms, and of zero, where the forms of a list were divided out in their order.
use Rattle.std.specs.Prelude.{◌≡◌, Bool, false, IsTrue, List, [], Result, Ok, Err, IfOk, refl}
use Rattle.std.proofs.Common.{ap, sym, ◌∙◌, subst, arith, inl, inr, true≢false}
use Rattle.std.specs.Prelude.{◌⊎◌}
use Rattle.ring_laws.specs.Meaning.{Meaning}
use Rattle.ring_laws.specs.Algebra.{Algebra, Laws}
use Rattle.poly_laws.specs.PolyAlgebra.{poly_algebra}
use Rattle.poly_laws.proofs.PolyLaws.{poly_ring}
use Rattle.division_laws.specs.Polynomials.{Polynomial}
use Rattle.hypergeometric.specs.LinearForm.{Factor}
use Rattle.hypergeometric.specs.FormOrder.{IsSorted}
use Rattle.form_rings.specs.Forms.{Forms, FormLaws}
use Rattle.key_equation.specs.Answers.{AreNeededPoles}
use Rattle.key_equation.specs.Cancelling.{CancelsInOrder, LeavesInOrder, of_zero, of_nonzero}
use Rattle.key_equation.specs.Polynomials.{form_over}
use Rattle.key_equation.proofs.WhatIsLeft.{Outcome, outcome}

-- what follows of each value follows of an answer
pub answered : {T E : Type 0} (P Q : T → Type 0) (r : Result T E) → ((x : T) → P x → Q x) → IfOk r P → IfOk r Q
answered P Q (Ok x) f h = f x h
answered P Q (Err e) f h = tt

module _ (a : Algebra) (l : Laws a) (forms : Forms) (fl : FormLaws a forms) where
  zero_of : (y : Polynomial a) → IsTrue ((poly_algebra a).ops.is_nought y.0) → y.0 ≡ (poly_algebra a).ops.nought
  zero_of y h = ap (λ (t : Polynomial a). t.0) (((poly_ring a l.closed l.ring).is_nought y).0 h)

  pub leaves_zero : (xs : List Factor) (y : Polynomial a) (poles : List Factor) → IsTrue ((poly_algebra a).ops.is_nought y.0) → poles ≡ []
      → LeavesInOrder (poly_algebra a) (form_over a forms) xs y.0 y.0 poles
  leaves_zero xs y poles h e =
      subst (LeavesInOrder (poly_algebra a) (form_over a forms) xs y.0 y.0) (sym e) (of_zero (zero_of y h))

  -- a test that failed
  pub some_of : (y : Meaning) (b : Bool) → b ≡ false → (IsTrue ((poly_algebra a).ops.is_nought y) → IsTrue b) → ¬ (y ≡ (poly_algebra a).ops.nought)
  some_of y b e h z = true≢false (sym (h (subst (λ m. IsTrue ((poly_algebra a).ops.is_nought m)) (sym z) refl)) ∙ e)

  pub needed : (xs : List Factor) (y : Polynomial a) (left : Meaning) (poles : List Factor) → IsSorted xs
      → CancelsInOrder (poly_algebra a) (form_over a forms) xs y.0 left poles
      → AreNeededPoles (poly_algebra a) (form_over a forms) xs left poles
  needed xs y left poles sorted h =
      let found = outcome a l forms fl xs y left poles sorted h in
      record {
        none_divides = found.none_divides;
        within = λ f. omega (arith, found.powers f);
      }

  -- what is left of a polynomial that isn't zero, or of zero
  pub record OfZero (y : Polynomial a) (left : Meaning) (poles : List Factor) : Type 0 where
    pub zero : y.0 ≡ (poly_algebra a).ops.nought
    pub left_is : left ≡ y.0
    pub poles_are : poles ≡ []

  pub record OfSome (chains : List Factor) (y : Polynomial a) (left : Meaning) (poles : List Factor) : Type 0 where
    pub some : ¬ (y.0 ≡ (poly_algebra a).ops.nought)
    pub outcome : Outcome a l forms fl chains y left poles

  pub left_over : (chains : List Factor) (y : Polynomial a) (left : Meaning) (poles : List Factor) → IsSorted chains
      → LeavesInOrder (poly_algebra a) (form_over a forms) chains y.0 left poles → OfSome chains y left poles ⊎ OfZero y left poles
  left_over chains y _ _ sorted (of_zero z) = inr (record { zero = z; left_is = refl; poles_are = refl })
  left_over chains y _ _ sorted (of_nonzero {left} {poles} s h) = inl (record { some = s; outcome = outcome a l forms fl chains y left poles sorted h })
