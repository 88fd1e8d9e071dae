-- Where a step to p_j is too large, an operation of p_j is out of bounds.
use Rattle.std.proofs.Common.{◌≡◌, ◌≢◌, ℕ, ◌-◌, ◌<◌, ◌^◌, List, ap, sym, ◌∙◌, subst, arith, inl, inr}
use Rattle.std.proofs.lemmas.Int.{ints}
use Rattle.std.specs.Prelude.{ℤ, pos, ◌*ℤ◌, ◌<ℤ◌, unsigned_abs}
use lib.IntN.{pow}
use Rattle.ring_laws.specs.Answer.{OnFault, fault_weaker}
use Rattle.ring_laws.specs.Meaning.{Meaning, items}
use Rattle.ring_laws.specs.Wholes.{whole_algebra}
use Rattle.ring_laws.specs.declared.faults.RingFault.{RingFault}
use Rattle.poly_laws.specs.Shift.{InnerShiftInBounds, inner_shift}
use Rattle.hypergeometric.specs.Fraction.{Fraction}
use Rattle.hypergeometric.specs.ProperTerm.{ProperTerm}
use Rattle.hypergeometric.specs.TermFacts.{IsLowest}
use Rattle.hypergeometric.proofs.FractionLaws.{product_not_zero, pow_not_zero}
use Rattle.term_pieces.specs.Products.{contents_of, IsProductOf}
use Rattle.term_pieces.specs.Pieces.{Top, poly_at_later_n, top_number, top_forms}
use Rattle.gosper_form.specs.RaisedForms.{factors_of}
use Rattle.gosper_form.specs.PieceSteps.{top_sizes, SomeTooLarge}
use Rattle.gosper_form.specs.TopsOf.{IsTopOf}
use Rattle.gosper_form.specs.declared.raised_forms.RaisedForm.{RaisedForm}
use Rattle.gosper_form.proofs.LaterSizes.{later_in_bounds}
use Rattle.gosper_form.proofs.NumberPowers.{out_of_bounds}
use Rattle.gosper_form.proofs.ProductSteps.{contents_not_zero}

module _ (f : ProperTerm) (order j : ℕ) where
  -- the polynomial at n + j
  pub shift_too_large : (m : Meaning) (by : ℤ) (fault : RingFault)
      → OnFault (¬ (InnerShiftInBounds whole_algebra (whole_algebra.ops.whole by) (items m))) fault → by ≡ pos j → m ≡ f.poly
      → OnFault (SomeTooLarge (top_sizes f order j)) fault
  shift_too_large m by fault h e g = fault_weaker fault (λ out. inl (λ fits. out (subst (λ z. InnerShiftInBounds whole_algebra (whole_algebra.ops.whole z) (items m))
      (sym e) (subst (λ p. InnerShiftInBounds whole_algebra (whole_algebra.ops.whole (pos j)) (items p)) (sym g) (later_in_bounds f.poly j fits))))) h

  -- the numbers of p_j
  pub number_is : (base : Fraction) → base ≡ f.n_base → pow base.top j *ℤ pow base.bottom (order - j) ≡ top_number f order j
  number_is base e = λ i. pow (e i).top j *ℤ pow (e i).bottom (order - j)

  pub number_some : (n : ℤ) → n ≡ top_number f order j → IsLowest f.n_base → n ≢ pos 0
  number_some n e base z =
      product_not_zero (pow f.n_base.top j) (pow f.n_base.bottom (order - j)) (pow_not_zero f.n_base.top j base.not_zero)
      (pow_not_zero f.n_base.bottom (order - j) (positive f.n_base.bottom base.positive)) (sym e ∙ z)
    where
      positive : (b : ℤ) → pos 0 <ℤ b → b ≢ pos 0
      positive b h z = omega (arith, ints, h, z)

  pub number_too_large : (fs : List RaisedForm) (z : ℤ) (fault : RingFault) → OnFault (¬ (unsigned_abs z < 2 ^ 127)) fault → z ≡ top_number f order j
      → factors_of fs ≡ top_forms f order j → OnFault (SomeTooLarge (top_sizes f order j)) fault
  number_too_large fs z fault h e g = fault_weaker fault (λ out. inr (inl (out_of_bounds z (contents_of (factors_of fs))
      (top_number f order j *ℤ contents_of (top_forms f order j)) (contents_not_zero fs) (λ i. e i *ℤ contents_of (g i)) out))) h

  pub forms_too_large : (fs : List RaisedForm) (z : ℤ) (fault : RingFault) → OnFault (¬ (unsigned_abs (z *ℤ contents_of (factors_of fs)) < 2 ^ 127)) fault
      → z ≡ top_number f order j → factors_of fs ≡ top_forms f order j → OnFault (SomeTooLarge (top_sizes f order j)) fault
  forms_too_large fs z fault h e g = fault_weaker fault (λ out. inr (inl out))
      (subst (λ t. OnFault (¬ (unsigned_abs t < 2 ^ 127)) fault) (λ i. e i *ℤ contents_of (g i)) h)

  -- p_j itself
  pub top_made : (top : Top) (m : Meaning) (by z : ℤ) (fs : List RaisedForm) → top.poly ≡ inner_shift whole_algebra.ops by m → by ≡ pos j → m ≡ f.poly
      → IsProductOf top.factors z (factors_of fs) → z ≡ top_number f order j → factors_of fs ≡ top_forms f order j → IsTopOf top f order j
  top_made top m by z fs p e g h k l = record {
    poly = p ∙ (λ i. inner_shift whole_algebra.ops (e i) (g i));
    factors = subst (λ xs. IsProductOf top.factors (top_number f order j) xs) l (subst (λ t. IsProductOf top.factors t (factors_of fs)) k h);
  }
