use Rattle.std.specs.Prelude.{◌≡◌, ℤ, ◌*ℤ◌, unsigned_abs}
use Rattle.std.specs.Int.{w64, cast_signed as to_z, cast_unsigned as of_z}
use Rattle.std.proofs.Common.{arith, subst, sym, ◌∙◌, inl, inr, true≢false, refl}
use Rattle.std.proofs.lemmas.Int.{ints}
use Rattle.hypergeometric.specs.LinearForm.{LinearForm}
use Rattle.hypergeometric.specs.Forms.{form_with, IsGreatestDivisor}
use Rattle.hypergeometric.proofs.PrimitiveForms.{AreQuotients, product, SignIs, primitive_quotients, divides_by, quotient_kept}
use Rattle.hypergeometric.proofs.OnlyPrimitive.{only_primitive}
use Rattle.lin_form.specs.Forms.{form_of}
use Rattle.lin_form.proofs.forms.LinForm.primitive.Goals as goal
use Rattle.lin_form.proofs.forms.LinForm.primitive.Goals.{then-is_positive_first, else-is_positive_first}

pub exact_quotient-requires-clause-divides : goal.exact_quotient-requires-clause-divides
exact_quotient-requires-clause-divides c =
    elim c.if-is_positive_first.branch [
      | then-is_positive_first w ↦ divides_by _ _ _ _ (omega (arith, ints, w.factor-is)) (omega (arith, ints)) c.divisor-divisor.ensures.greatest.k_slope
      | else-is_positive_first w ↦ divides_by _ _ _ _ (omega (arith, ints, w.factor-is)) (omega (arith, ints)) c.divisor-divisor.ensures.greatest.k_slope
    ]

pub exact_quotient-requires-2-clause-divides : goal.exact_quotient-requires-2-clause-divides
exact_quotient-requires-2-clause-divides c =
    elim c.if-is_positive_first.branch [
      | then-is_positive_first w ↦ divides_by _ _ _ _ (omega (arith, ints, w.factor-is)) (omega (arith, ints)) c.divisor-divisor.ensures.greatest.n_slope
      | else-is_positive_first w ↦ divides_by _ _ _ _ (omega (arith, ints, w.factor-is)) (omega (arith, ints)) c.divisor-divisor.ensures.greatest.n_slope
    ]

pub exact_quotient-requires-3-clause-divides : goal.exact_quotient-requires-3-clause-divides
exact_quotient-requires-3-clause-divides c =
    elim c.if-is_positive_first.branch [
      | then-is_positive_first w ↦ divides_by _ _ _ _ (omega (arith, ints, w.factor-is)) (omega (arith, ints)) c.divisor-divisor.ensures.greatest.offset
      | else-is_positive_first w ↦ divides_by _ _ _ _ (omega (arith, ints, w.factor-is)) (omega (arith, ints)) c.divisor-divisor.ensures.greatest.offset
    ]

-- the factor times the quotients are the numbers of the form
abbrev form : (c : goal.After-form-1) → LinearForm
form c = form_with (to_z w64 (of_z w64 c.exact_quotient-2.result)) (to_z w64 (of_z w64 c.exact_quotient.result)) (to_z w64 (of_z w64 c.exact_quotient-3.result))

quotients : (c : goal.After-form-1) → AreQuotients (form_of c.args.self.now) (form c) (to_z w64 c.if-is_positive_first.factor-bits)
quotients c =
    let e : ℤ = to_z w64 c.if-is_positive_first.factor-bits in
    let k : e *ℤ (form c).k_slope ≡ c.args.self.now.k_slope = quotient_kept e _ _ _ c.exact_quotient.ensures.quotient
    (omega (arith, ints)) (omega (arith, ints)) in
    let n : e *ℤ (form c).n_slope ≡ c.args.self.now.n_slope = quotient_kept e _ _ _ c.exact_quotient-2.ensures.quotient
    (omega (arith, ints)) (omega (arith, ints)) in
    let o : e *ℤ (form c).offset ≡ c.args.self.now.offset = quotient_kept e _ _ _ c.exact_quotient-3.ensures.quotient
    (omega (arith, ints)) (omega (arith, ints)) in
    record { k_slope = k; n_slope = n; offset = o }

-- the quotients by the divisor, with the sign of the first number, are primitive
pub returns-clause-primitive : goal.returns-clause-primitive
returns-clause-primitive c =
    let e : ℤ = to_z w64 c.if-is_positive_first.factor-bits in
    let sign : SignIs (form_of c.args.self.now) e = elim c.if-is_positive_first.branch [
      | then-is_positive_first w ↦ inl (omega (arith, ints, w.factor-is, c.divisor-divisor.ensures.positive), w.if-is_positive_first.ensures.test.0 refl)
      | else-is_positive_first w ↦ inr (omega (arith, ints, w.factor-is, c.divisor-divisor.ensures.positive), λ h. true≢false (sym (w.if-is_positive_first.ensures.test.1 h)))
    ] in
    let greatest : IsGreatestDivisor (form_of c.args.self.now) (unsigned_abs e) = elim c.if-is_positive_first.branch [
      | then-is_positive_first w ↦ subst (λ t. IsGreatestDivisor (form_of c.args.self.now) t) (omega (arith, ints, w.factor-is)) c.divisor-divisor.ensures.greatest
      | else-is_positive_first w ↦ subst (λ t. IsGreatestDivisor (form_of c.args.self.now) t) (omega (arith, ints, w.factor-is)) c.divisor-divisor.ensures.greatest
    ] in
    primitive_quotients (form_of c.args.self.now) (form c) e (quotients c) c.requires.not_zero sign greatest

-- and no other factor and form are so
pub returns-clause-only : goal.returns-clause-only
returns-clause-only c = λ d f h p.
    only_primitive (to_z w64 c.if-is_positive_first.factor-bits) d (form c) f (product (quotients c) ∙ h)
    (λ z. c.requires.not_zero (sym (product (quotients c)) ∙ z)) (returns-clause-primitive c) p
