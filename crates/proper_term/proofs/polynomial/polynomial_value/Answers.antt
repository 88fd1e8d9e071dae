use Rattle.std.proofs.Common.{◌≡◌, ◌<◌, ◌^◌, subst, ℕ}
use Rattle.std.specs.Prelude.{ℤ, unsigned_abs, IfOk, IfErr}
use Rattle.ring_laws.specs.Answer.{OnFault}
use Rattle.ring_laws.specs.Meaning.{Meaning}
use Rattle.lin_form.proofs.Items.{each_of}
use Rattle.poly_laws.specs.Values.{horner}
use Rattle.hypergeometric.specs.Point.{point}
use Rattle.hypergeometric.specs.ProperTerm.{value_in_n}
use Rattle.proper_term.specs.ValueBounds.{sizes, size_in_n}
use Rattle.proper_term.proofs.FieldPolynomials.{coefficient}
use Rattle.proper_term.proofs.PolynomialSizes.{coefficients_are}
use Rattle.proper_term.proofs.polynomial.polynomial_value.Goals as goal

-- the value of the coefficients is that of the polynomial
pub returns-clause-value : goal.returns-clause-value
returns-clause-value c =
    let ms = coefficients_are (each_of c.coefficients-coefficients.result.now coefficient) _ c.coefficients-coefficients.ensures.coefficients in
    subst (λ (z : ℤ). IfOk c.value_of_coefficients-2.result (λ value. value.value ≡ z))
    (λ i. horner (λ (m : Meaning). value_in_n m (point (c.whole_n-n.ensures.value i) (c.whole_k-k.ensures.value i))) (c.whole_k-k.ensures.value i)
    (ms i)) c.value_of_coefficients-2.ensures.value

pub returns-clause-too_large : goal.returns-clause-too_large
returns-clause-too_large c =
    let ms = coefficients_are (each_of c.coefficients-coefficients.result.now coefficient) _ c.coefficients-coefficients.ensures.coefficients in
    subst (λ (m : ℕ). IfErr c.value_of_coefficients-2.result (OnFault (¬ (m < 2 ^ 127))))
    (λ i. sizes (size_in_n (point (c.whole_n-n.ensures.value i) (c.whole_k-k.ensures.value i))) (unsigned_abs (c.whole_k-k.ensures.value i))
    (ms i)) c.value_of_coefficients-2.ensures.too_large
