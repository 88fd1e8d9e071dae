use Rattle.std.proofs.Common.{◌≡◌, ap, sym, ◌∙◌, arith, length}
use Rattle.std.proofs.lemmas.List.{length-map}
use Rattle.std.specs.Prelude.{ℤ, ◌*ℤ◌, ◌+ℤ◌}
use Rattle.ring_laws.specs.Answer.{fault_weaker}
use Rattle.ring_laws.specs.Meaning.{Meaning}
use Rattle.lin_form.proofs.Items.{each_of}
use Rattle.lin_form.proofs.ListProducts.{fault_list}
use Rattle.poly_laws.specs.Values.{horner}
use Rattle.hypergeometric.specs.Point.{point}
use Rattle.hypergeometric.specs.ProperTerm.{value_in_n}
use Rattle.proper_term.proofs.FieldPolynomials.{coefficient}
use Rattle.proper_term.proofs.PolynomialSizes.{coefficient_first, step_out}
use Rattle.proper_term.proofs.polynomial.value_of_coefficients.Goals as goal

pub returns-in_err-value-2-clause-too_large : goal.returns-in_err-value-2-clause-too_large
returns-in_err-value-2-clause-too_large c =
    let ms = each_of c.args.coefficients.now coefficient in
    let count : length ms ≡ length c.args.coefficients.now = length-map c.args.coefficients.now coefficient in
    fault_list _ c.from_residual-in_err-value-2.result c.in_err-value-2.field-0.0 c.from_residual-in_err-value-2.ensures.1
    (fault_weaker c.in_err-value-2.field-0.0
    (step_out (point c.args.n.value c.args.k.value) c.loop-power.value.value ms c.loop-power.power (coefficient c.index-coefficients-power.result)
    (omega (arith, c.loop-power-test.true)) (omega (arith, count, c.loop-power.invariant.within))
    (λ e. let few = c.requires.counted e in omega (arith, count, few))
    (coefficient_first coefficient c.args.coefficients.now c.loop-power.power c.index-coefficients-power.result (omega
    (arith, c.loop-power-test.true))
    c.loop-power.invariant.within c.index-coefficients-power.is) c.loop-power.invariant.value) c.in_err-value-2.ensures.too_large)

-- one more coefficient
pub loop-power-preserved : goal.loop-power-preserved
loop-power-preserved c =
    let ms = each_of c.args.coefficients.now coefficient in
    record {
      value = c.in_ok-value-2.ensures.value
          ∙ ap (λ (z : ℤ). value_in_n (coefficient c.index-coefficients-power.result) (point c.args.n.value c.args.k.value) +ℤ c.args.k.value *ℤ z)
          c.loop-power.invariant.value
          ∙ ap (horner (λ (m : Meaning). value_in_n m (point c.args.n.value c.args.k.value)) c.args.k.value)
          (sym (coefficient_first coefficient c.args.coefficients.now c.loop-power.power c.index-coefficients-power.result
          (omega (arith, c.loop-power-test.true)) c.loop-power.invariant.within c.index-coefficients-power.is));
      within = omega (arith, c.loop-power.invariant.within);
    }
