use Rattle.std.proofs.Common.{arith, subst}
use Rattle.std.proofs.lemmas.Int.{ints}
use Rattle.hypergeometric.specs.Forms.{IsGreatestDivisor}
use Rattle.hypergeometric.proofs.PrimitiveForms.{divisor_of, divisor_within}
use Rattle.lin_form.specs.Forms.{form_of}
use Rattle.lin_form.proofs.forms.LinForm.divisor.Goals as goal

-- the greatest common divisor of the three numbers is between 1 and 2^40
pub overflow_cast-result : goal.overflow_cast-result
overflow_cast-result c =
    let g = divisor_of (form_of c.args.self.now) _ _ _ _ _ (omega (arith, ints, c.unsigned_abs.ensures.value, c.from.ensures))
    (omega (arith, ints, c.unsigned_abs-2.ensures.value, c.from-2.ensures))
    (omega (arith, ints, c.unsigned_abs-3.ensures.value, c.from-3.ensures)) c.gcd_whole-slopes.ensures.greatest c.gcd_whole.ensures.greatest in
    let b = divisor_within (form_of c.args.self.now) _ c.requires.not_zero g c.args.self.now.small_k_slope c.args.self.now.small_n_slope
    c.args.self.now.small_offset in
    omega (arith, ints, b)

pub returns : goal.returns
returns c =
    let g = divisor_of (form_of c.args.self.now) _ _ _ _ _ (omega (arith, ints, c.unsigned_abs.ensures.value, c.from.ensures))
    (omega (arith, ints, c.unsigned_abs-2.ensures.value, c.from-2.ensures))
    (omega (arith, ints, c.unsigned_abs-3.ensures.value, c.from-3.ensures)) c.gcd_whole-slopes.ensures.greatest c.gcd_whole.ensures.greatest in
    let b = divisor_within (form_of c.args.self.now) _ c.requires.not_zero g c.args.self.now.small_k_slope c.args.self.now.small_n_slope
    c.args.self.now.small_offset in
    record {
      positive = omega (arith, ints, b);
      small = omega (arith, ints, b);
      greatest = subst (λ t. IsGreatestDivisor (form_of c.args.self.now) t) (omega (arith, ints, b)) g;
    }
