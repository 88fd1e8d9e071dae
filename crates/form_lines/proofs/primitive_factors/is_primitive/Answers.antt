use Rattle.std.proofs.Common.{arith}
use Rattle.std.proofs.lemmas.Bool.Decides.{nat_tests}
use Rattle.std.proofs.lemmas.Int.{ints}
use Rattle.lin_form.specs.Forms.{form_of}
use Rattle.form_lines.proofs.PrimitiveSteps.{primitive_test}
use Rattle.form_lines.proofs.primitive_factors.is_primitive.Goals as goal

-- the form is its factor times its primitive form
pub returns : goal.returns
returns c =
    let e = c.primitive-factor.ensures in
    let test = primitive_test (form_of c.args.form.now) (form_of c.primitive-factor.result.1) c.primitive-factor.result.0 e.product e.primitive e.only in
    record { test = (λ h. test.0 (grind (arith, ints, nat_tests, h)), λ h. let one = test.1 h in grind (arith, ints, nat_tests, one)) }
