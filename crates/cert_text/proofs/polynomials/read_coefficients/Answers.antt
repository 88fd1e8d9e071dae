use Rattle.std.proofs.Common.{◌≡◌, ◌≢◌, [], arith}
use Rattle.std.proofs.lemmas.Grind.{common_steps}
use Rattle.cert_text.proofs.CoefficientReading.{left_start, left_next, left_end}
use Rattle.cert_text.proofs.polynomials.read_coefficients.Goals as goal

-- at the start all is left
pub loop-rest-init : goal.loop-rest-init
loop-rest-init c =
    left_start c.args.text.now c.in_ok-coefficients.coefficients.items c.in_ok-coefficients.ensures.many c.in_ok-coefficients.ensures.each

-- behind a monomial the next rest is left
pub loop-rest-preserved : goal.loop-rest-preserved
loop-rest-preserved c =
    let some : c.loop-rest.rest.now ≢ [] = λ e. grind (arith, common_steps) in
    left_next c.args.text.now c.loop-rest.coefficients.items c.loop-rest.bound c.loop-rest.rest.now c.loop-rest.invariant
    c.in-Some.coefficient c.in-Some.power c.in-Some.behind.now some c.in-Some.ensures.read (omega (arith, c.if-power-bound.false))

-- at the end all are read
pub returns-clause-read : goal.returns-clause-read
returns-clause-read c =
    let none : c.loop-rest.rest.now ≡ [] = grind (arith, common_steps) in
    left_end c.args.text.now c.loop-rest.coefficients.items c.loop-rest.bound c.loop-rest.rest.now c.loop-rest.invariant none
