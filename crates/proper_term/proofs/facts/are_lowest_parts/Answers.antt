use Rattle.std.specs.Int.{IsGcd}
use Rattle.std.specs.Prelude.{unsigned_abs}
use Rattle.std.proofs.Common.{arith, subst}
use Rattle.std.proofs.lemmas.Bool.Decides.{nat_tests}
use Rattle.std.proofs.lemmas.Int.{ints}
use Rattle.proper_term.proofs.FactTests.{lowest_test}
use Rattle.proper_term.proofs.facts.are_lowest_parts.Goals as goal

-- the divisor is that of the two numbers
pub returns : goal.returns
returns c =
    let gcd = subst (λ m. IsGcd m (unsigned_abs c.args.bottom.value) c.gcd_whole.result) c.magnitude.ensures.magnitude
    (subst (λ m. IsGcd c.magnitude.result m c.gcd_whole.result) c.magnitude-2.ensures.magnitude c.gcd_whole.ensures.greatest) in
    let test = lowest_test c.args.top.value c.args.bottom.value c.gcd_whole.result c.args.top.small c.args.bottom.small
    (λ z. omega (arith, ints, z)) (omega (arith, ints)) gcd in
    record { test = (λ h. test.0 (grind (arith, nat_tests, h)), λ h. let one = test.1 h in grind (arith, nat_tests, one)) }
