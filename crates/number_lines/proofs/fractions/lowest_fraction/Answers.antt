use Rattle.std.specs.Prelude.{pos, ◌<ℤ◌}
use Rattle.std.proofs.Common.{arith}
use Rattle.std.proofs.lemmas.Int.{ints}
use Rattle.poly_fraction.specs.FractionOf.{fraction_of}
use Rattle.number_lines.proofs.FractionSteps.{lowest_parts, divisor_one, made}
use Rattle.number_lines.proofs.fractions.lowest_fraction.Goals as goal

-- a common divisor is above 1
pub returns-then-gcd_whole-ne1 : goal.returns-then-gcd_whole-ne1
returns-then-gcd_whole-ne1 c = λ has.
    let a = c.args.top.value in
    let b = c.args.bottom.value in
    c.if-gcd_whole-ne1.true (divisor_one a b c.unsigned_abs.result c.unsigned_abs-2.result c.gcd_whole.result
    c.unsigned_abs.ensures.size c.unsigned_abs-2.ensures.size c.gcd_whole.ensures.greatest has.1)

-- the fraction
pub returns : goal.returns
returns c =
    let a = c.args.top.value in
    let b = c.args.bottom.value in
    let positive : pos 0 <ℤ b = omega (arith, ints, c.if-value-le0.false, c.value.ensures.value) in
    made fraction_of a b c.new.result c.new.ensures.none positive c.new.ensures.top c.new.ensures.bottom
    (lowest_parts a b c.unsigned_abs.result c.unsigned_abs-2.result c.gcd_whole.result c.unsigned_abs.ensures.size c.unsigned_abs-2.ensures.size
    c.gcd_whole.ensures.greatest c.if-gcd_whole-ne1.false c.args.top.small c.args.bottom.small positive)
