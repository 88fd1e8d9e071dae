use Rattle.std.proofs.Common.{arith}
use Rattle.gosper_form.proofs.DegreeSteps.{degree_kept, degree_passed}
use Rattle.gosper_form.proofs.degrees.test_degree.Goals as goal

-- a degree above the limit
pub returns-then-degree-greatest_count : goal.returns-then-degree-greatest_count
returns-then-degree-greatest_count c = record {
  answers = degree_passed c.args.degree (omega (arith, c.greatest_count.ensures.greatest, c.if-degree-greatest_count.true)) (omega (arith, c.ranges.degree.fits));
}

pub returns : goal.returns
returns c = record { answers = degree_kept c.args.degree (omega (arith, c.greatest_count.ensures.greatest, c.if-degree-greatest_count.false)) }
