use Rattle.std.proofs.Common.{arith}
use Rattle.key_sides.proofs.CappedDegrees.{passes_limit, keeps_limit}
use Rattle.key_sides.proofs.degrees.test_degree.Goals as goal

-- a degree above the limit
pub returns-then-degree-greatest_count : goal.returns-then-degree-greatest_count
returns-then-degree-greatest_count c = record {
  answers = λ count e. passes_limit c.args.degree count e (omega (arith, c.greatest_count.ensures.greatest, c.if-degree-greatest_count.true));
}

pub returns : goal.returns
returns c = record {
  answers = λ count e. keeps_limit c.args.degree count e (omega (arith, c.greatest_count.ensures.greatest, c.if-degree-greatest_count.false));
}
