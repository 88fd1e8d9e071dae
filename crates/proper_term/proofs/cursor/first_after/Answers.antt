use Rattle.std.proofs.Common.{◌+◌, ◌-◌, max, ◌∙◌, arith, map}
use Rattle.proper_term.specs.Cancelled.{at_least, greatest}
use Rattle.proper_term.specs.Cursors.{argument_of}
use Rattle.proper_term.proofs.NumbersLeft.{rising_none, skipped, arrived}
use Rattle.proper_term.proofs.cursor.first_after.Goals as goal

-- no number is left
pub returns-in_default-clause-filled : goal.returns-in_default-clause-filled
returns-in_default-clause-filled c = λ _.
    let us = map argument_of c.args.above.now in
    let ds = map argument_of c.args.below.now in
    rising_none (λ i. at_least us i - at_least ds i) (c.loop-at.at + 1) (max (greatest us) (greatest ds) + 1 - c.loop-at.at)
    (λ j le. let none = c.in_default.ensures.next j le in omega (arith, none))

-- the numbers up to the next argument are passed
pub loop-at-preserved : goal.loop-at-preserved
loop-at-preserved c = record {
  same = skipped (map argument_of c.args.above.now) (map argument_of c.args.below.now) c.loop-at.at c.in-Some.number
      (omega (arith, c.excess.ensures.excess, c.loop-at-test.true)) c.in-Some.ensures.next ∙ c.loop-at.invariant.same;
  some = let n = c.in-Some.ensures.next.from_on in omega (arith, n);
  small = c.in-Some.ensures.small;
}

pub returns-clause-same : goal.returns-clause-same
returns-clause-same c =
    arrived (map argument_of c.args.above.now) (map argument_of c.args.below.now) c.loop-at.at c.excess-2.result c.excess-2.ensures.excess
    (omega (arith, c.excess.ensures.excess, c.excess-2.ensures.excess, c.loop-at-test.false))
    ∙ c.loop-at.invariant.same
