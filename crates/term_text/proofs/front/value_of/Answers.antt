use Rattle.std.proofs.Common.{arith}
use Rattle.std.proofs.lemmas.Str.Parse.{digit_at}
use Rattle.term_text.proofs.Literals.{value_step, too_large}
use Rattle.term_text.proofs.front.value_of.Goals as goal

pub overflow_sub-digit : goal.overflow_sub-digit
overflow_sub-digit c = (digit_at c.args.digits.now c.loop-digit.digit-index c.requires.digits c.loop-digit-test.true).0

pub returns-then-value-digit-clause-value : goal.returns-then-value-digit-clause-value
returns-then-value-digit-clause-value c = too_large c.args.digits.now c.loop-digit.digit-index c.loop-digit.value c.loop-digit-test.true c.requires.digits c.loop-digit.invariant.value (rw c.from-digit.ensures at c.if-value-digit.true)

pub loop-digit-preserved : goal.loop-digit-preserved
loop-digit-preserved c = record {
  value = rw c.from-digit.ensures (value_step c.args.digits.now c.loop-digit.digit-index c.loop-digit.value c.loop-digit-test.true c.requires.digits c.loop-digit.invariant.value);
  small = omega (arith, c.from-digit.ensures);
}
