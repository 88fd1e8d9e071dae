use Rattle.std.proofs.Common.{arith}
use Rattle.std.proofs.lemmas.Int.{ints}
use Rattle.lin_form.proofs.Quotients.{no_multiple}
use Rattle.lin_form.proofs.forms.whole_quotient.Goals as goal

-- a remainder that isn't 0 leaves no multiple
pub returns-then-number-slope-ne0 : goal.returns-then-number-slope-ne0
returns-then-number-slope-ne0 c = record {
  quotient = no_multiple c.args.slope c.args.number _ _ (omega (arith, ints, c.unsigned_abs-number.ensures.value))
      (omega (arith, ints, c.unsigned_abs-slope.ensures.value)) c.if-number-slope-ne0.true;
}
