use Rattle.std.proofs.Common.{sym, ◌∙◌}
use Rattle.poly_fraction.specs.FractionOf.{fraction_of}
use Rattle.proper_term.specs.Fields.{number_fraction_of}
use Rattle.proper_term.proofs.UnitDivisors.{by_last_digit}
use Rattle.proper_term.proofs.running.over_number.Goals as goal

-- 1 and -1
pub returns-then-magnitude-eq1 : goal.returns-then-magnitude-eq1
returns-then-magnitude-eq1 c = record {
  run = by_last_digit (number_fraction_of (fraction_of c.args.running)) c.args.number.value
      (sym c.magnitude.ensures.magnitude ∙ c.if-magnitude-eq1.true) c.requires.lowest fraction_of c.args.count c.over_repeated.result c.over_repeated.ensures.run;
}
