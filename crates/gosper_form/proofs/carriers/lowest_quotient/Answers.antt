use Rattle.std.proofs.Common.{refl, ap}
use Rattle.ring_laws.specs.Wholes.{number_of}
use Rattle.poly_fraction.specs.FractionOf.{fraction_of}
use Rattle.gosper_form.proofs.WholeNumbers.{tested_zero, lowest_found}
use Rattle.gosper_form.proofs.carriers.lowest_quotient.Goals as goal

-- the denominator isn't 0
pub unreachable-requires : goal.unreachable-requires
unreachable-requires c = c.requires.not_zero (tested_zero c.args.bottom.value (c.in-None.ensures.none.0 refl))

pub returns : goal.returns
returns c = record {
  quotient = lowest_found c.args.top.value c.args.bottom.value (fraction_of c.in-Some.fraction) (fraction_of c.lowest.result) c.requires.not_zero
      c.lowest.ensures.lowest c.lowest.ensures.same (ap number_of c.in-Some.ensures.top) (ap number_of c.in-Some.ensures.bottom);
}
