use Rattle.std.proofs.Common.{ap, ◌-◌}
use Rattle.ring_laws.specs.Wholes.{number_of}
use Rattle.gosper_form.proofs.NumberPowers.{number_fault}
use Rattle.gosper_form.proofs.WholeNumbers.{tested_nonzero, two_powers_fault, first_not_zero}
use Rattle.gosper_form.proofs.numbers.base_number.Goals as goal

-- a part that is too large shows that the whole is
pub returns-in_err-number : goal.returns-in_err-number
returns-in_err-number c = record {
  gives = number_fault (λ number. number.value) _ c.from_residual.result c.in_err-number.field-0.0 c.from_residual.ensures.1
      (two_powers_fault c.from-one.result.value c.top.result.now.value c.args.base.now.top.value c.args.base.now.bottom.value c.args.j
      (c.args.order - c.args.j) c.from-one.ensures (ap number_of c.top.ensures.top) c.in_err-number.field-0.0
      (tested_nonzero c.args.base.now.bottom.value c.args.base.now.nonzero) c.in_err-number.ensures.gives);
}

pub times_number_power-requires-2-clause-product_not_zero : goal.times_number_power-requires-2-clause-product_not_zero
times_number_power-requires-2-clause-product_not_zero c =
    first_not_zero c.from-one.result.value c.top.result.now.value c.args.base.now.top.value c.args.base.now.bottom.value c.args.j
    (c.args.order - c.args.j) c.from-one.ensures (ap number_of c.top.ensures.top) c.in_ok-number.number.value c.in_ok-number.ensures.gives c.requires.not_zero
