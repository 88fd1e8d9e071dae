use Rattle.std.proofs.Common.{ap, arith}
use Rattle.ring_laws.specs.Wholes.{number_of}
use Rattle.gosper_form.proofs.NumberPowers.{power_step, power_fault, power_end, number_fault}
use Rattle.gosper_form.proofs.numbers.times_number_power.Goals as goal

-- a product that is too large shows that the whole is
pub returns-in_err-product : goal.returns-in_err-product
returns-in_err-product c = record {
  gives = number_fault (λ number. number.value) _ c.from_residual.result c.in_err-product.field-0.0 c.from_residual.ensures.1
      (power_fault c.loop.product.value c.args.base.value _ c.args.power c.loop.counter c.requires.base_not_zero c.loop-test.true c.loop.invariant
      c.in_err-product.field-0.0 c.in_err-product.ensures.gives);
}

-- once more
pub loop-preserved : goal.loop-preserved
loop-preserved c = power_step c.loop.product.value c.args.base.value _ c.args.power c.loop.counter c.requires.base_not_zero c.loop-test.true
    c.loop.invariant c.in_ok-product.product.value (ap number_of c.in_ok-product.ensures.gives.1)

pub returns : goal.returns
returns c = record {
  gives = power_end c.loop.product.value c.args.base.value _ c.args.power c.loop.counter (omega (arith, c.loop-test.false)) c.loop.invariant;
}
