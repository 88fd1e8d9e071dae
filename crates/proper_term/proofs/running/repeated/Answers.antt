use Rattle.std.proofs.Common.{◌≡◌, ◌-◌, ap, ◌∙◌, arith}
use Rattle.std.proofs.Math.IntN.{pow}
use Rattle.std.specs.Prelude.{◌*ℤ◌, MatchResult}
use Rattle.ring_laws.specs.Wholes.{number_of}
use Rattle.ring_laws.specs.Answer.{OnFault, fault_weaker}
use Rattle.hypergeometric.specs.TermFacts.{IsNumber}
use Rattle.proper_term.proofs.Faults.{handed_on}
use Rattle.proper_term.proofs.WholePowers.{one_more, not_less, nothing_left}
use Rattle.proper_term.proofs.running.repeated.Goals as goal

-- a product out of bounds shows that the power is
pub returns-in_err-product-2 : goal.returns-in_err-product-2
returns-in_err-product-2 c = record {
  power = handed_on (λ r. MatchResult r (λ power. power.value ≡ pow c.args.base.value c.args.exponent)
      (λ fault. OnFault (¬ IsNumber (pow c.args.base.value c.args.exponent)) fault)) c.from_residual-in_err-product-2.result c.in_err-product-2.field-0.0 c.from_residual-in_err-product-2.ensures.1
      (fault_weaker c.in_err-product-2.field-0.0
      (not_less c.loop-left.product.value c.args.base.value (pow c.args.base.value c.args.exponent) c.loop-left.left (omega
      (arith, c.loop-left-test.true))
      c.requires.not_zero c.loop-left.invariant) c.in_err-product-2.ensures.gives);
}

-- one more factor
pub loop-left-preserved : goal.loop-left-preserved
loop-left-preserved c =
    ap (λ t. t *ℤ pow c.args.base.value (c.loop-left.left - 1)) (ap number_of c.in_ok-product-2.ensures.gives.1)
    ∙ one_more c.loop-left.product.value c.args.base.value (pow c.args.base.value c.args.exponent) c.loop-left.left
    (omega (arith, c.loop-left-test.true)) c.loop-left.invariant

pub returns : goal.returns
returns c = record {
  power = nothing_left c.loop-left.product.value c.args.base.value (pow c.args.base.value c.args.exponent) c.loop-left.left
      (omega (arith, c.loop-left-test.false)) c.loop-left.invariant;
}
