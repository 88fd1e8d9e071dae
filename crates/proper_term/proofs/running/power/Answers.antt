use Rattle.std.proofs.Common.{◌≡◌, subst, arith}
use Rattle.std.specs.Prelude.{MatchResult, ℤ}
use Rattle.ring_laws.specs.Answer.{OnFault}
use Rattle.hypergeometric.specs.TermFacts.{IsNumber}
use Rattle.proper_term.proofs.WholePowers.{by_parity}
use Rattle.proper_term.proofs.running.power.Goals as goal

-- 1 and -1
pub returns-then-magnitude-eq1 : goal.returns-then-magnitude-eq1
returns-then-magnitude-eq1 c = record {
  power = subst (λ (z : ℤ). MatchResult c.repeated.result (λ power. power.value ≡ z) (λ fault. OnFault (¬ IsNumber z) fault))
      (by_parity c.args.base.value c.args.exponent (omega (arith, c.magnitude.ensures, c.if-magnitude-eq1.true))) c.repeated.ensures.power;
}
