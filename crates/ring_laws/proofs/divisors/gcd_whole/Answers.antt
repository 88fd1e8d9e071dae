use Rattle.std.proofs.Common.{arith}
use Rattle.std.proofs.lemmas.Nat.Gcd.{IsGcd-from_zero, IsGcd-from_mod}
use Rattle.ring_laws.proofs.divisors.gcd_whole.Goals as goal

-- the common divisors of a number and the divisor are those of the divisor and the remainder
pub loop-rest-preserved : goal.loop-rest-preserved
loop-rest-preserved c greatest holds = c.loop-rest.invariant greatest (IsGcd-from_mod _ _ greatest holds)

-- the greatest common divisor of a number and 0 is the number
pub returns : goal.returns
returns c = record { greatest = c.loop-rest.invariant _ (IsGcd-from_zero _ _ (omega arith)) }
