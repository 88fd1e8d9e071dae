use Rattle.std.specs.Int.{IsGcd}
use Rattle.std.proofs.Common.{ℕ}
use Rattle.ring_laws.proofs.divisors.gcd_whole.Given as goal

-- a step keeps the common divisors
abbrev pub invariant-loop-rest : goal.invariant-loop-rest
invariant-loop-rest l = (greatest : ℕ) → IsGcd l.divisor l.rest greatest → IsGcd l.fn.a l.fn.b greatest

-- the rest becomes less
abbrev pub decreases-loop-rest : goal.decreases-loop-rest
decreases-loop-rest l = l.rest
