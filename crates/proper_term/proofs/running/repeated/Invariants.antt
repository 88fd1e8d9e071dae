use Rattle.std.proofs.Common.{◌≡◌}
use Rattle.std.proofs.Math.IntN.{pow}
use Rattle.std.specs.Prelude.{◌*ℤ◌}
use Rattle.proper_term.proofs.running.repeated.Given as goal

-- the product so far times what is left is the power
abbrev pub invariant-loop-left : goal.invariant-loop-left
invariant-loop-left l = l.product.value *ℤ pow l.base.value l.left ≡ pow l.base.value l.exponent

abbrev pub decreases-loop-left : goal.decreases-loop-left
decreases-loop-left l = l.left
