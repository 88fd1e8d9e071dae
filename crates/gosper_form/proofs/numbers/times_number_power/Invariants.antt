use Rattle.std.proofs.Common.{◌*ℤ◌}
use lib.IntN.{pow}
use Rattle.gosper_form.proofs.NumberPowers.{PowerReached}
use Rattle.gosper_form.proofs.numbers.times_number_power.Given as goal

-- the product so far times the rest of the power is the whole product
abbrev pub invariant-loop : goal.invariant-loop
invariant-loop l = PowerReached l.product.value l.base.value (l.fn.product.value *ℤ pow l.base.value l.power) l.power l.counter
