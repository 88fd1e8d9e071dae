use Rattle.std.proofs.Common.{◌≡◌, ◌+◌}
use Rattle.hypergeometric.specs.TermFacts.{total_power}
use Rattle.lin_form.specs.ListOf.{list_of}
use Rattle.gosper_form.proofs.plain.total_power.Given as goal

-- the powers so far, and those that are left
abbrev pub invariant-loop-power : goal.invariant-loop-power
invariant-loop-power l = l.total + total_power l.power-iterator ≡ total_power (list_of l.list).factors
