use Rattle.std.proofs.Common.{◌↔◌}
use Rattle.hypergeometric.specs.TermFacts.{AllWithinLimits}
use Rattle.lin_form.specs.ListOf.{list_of}
use Rattle.gosper_form.proofs.plain.are_within_limits.Given as goal

-- the whole list is within the limits, where what is left is
abbrev pub invariant-loop-form : goal.invariant-loop-form
invariant-loop-form l = AllWithinLimits l.form-iterator ↔ AllWithinLimits (list_of l.list).factors
