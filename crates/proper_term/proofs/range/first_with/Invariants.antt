use Rattle.std.proofs.Common.{◌≡◌}
use Rattle.lin_form.specs.ListOf.{list_of}
use Rattle.hypergeometric.specs.NaturalRange.{first_with_slope}
use Rattle.proper_term.proofs.range.first_with.Given as goal

-- the first form with the slope is that of what is left
abbrev pub invariant-loop-form : goal.invariant-loop-form
invariant-loop-form l = first_with_slope l.slope l.form-iterator ≡ first_with_slope l.slope (list_of l.list).factors
