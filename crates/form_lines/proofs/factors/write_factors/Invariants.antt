use Rattle.std.proofs.Common.{◌≡◌, ◌++◌}
use Rattle.lin_form.specs.FactorLists.{factors_of}
use Rattle.lin_form.specs.ListOf.{list_of}
use Rattle.form_lines.proofs.factors.write_factors.Given as goal

-- the items so far, with those that are left, are the list
abbrev pub invariant-loop-item : goal.invariant-loop-item
invariant-loop-item l = factors_of l.items.items ++ l.item-iterator ≡ (list_of l.list).factors
