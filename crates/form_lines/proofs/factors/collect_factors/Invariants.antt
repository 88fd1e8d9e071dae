use Rattle.std.proofs.Common.{◌≡◌, take}
use Rattle.std.specs.Prelude.{pos}
use Rattle.lin_form.specs.FactorLists.{factors_of}
use Rattle.lin_form.specs.ListOf.{list_of}
use Rattle.form_lines.proofs.factors.collect_factors.Given as goal

-- the list has the items so far
abbrev pub invariant-loop-item : goal.invariant-loop-item
invariant-loop-item l = list_of l.list ≡ record { scale = pos 1; factors = factors_of (take l.item-index l.items) }
