use Rattle.std.proofs.Common.{◌↔◌}
use Rattle.std.specs.Option.{option_map}
use Rattle.hypergeometric.specs.FormOrder.{IsSorted}
use Rattle.lin_form.specs.Forms.{form_of}
use Rattle.lin_form.specs.ListOf.{list_of}
use Rattle.form_lines.specs.Orders.{FollowInTurn}
use Rattle.form_lines.proofs.primitive_factors.are_sorted.Given as goal

-- the whole list is in order, where what is left follows in turn
abbrev pub invariant-loop-form : goal.invariant-loop-form
invariant-loop-form l = FollowInTurn (option_map form_of l.previous) l.form-iterator ↔ IsSorted (list_of l.list).factors
