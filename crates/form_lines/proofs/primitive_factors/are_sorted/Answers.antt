use Rattle.std.proofs.Common.{◌↔◌, ◌∙◌, sym, subst, None}
use Rattle.hypergeometric.specs.FormOrder.{IsSorted}
use Rattle.lin_form.specs.ListOf.{list_of}
use Rattle.form_lines.specs.Orders.{FollowInTurn}
use Rattle.form_lines.proofs.PrimitiveSteps.{order_test}
use Rattle.form_lines.proofs.primitive_factors.are_sorted.Goals as goal

-- all is left
pub loop-form-init : goal.loop-form-init
loop-form-init c =
    subst (λ xs. FollowInTurn None xs ↔ IsSorted (list_of c.args.list.now).factors)
    (sym (c.into_iter-form-iterator.ensures.into_iter_gives ∙ c.iter-form-items.ensures.items)) (order_test (list_of c.args.list.now).factors)
