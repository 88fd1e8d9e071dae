use Rattle.std.proofs.Common.{◌↔◌}
use Rattle.std.specs.List.{AllByRecursion}
use Rattle.hypergeometric.specs.FormOrder.{IsPrimitive}
use Rattle.lin_form.specs.ListOf.{list_of}
use Rattle.form_lines.proofs.primitive_factors.are_primitive.Given as goal

-- the whole list is primitive, where what is left is
abbrev pub invariant-loop-form : goal.invariant-loop-form
invariant-loop-form l =
    AllByRecursion (λ x. IsPrimitive x.form) l.form-iterator ↔ AllByRecursion (λ x. IsPrimitive x.form) (list_of l.list).factors
