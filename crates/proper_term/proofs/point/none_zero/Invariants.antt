use Rattle.std.proofs.Common.{◌↔◌}
use Rattle.std.specs.Prelude.{◌≢◌, pos}
use Rattle.std.specs.List.{AllByRecursion}
use Rattle.hypergeometric.specs.LinearForm.{form_value}
use Rattle.lin_form.specs.ListOf.{list_of}
use Rattle.proper_term.specs.Points.{point_of}
use Rattle.proper_term.proofs.point.none_zero.Given as goal

-- the whole list is right, where what is left is
abbrev pub invariant-loop-form : goal.invariant-loop-form
invariant-loop-form l =
    AllByRecursion (λ x. form_value x.form (point_of l.point) ≢ pos 0) l.form-iterator
    ↔ AllByRecursion (λ x. form_value x.form (point_of l.point) ≢ pos 0) (list_of l.list).factors
