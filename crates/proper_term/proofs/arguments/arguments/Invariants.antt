use Rattle.std.proofs.Common.{◌≡◌, ◌++◌, map}
use Rattle.lin_form.specs.ListOf.{list_of}
use Rattle.proper_term.specs.Cancelled.{arguments_at}
use Rattle.proper_term.specs.Cursors.{argument_of}
use Rattle.proper_term.specs.Points.{point_of}
use Rattle.proper_term.proofs.arguments.arguments.Given as goal

-- those of the forms so far, followed by those of the forms that are left
abbrev pub invariant-loop-form : goal.invariant-loop-form
invariant-loop-form l = map argument_of l.found.items ++ arguments_at (point_of l.point) l.form-iterator ≡ arguments_at (point_of l.point) (list_of l.list).factors
