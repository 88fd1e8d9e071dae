use Rattle.std.proofs.Common.{arith}
use Rattle.std.proofs.lemmas.Int.{ints}
use Rattle.std.specs.Prelude.{◌≤ℤ◌, pos}
use Rattle.hypergeometric.specs.LinearForm.{form_value}
use Rattle.lin_form.specs.ListOf.{list_of}
use Rattle.proper_term.specs.Points.{point_of}
use Rattle.proper_term.proofs.ListItems.{all_from}
use Rattle.proper_term.proofs.point.none_negative.Goals as goal

-- one more item is right
pub loop-form-preserved : goal.loop-form-preserved
loop-form-preserved c =
    all_from (λ x. pos 0 ≤ℤ form_value x.form (point_of c.args.point)) (list_of c.args.list.now).factors _ _ _
    c.in-Some.ensures.steps c.loop-form.invariant (omega (arith, ints))
