use Rattle.std.proofs.Common.{◌++◌, [], ◌∷◌, ap, sym, ◌∙◌, List, map, append_assoc, append-nil}
use Rattle.std.specs.Prelude.{unsigned_abs}
use Rattle.hypergeometric.specs.LinearForm.{Factor}
use Rattle.proper_term.specs.Cancelled.{Argument, arguments_at}
use Rattle.proper_term.specs.Cursors.{argument_of}
use Rattle.proper_term.specs.Points.{point_of}
use Rattle.proper_term.proofs.NextArguments.{map_ended, argument_with}
use Rattle.proper_term.proofs.arguments.arguments.Goals as goal

-- no form yet
pub loop-form-init : goal.loop-form-init
loop-form-init c =
    ap (λ (xs : List Argument). xs ++ arguments_at (point_of c.args.point) c.into_iter-form-iterator.result) (ap (map argument_of) c.new-found.ensures.items)
    ∙ ap (arguments_at (point_of c.args.point)) (c.into_iter-form-iterator.ensures.into_iter_gives ∙ c.iter-form-items.ensures.items)

-- one more form
pub loop-form-preserved : goal.loop-form-preserved
loop-form-preserved c =
    let before = map argument_of c.loop-form.found.items in
    let after = arguments_at (point_of c.args.point) c.next.new.self in
    ap (λ (ys : List Argument). ys ++ after) (ap (map argument_of) c.in_ok-push.ensures.items ∙ map_ended argument_of c.loop-form.found.items _)
    ∙ append_assoc before (argument_with c.magnitude-number.result c.in-Some.power ∷ []) after
    ∙ (λ i. before ++ argument_with ((c.magnitude-number.ensures.magnitude ∙ ap unsigned_abs c.whole_value_of.ensures.value) i) c.in-Some.power ∷ after)
    ∙ ap (λ (ys : List Factor). before ++ arguments_at (point_of c.args.point) ys) (sym c.in-Some.ensures.steps)
    ∙ c.loop-form.invariant

-- no form is left
pub returns-clause-arguments : goal.returns-clause-arguments
returns-clause-arguments c =
    sym (append-nil (map argument_of c.loop-form.found.items))
    ∙ ap (λ (ys : List Factor). map argument_of c.loop-form.found.items ++ arguments_at (point_of c.args.point) ys) (sym c.in-None.ensures.steps.0)
    ∙ c.loop-form.invariant
