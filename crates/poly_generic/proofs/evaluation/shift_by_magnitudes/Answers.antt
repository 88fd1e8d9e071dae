use Rattle.std.proofs.Common.{map, ap, ◌∙◌, subst}
use Rattle.ring_laws.specs.Answer.{OnFault}
use Rattle.poly_laws.specs.Shift.{list_shift, ListShiftInBounds}
use Rattle.poly_generic.proofs.AnswerLemmas.{fault_list_in_bounds, list_in_bounds}
use Rattle.poly_generic.proofs.EvalAnswers.{shift_bound_fault, shift_bounded}
use Rattle.poly_generic.proofs.evaluation.shift_by_magnitudes.Goals as goal

-- the shift of the magnitudes doesn't fit
pub returns-in_err-_bound : goal.returns-in_err-_bound
returns-in_err-_bound g c =
    let a = g.R.Ring.algebra in
    let M = g.R.Ring.meaning in
    fault_list_in_bounds a M _ _ c.from_residual-in_err-_bound.result c.in_err-_bound.field-0.0 c.from_residual-in_err-_bound.ensures.1
    (shift_bound_fault a g.met.R.Ring.laws M g.met.R.Ring.passes g.met.R.Ring.fits c.args.by.now c.args.list.now (M c.in_ok-size.size)
    (map M c.in_ok-sizes.sizes.items) c.in_err-_bound.field-0.0 c.in_ok-size.ensures.gives c.in_ok-sizes.ensures
    (subst (λ t. OnFault (¬ (ListShiftInBounds a (M c.in_ok-size.size) (map M t))) c.in_err-_bound.field-0.0) c.deref.ensures.value
    c.in_err-_bound.ensures))

-- the shift, where that of the magnitudes is a list of values too
pub returns : goal.returns
returns g c =
    let a = g.R.Ring.algebra in
    let M = g.R.Ring.meaning in
    list_in_bounds a M _ _ c.shift_of_list-2.result
    (shift_bounded a g.met.R.Ring.laws M g.met.R.Ring.passes g.met.R.Ring.fits c.args.by.now c.args.list.now c.in_ok-_bound._bound.items
    (M c.in_ok-size.size) (map M c.in_ok-sizes.sizes.items) c.in_ok-size.ensures.gives c.in_ok-sizes.ensures
    (c.in_ok-_bound.ensures ∙ ap (λ t. list_shift a.ops (M c.in_ok-size.size) (map M t)) c.deref.ensures.value)) c.shift_of_list-2.ensures
