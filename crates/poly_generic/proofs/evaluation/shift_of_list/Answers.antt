use Rattle.std.proofs.Common.{◌≡◌, ◌+◌, ◌-◌, map, drop, ap, ◌∙◌, arith}
use Rattle.poly_laws.specs.Shift.{list_shift}
use Rattle.poly_generic.proofs.AnswerLemmas.{fault_list}
use Rattle.poly_generic.proofs.StepAnswers.{shift_fault}
use Rattle.poly_generic.proofs.evaluation.shift_of_list.Goals as goal

-- a step that is out of bounds
pub returns-in_err-shifted : goal.returns-in_err-shifted
returns-in_err-shifted g c =
    let n : c.loop-power.power ≡ c.loop-power.power - 1 + 1 = omega (arith, c.loop-power-test.true) in
    fault_list g.R.Ring.algebra g.R.Ring.meaning _ _ c.from_residual.result c.in_err-shifted.field-0.0 c.from_residual.ensures.1
    (shift_fault g.R.Ring.algebra g.met.R.Ring.laws g.R.Ring.meaning g.met.R.Ring.passes g.met.R.Ring.fits c.args.by.now c.args.list.now
    (c.loop-power.power - 1) c.index-list-power.result (map g.R.Ring.meaning c.loop-power.shifted.items) c.in_err-shifted.field-0.0
    (omega (arith, c.loop-power.invariant.within, c.loop-power-test.true)) c.index-list-power.is
    (c.loop-power.invariant.made
    ∙ ap (λ k. list_shift g.R.Ring.algebra.ops (g.R.Ring.meaning c.args.by.now) (map g.R.Ring.meaning (drop k c.args.list.now))) n)
    c.in_err-shifted.ensures)
