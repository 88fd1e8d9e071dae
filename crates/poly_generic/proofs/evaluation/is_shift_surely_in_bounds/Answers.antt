use Rattle.std.proofs.Common.{sym, ◌∙◌}
use Rattle.poly_generic.proofs.SureShifts.{surely_shifted}
use Rattle.poly_generic.proofs.evaluation.is_shift_surely_in_bounds.Goals as goal

-- the value of the magnitudes at one more covers each coefficient
pub returns : goal.returns
returns g c h =
    surely_shifted g.R.Ring.algebra g.met.R.Ring.laws g.R.Ring.meaning g.met.R.Ring.passes g.met.R.Ring.fits c.args.list.now c.args.by.now
    c.in-Ok.one c.in-Ok-magnitude.size c.in-Ok-add.above c.value_of_magnitudes.result c.in-Ok.ensures.gives c.in-Ok-magnitude.ensures.gives
    c.in-Ok-add.ensures.gives.1 (sym c.is_ok.ensures.value ∙ h) c.value_of_magnitudes.ensures
