use Rattle.poly_generic.proofs.AnswerLemmas.{list_in_bounds}
use Rattle.poly_generic.proofs.evaluation.bounded_shift.Goals as goal

-- the shift that the test has shown to be in bounds
pub returns : goal.returns
returns g c =
    list_in_bounds g.R.Ring.algebra g.R.Ring.meaning _ _ c.shift_of_list.result
    (c.is_shift_surely_in_bounds.ensures c.if-not-is_shift_surely_in_bounds.false) c.shift_of_list.ensures
