use Rattle.std.proofs.Common.{arith}
use Rattle.std.proofs.lemmas.Int.{ints}
use Rattle.lin_form.specs.Forms.{form_of}
use Rattle.gosper_form.proofs.NormalShifted.{first_by_match}
use Rattle.gosper_form.proofs.normal_candidates.first_shift.Goals as goal

-- a form with k matches another one where it is that one at the earlier k
pub returns-then-k_slope-gt0 : goal.returns-then-k_slope-gt0
returns-then-k_slope-gt0 c = record {
  shift = first_by_match (form_of c.args.form.now) (form_of c.args.earlier.now) _ (omega (arith, ints, c.if-k_slope-gt0.true, c.k_slope.ensures.k_slope))
      c.match_shift.ensures.matches;
}
