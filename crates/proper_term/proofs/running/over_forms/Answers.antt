use Rattle.std.proofs.Common.{sym, ◌∙◌, subst}
use Rattle.std.specs.Prelude.{◌≢◌, pos}
use Rattle.std.specs.List.{AllByRecursion}
use Rattle.ring_laws.specs.Answer.{fault_weaker}
use Rattle.poly_fraction.specs.FractionOf.{fraction_of}
use Rattle.hypergeometric.specs.LinearForm.{form_value}
use Rattle.lin_form.specs.ListOf.{list_of}
use Rattle.proper_term.specs.Fields.{number_fraction_of}
use Rattle.proper_term.specs.Points.{point_of}
use Rattle.proper_term.specs.Runs.{GivesRun}
use Rattle.proper_term.specs.ValueBounds.{divisors}
use Rattle.proper_term.proofs.DivisorRuns.{form_next}
use Rattle.proper_term.proofs.Faults.{handed_on}
use Rattle.proper_term.proofs.Runs.{reached_on, reached_fault, run_lowest}
use Rattle.proper_term.proofs.running.over_forms.Goals as goal

pub over_number-requires-clause-number : goal.over_number-requires-clause-number
over_number-requires-clause-number c = λ e.
    (subst (AllByRecursion (λ x. form_value x.form (point_of c.args.point) ≢ pos 0)) c.in-Some.ensures.steps c.loop-form.invariant.none_zero).0
    (sym c.whole_value_of-number.ensures.value ∙ e)

pub returns-in_err-running : goal.returns-in_err-running
returns-in_err-running c = record {
  run = handed_on (GivesRun fraction_of (number_fraction_of (fraction_of c.args.running)) (divisors
      (list_of c.args.over.now).factors (point_of c.args.point)))
      c.from_residual.result c.in_err-running.field-0.0 c.from_residual.ensures.1
      (fault_weaker c.in_err-running.field-0.0
      (reached_fault _ _ _ _ _ (form_next _ _ (list_of c.args.over.now).factors _ _ _ (point_of c.args.point) c.whole_value_of-number.result.value
      c.in-Some.ensures.steps c.whole_value_of-number.ensures.value
      c.loop-form.invariant.reached)) c.in_err-running.ensures.run);
}

-- one more form
pub loop-form-preserved : goal.loop-form-preserved
loop-form-preserved c = record {
  reached = reached_on _ _ _ _ _ _ (form_next _ _ (list_of c.args.over.now).factors _ _ _ (point_of c.args.point) c.whole_value_of-number.result.value
      c.in-Some.ensures.steps c.whole_value_of-number.ensures.value c.loop-form.invariant.reached) c.in_ok-running.ensures.run;
  none_zero = (subst (AllByRecursion (λ x. form_value x.form (point_of c.args.point) ≢ pos 0)) c.in-Some.ensures.steps c.loop-form.invariant.none_zero).1;
  lowest = run_lowest _ _ _ c.in_ok-running.ensures.run c.loop-form.invariant.lowest;
}
