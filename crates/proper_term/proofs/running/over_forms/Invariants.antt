use Rattle.std.specs.Prelude.{◌≢◌, pos}
use Rattle.std.specs.List.{AllByRecursion}
use Rattle.hypergeometric.specs.LinearForm.{form_value}
use Rattle.poly_fraction.specs.FractionOf.{fraction_of}
use Rattle.lin_form.specs.ListOf.{list_of}
use Rattle.proper_term.specs.Fields.{number_fraction_of}
use Rattle.proper_term.specs.Points.{point_of}
use Rattle.proper_term.specs.Runs.{IsInLowestTerms}
use Rattle.proper_term.specs.ValueBounds.{divisors}
use Rattle.proper_term.proofs.Runs.{Reached}
use Rattle.proper_term.proofs.running.over_forms.Given as goal

-- the run has come here in lowest terms, and has the forms that are left to go, of which none is 0
abbrev pub invariant-loop-form : goal.invariant-loop-form
invariant-loop-form l = record {
  reached : Reached (number_fraction_of (fraction_of l.initial.running)) (divisors (list_of l.over).factors (point_of l.point))
      (number_fraction_of (fraction_of l.running)) (divisors l.form-iterator (point_of l.point));
  none_zero : AllByRecursion (λ x. form_value x.form (point_of l.point) ≢ pos 0) l.form-iterator;
  lowest : IsInLowestTerms (number_fraction_of (fraction_of l.running));
}
