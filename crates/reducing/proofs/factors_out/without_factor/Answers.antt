use Rattle.std.specs.Prelude.{◌≡◌}
use Rattle.std.proofs.Common.{Ok, subst, arith}
use Rattle.ring_laws.specs.Algebra.{Passing}
use Rattle.ring_laws.specs.Answer.{OnFault}
use Rattle.whole_roots.specs.Differences.{polynomials}
use Rattle.kernel_laws.specs.RowSteps.{QuotientsInBounds}
use Rattle.reducing.specs.RowAnswer.{DividesRow}
use Rattle.reducing.specs.TakenOut.{TakenOut}
use Rattle.reducing.specs.PolynomialRows.{OfRows, DivisionOfPolynomials}
use Rattle.reducing.specs.PolynomialAnswers.{FactorInBounds}
use Rattle.reducing.proofs.Polynomials.{Zn, sense, sense_passes, senses}
use Rattle.reducing.proofs.WithoutFactor.{IsLeft, left_first, left_more, taken_out, none_taken, most_taken, fault_left, fault_row}
use Rattle.reducing.proofs.factors_out.without_factor.Goals as goal

abbrev value : Zn → Passing polynomials
value form = (sense form, sense_passes form)

pub loop-time-init : goal.loop-time-init
loop-time-init c = record { within = omega arith; left = left_first (value c.args.form.now) c.args.row.items }

pub returns-in_err-quotients : goal.returns-in_err-quotients
returns-in_err-quotients c =
    let row = c.args.row.items in
    let rest = c.loop-time.rest.items in
    let form = sense c.args.form.now in
    record {
      takes_out =
          fault_row (OfRows (TakenOut polynomials form) (senses row)) (FactorInBounds form (senses row)) c.from_residual.result
          c.in_err-quotients.field-0.0 c.from_residual.ensures.1
          (fault_left (value c.args.form.now) c.loop-time._time row rest c.in_err-quotients.field-0.0 c.loop-time.invariant.left
          (subst (λ r. OnFault (¬ (QuotientsInBounds DivisionOfPolynomials polynomials form (senses r))) c.in_err-quotients.field-0.0)
          c.deref.ensures.value c.in_err-quotients.ensures.divides));
    }

pub returns-in-None : goal.returns-in-None
returns-in-None c =
    let rest = c.loop-time.rest.items in
    let form = sense c.args.form.now in
    record {
      takes_out =
          none_taken (value c.args.form.now) c.loop-time._time c.args.row.items rest c.loop-time.invariant.left
          (subst (λ o. DividesRow sense polynomials DivisionOfPolynomials (senses rest) form (Ok o)) c.in-None.is
          (subst (λ r. DividesRow sense polynomials DivisionOfPolynomials (senses r) form (Ok c.in_ok-quotients.field-0)) c.deref.ensures.value
          c.in_ok-quotients.ensures.divides));
    }

pub loop-time-preserved : goal.loop-time-preserved
loop-time-preserved c =
    let rest = c.loop-time.rest.items in
    let form = sense c.args.form.now in
    record {
      within = omega (arith, c.loop-time-test.true);
      left =
          left_more (value c.args.form.now) c.loop-time._time c.args.row.items rest c.in-Some.quotients.items c.loop-time.invariant.left
          (subst (λ o. DividesRow sense polynomials DivisionOfPolynomials (senses rest) form (Ok o)) c.in-Some.is
          (subst (λ r. DividesRow sense polynomials DivisionOfPolynomials (senses r) form (Ok c.in_ok-quotients.field-0)) c.deref.ensures.value
          c.in_ok-quotients.ensures.divides));
    }

pub returns : goal.returns
returns c =
    let row = c.args.row.items in
    let rest = c.loop-time.rest.items in
    let at_most : c.loop-time._time ≡ c.args.most = omega (arith, c.loop-time-test.false, c.loop-time.invariant.within) in
    let left : IsLeft (sense c.args.form.now) c.args.most row rest =
    subst (λ n. IsLeft (sense c.args.form.now) n row rest) at_most c.loop-time.invariant.left in
    record {
      takes_out =
          taken_out (value c.args.form.now) c.args.most row rest left
          (most_taken (value c.args.form.now) c.args.most row rest c.requires.most left);
    }
