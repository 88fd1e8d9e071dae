use Rattle.std.proofs.Common.{◌≡◌, ◌≢◌, true, false, sym, subst, w64, arith}
use Rattle.std.proofs.lemmas.Int.{ints, to_z-of_z}
use Rattle.std.specs.Prelude.{pos, Ok}
use Rattle.hypergeometric.specs.ProperTerm.{IsNonzero}
use Rattle.poly_fraction.specs.FractionOf.{fraction_of}
use Rattle.term_classes.specs.Walk.{times_power, times_number}
use Rattle.term_classes.proofs.WalkRows.{whole_nonzero}
use Rattle.steps.proofs.AnswerLaws.{fault_answer}
use Rattle.steps.specs.Answers.{HasCause}
use Rattle.steps.specs.TermFaults.{term_cause}
use Rattle.tree_polynomials.specs.Views.{fraction_value}
use Rattle.term_walk.specs.Views.{gathered_of}
use Rattle.term_walk.proofs.CodePowers.{tested_sign}
use Rattle.term_walk.proofs.LowestFields.{lowest_defined, power_lowest}
use Rattle.term_walk.proofs.ScaleSteps.{zero_refused, number_given, number_fault}
use Rattle.term_walk.proofs.gathered.Gathered.times_number.Goals as goal
use Rattle.term_walk.proofs.gathered.Gathered.times_number.Goals.{then-power-lt0, else-power-lt0}

-- 0, with the reason for the power's sign
pub returns-then-value-eq0 : goal.returns-then-value-eq0
returns-then-value-eq0 c =
    let zero : c.args.number.value ≡ pos 0 = omega (arith, ints, c.if-value-eq0.true, c.value.ensures.value) in
    record {
      answers = elim c.if-power-lt0.branch [
        | then-power-lt0 w ↦ zero_refused c.args.at c.args.number.value c.args.power (gathered_of c.args.self) c.if-power-lt0.reason true zero
            (tested_sign c.args.power true c.ranges.power w.if-power-lt0.true) w.reason-is
        | else-power-lt0 w ↦ zero_refused c.args.at c.args.number.value c.args.power (gathered_of c.args.self) c.if-power-lt0.reason false zero
            (tested_sign c.args.power false c.ranges.power w.if-power-lt0.false) w.reason-is
      ];
    }

pub returns-in_err-scale : goal.returns-in_err-scale
returns-in_err-scale c =
    let some : c.args.number.value ≢ pos 0 = λ e. c.if-value-eq0.false (omega (arith, ints, e, c.value.ensures.value)) in
    record {
      answers = fault_answer term_cause gathered_of (times_number c.args.at c.args.number.value c.args.power (gathered_of c.args.self))
          c.from_residual.result c.in_err-scale.field-0.0 c.from_residual.ensures.1
          (number_fault c.args.at c.args.number.value c.args.power (gathered_of c.args.self) c.in_err-scale.field-0.0 some
          (subst (λ f. HasCause (times_power c.args.at (fraction_value c.args.self.scale) f c.args.power) (term_cause c.in_err-scale.field-0.0))
          c.number_fraction.ensures.value
          (subst (λ w. HasCause (times_power c.args.at (fraction_value c.args.self.scale) (fraction_value c.number_fraction.result) w)
          (term_cause c.in_err-scale.field-0.0)) (to_z-of_z w64 c.args.power c.ranges.power) c.in_err-scale.ensures.answers)));
    }

pub invariant_of-result : goal.invariant_of-result
invariant_of-result c =
    let some : c.args.number.value ≢ pos 0 = λ e. c.if-value-eq0.false (omega (arith, ints, e, c.value.ensures.value)) in
    record {
      not_zero = c.args.self.not_zero;
      lowest = power_lowest c.args.at (fraction_value c.args.self.scale) (fraction_value c.number_fraction.result) _ (fraction_of c.in_ok-scale.scale)
          (lowest_defined (fraction_of c.args.self.scale) c.args.self.lowest)
          (subst IsNonzero (sym c.number_fraction.ensures.value) (whole_nonzero c.args.number.value some)) c.in_ok-scale.ensures.answers;
    }

pub returns : goal.returns
returns c =
    let some : c.args.number.value ≢ pos 0 = λ e. c.if-value-eq0.false (omega (arith, ints, e, c.value.ensures.value)) in
    record {
      answers = number_given c.args.at c.args.number.value c.args.power (gathered_of c.args.self) (fraction_value c.in_ok-scale.scale) some
          (subst (λ f. (times_power c.args.at (fraction_value c.args.self.scale) f c.args.power).outcome ≡ Ok (fraction_value c.in_ok-scale.scale))
          c.number_fraction.ensures.value
          (subst (λ w. (times_power c.args.at (fraction_value c.args.self.scale) (fraction_value c.number_fraction.result) w).outcome
          ≡ Ok (fraction_value c.in_ok-scale.scale)) (to_z-of_z w64 c.args.power c.ranges.power) c.in_ok-scale.ensures.answers));
    }
