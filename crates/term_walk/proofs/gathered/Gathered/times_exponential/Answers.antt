use Rattle.std.proofs.Common.{◌≡◌, subst, w64, to_z, of_z}
use Rattle.std.specs.Prelude.{◌*ℤ◌, Ok}
use Rattle.lin_form.specs.Forms.{form_of}
use Rattle.poly_fraction.specs.FractionOf.{fraction_of}
use Rattle.term_classes.specs.Walk.{times_power, times_exponential}
use Rattle.steps.proofs.AnswerLaws.{fault_answer}
use Rattle.steps.specs.Answers.{HasCause}
use Rattle.steps.specs.TermFaults.{term_cause}
use Rattle.tree_polynomials.specs.Views.{fraction_value}
use Rattle.term_walk.specs.Views.{gathered_of}
use Rattle.term_walk.proofs.CodePowers.{exponent_is}
use Rattle.term_walk.proofs.LowestFields.{lowest_defined, tested_nonzero, power_lowest}
use Rattle.term_walk.proofs.ScaleSteps.{exponential_given, n_fault, k_fault, scale_fault}
use Rattle.term_walk.proofs.gathered.Gathered.times_exponential.Goals as goal

pub returns-in_err-n_base : goal.returns-in_err-n_base
returns-in_err-n_base c =
    let of_n : to_z w64 (of_z w64 c.product-n_power.result) ≡ c.args.power *ℤ c.args.exponent.n_slope =
    exponent_is c.product-n_power.result c.args.power c.n_slope.result c.args.exponent.n_slope
    (record { sfits = c.product-n_power.type_inv }) c.ranges.power
    (record { sfits = c.n_slope.type_inv }) c.product-n_power.ensures.product c.n_slope.ensures.n_slope in
    record {
      answers = fault_answer term_cause gathered_of (times_exponential c.args.at (fraction_value c.args.base.now)
          (form_of c.args.exponent) c.args.power (gathered_of c.args.self)
          )
          c.from_residual.result c.in_err-n_base.field-0.0 c.from_residual.ensures.1
          (n_fault c.args.at (fraction_value c.args.base.now) (form_of c.args.exponent) c.args.power (gathered_of c.args.self)
          c.in_err-n_base.field-0.0
          (subst (λ w. HasCause (times_power c.args.at (fraction_value c.args.self.n_base) (fraction_value c.args.base.now) w)
          (term_cause c.in_err-n_base.field-0.0)) of_n
          c.in_err-n_base.ensures.answers));
    }

pub returns-in_err-k_base : goal.returns-in_err-k_base
returns-in_err-k_base c =
    let of_n : to_z w64 (of_z w64 c.product-n_power.result) ≡ c.args.power *ℤ c.args.exponent.n_slope =
    exponent_is c.product-n_power.result c.args.power c.n_slope.result c.args.exponent.n_slope
    (record { sfits = c.product-n_power.type_inv }) c.ranges.power
    (record { sfits = c.n_slope.type_inv }) c.product-n_power.ensures.product c.n_slope.ensures.n_slope in
    let of_k : to_z w64 (of_z w64 c.product-k_power.result) ≡ c.args.power *ℤ c.args.exponent.k_slope =
    exponent_is c.product-k_power.result c.args.power c.k_slope.result c.args.exponent.k_slope
    (record { sfits = c.product-k_power.type_inv }) c.ranges.power
    (record { sfits = c.k_slope.type_inv }) c.product-k_power.ensures.product c.k_slope.ensures.k_slope in
    record {
      answers = fault_answer term_cause gathered_of (times_exponential c.args.at (fraction_value c.args.base.now)
          (form_of c.args.exponent) c.args.power (gathered_of c.args.self)
          )
          c.from_residual-in_err-k_base.result c.in_err-k_base.field-0.0 c.from_residual-in_err-k_base.ensures.1
          (k_fault c.args.at (fraction_value c.args.base.now) (form_of c.args.exponent) c.args.power (gathered_of c.args.self)
          (fraction_value c.in_ok-n_base.n_base) c.in_err-k_base.field-0.0
          (subst (λ w. (times_power c.args.at (fraction_value c.args.self.n_base) (fraction_value c.args.base.now) w).outcome
          ≡ Ok (fraction_value c.in_ok-n_base.n_base)) of_n
          c.in_ok-n_base.ensures.answers)
          (subst (λ w. HasCause (times_power c.args.at (fraction_value c.args.self.k_base) (fraction_value c.args.base.now) w)
          (term_cause c.in_err-k_base.field-0.0)) of_k
          c.in_err-k_base.ensures.answers));
    }

pub returns-in_err-scale : goal.returns-in_err-scale
returns-in_err-scale c =
    let of_n : to_z w64 (of_z w64 c.product-n_power.result) ≡ c.args.power *ℤ c.args.exponent.n_slope =
    exponent_is c.product-n_power.result c.args.power c.n_slope.result c.args.exponent.n_slope
    (record { sfits = c.product-n_power.type_inv }) c.ranges.power
    (record { sfits = c.n_slope.type_inv }) c.product-n_power.ensures.product c.n_slope.ensures.n_slope in
    let of_k : to_z w64 (of_z w64 c.product-k_power.result) ≡ c.args.power *ℤ c.args.exponent.k_slope =
    exponent_is c.product-k_power.result c.args.power c.k_slope.result c.args.exponent.k_slope
    (record { sfits = c.product-k_power.type_inv }) c.ranges.power
    (record { sfits = c.k_slope.type_inv }) c.product-k_power.ensures.product c.k_slope.ensures.k_slope in
    let of_scale : to_z w64 (of_z w64 c.product-scale_power.result) ≡ c.args.power *ℤ c.args.exponent.offset =
    exponent_is c.product-scale_power.result c.args.power c.offset.result c.args.exponent.offset
    (record { sfits = c.product-scale_power.type_inv }) c.ranges.power
    (record { sfits = c.offset.type_inv }) c.product-scale_power.ensures.product c.offset.ensures.offset in
    record {
      answers = fault_answer term_cause gathered_of (times_exponential c.args.at (fraction_value c.args.base.now)
          (form_of c.args.exponent) c.args.power (gathered_of c.args.self)
          )
          c.from_residual-in_err-scale.result c.in_err-scale.field-0.0 c.from_residual-in_err-scale.ensures.1
          (scale_fault c.args.at (fraction_value c.args.base.now) (form_of c.args.exponent) c.args.power (gathered_of c.args.self)
          (fraction_value c.in_ok-n_base.n_base) (fraction_value c.in_ok-k_base.k_base) c.in_err-scale.field-0.0
          (subst (λ w. (times_power c.args.at (fraction_value c.args.self.n_base) (fraction_value c.args.base.now) w).outcome
          ≡ Ok (fraction_value c.in_ok-n_base.n_base)) of_n
          c.in_ok-n_base.ensures.answers)
          (subst (λ w. (times_power c.args.at (fraction_value c.args.self.k_base) (fraction_value c.args.base.now) w).outcome
          ≡ Ok (fraction_value c.in_ok-k_base.k_base)) of_k
          c.in_ok-k_base.ensures.answers)
          (subst (λ w. HasCause (times_power c.args.at (fraction_value c.args.self.scale) (fraction_value c.args.base.now) w)
          (term_cause c.in_err-scale.field-0.0)) of_scale
          c.in_err-scale.ensures.answers));
    }

pub invariant_of-result : goal.invariant_of-result
invariant_of-result c = record {
  not_zero = c.args.self.not_zero;
  lowest = power_lowest c.args.at (fraction_value c.args.self.scale) (fraction_value c.args.base.now) _ (fraction_of c.in_ok-scale.scale)
      (lowest_defined (fraction_of c.args.self.scale) c.args.self.lowest)
      (record { top = c.requires.base_not_zero; bottom = tested_nonzero c.args.base.now.bottom.value c.args.base.now.nonzero })
      c.in_ok-scale.ensures.answers;
}

pub returns : goal.returns
returns c =
    let of_n : to_z w64 (of_z w64 c.product-n_power.result) ≡ c.args.power *ℤ c.args.exponent.n_slope =
    exponent_is c.product-n_power.result c.args.power c.n_slope.result c.args.exponent.n_slope
    (record { sfits = c.product-n_power.type_inv }) c.ranges.power
    (record { sfits = c.n_slope.type_inv }) c.product-n_power.ensures.product c.n_slope.ensures.n_slope in
    let of_k : to_z w64 (of_z w64 c.product-k_power.result) ≡ c.args.power *ℤ c.args.exponent.k_slope =
    exponent_is c.product-k_power.result c.args.power c.k_slope.result c.args.exponent.k_slope
    (record { sfits = c.product-k_power.type_inv }) c.ranges.power
    (record { sfits = c.k_slope.type_inv }) c.product-k_power.ensures.product c.k_slope.ensures.k_slope in
    let of_scale : to_z w64 (of_z w64 c.product-scale_power.result) ≡ c.args.power *ℤ c.args.exponent.offset =
    exponent_is c.product-scale_power.result c.args.power c.offset.result c.args.exponent.offset
    (record { sfits = c.product-scale_power.type_inv }) c.ranges.power
    (record { sfits = c.offset.type_inv }) c.product-scale_power.ensures.product c.offset.ensures.offset in
    record {
      answers = exponential_given c.args.at (fraction_value c.args.base.now) (form_of c.args.exponent) c.args.power (gathered_of c.args.self)
          (fraction_value c.in_ok-n_base.n_base) (fraction_value c.in_ok-k_base.k_base) (fraction_value c.in_ok-scale.scale)
          (subst (λ w. (times_power c.args.at (fraction_value c.args.self.n_base) (fraction_value c.args.base.now) w).outcome
          ≡ Ok (fraction_value c.in_ok-n_base.n_base)) of_n
          c.in_ok-n_base.ensures.answers)
          (subst (λ w. (times_power c.args.at (fraction_value c.args.self.k_base) (fraction_value c.args.base.now) w).outcome
          ≡ Ok (fraction_value c.in_ok-k_base.k_base)) of_k
          c.in_ok-k_base.ensures.answers)
          (subst (λ w. (times_power c.args.at (fraction_value c.args.self.scale) (fraction_value c.args.base.now) w).outcome
          ≡ Ok (fraction_value c.in_ok-scale.scale)) of_scale
          c.in_ok-scale.ensures.answers);
    }
