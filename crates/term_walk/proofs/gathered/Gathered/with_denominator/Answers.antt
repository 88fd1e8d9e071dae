use Rattle.std.proofs.Common.{◌≡◌, ap, sym, ◌∙◌, subst}
use Rattle.std.specs.Prelude.{pos, neg_ℤ, Ok}
use Rattle.steps.specs.Answers.{HasCause}
use Rattle.steps.specs.TermFaults.{term_cause}
use Rattle.steps.proofs.AnswerLaws.{fault_answer}
use Rattle.poly_fraction.specs.FractionOf.{fraction_of}
use Rattle.hypergeometric.specs.Fraction.{Fraction, of_whole}
use Rattle.hypergeometric.specs.ProperTerm.{IsNonzero}
use Rattle.hypergeometric.specs.FactorLists.{with_factor}
use Rattle.hypergeometric.specs.PrimitiveForm.{content_of_form, primitive_form}
use Rattle.hypergeometric.proofs.Contents.{content_not_zero}
use Rattle.hypergeometric.proofs.PrimitiveForms.{some_number}
use Rattle.lin_form.specs.Forms.{form_of}
use Rattle.lin_form.specs.ListOf.{list_of}
use Rattle.term_classes.specs.Walk.{with_lists, few_factors, times_power, with_denominator}
use Rattle.term_classes.proofs.WalkRows.{whole_nonzero}
use Rattle.tree_polynomials.specs.Views.{fraction_value}
use Rattle.term_walk.specs.Views.{gathered_of, with_factors}
use Rattle.term_walk.proofs.CodePowers.{opposite_is, fraction_is}
use Rattle.term_walk.proofs.LowestFields.{lowest_defined, power_lowest}
use Rattle.term_walk.proofs.FormContents.{IsContent, content_found, content_fits}
use Rattle.term_walk.proofs.ScaleSteps.{denominator_given, more_fault, content_fault}
use Rattle.term_walk.proofs.gathered.Gathered.with_denominator.Goals as goal

-- too many factors
pub returns-in_err-factors : goal.returns-in_err-factors
returns-in_err-factors c =
    let found : IsContent (form_of c.args.form) c.primitive-content.result.0 (form_of c.primitive-content.result.1) =
    content_found (form_of c.args.form) _ _ c.requires.not_zero c.primitive-content.ensures.only in
    record {
      answers = fault_answer term_cause gathered_of (with_denominator c.args.at (form_of c.args.form) c.args.power (gathered_of c.args.self))
          c.from_residual.result c.in_err-factors.field-0.0 c.from_residual.ensures.1
          (more_fault c.args.at (form_of c.args.form) c.args.power (gathered_of c.args.self) c.in_err-factors.field-0.0
          (subst (λ l. HasCause (few_factors (with_lists (list_of c.args.self.factors.up).factors (list_of c.args.self.factors.down).factors
          (with_factor l c.args.power (list_of c.args.self.factors.over).factors) (gathered_of c.args.self).guard (gathered_of c.args.self)))
          (term_cause c.in_err-factors.field-0.0)) found.primitive (c.in_err-factors.ensures.answers (gathered_of c.args.self))));
    }

-- the content isn't 0
pub times_power_of-requires-clause-not_zero : goal.times_power_of-requires-clause-not_zero
times_power_of-requires-clause-not_zero c =
    let found : IsContent (form_of c.args.form) c.primitive-content.result.0 (form_of c.primitive-content.result.1) =
    content_found (form_of c.args.form) _ _ c.requires.not_zero c.primitive-content.ensures.only in
    let content : fraction_value c.number_fraction-content.result ≡ of_whole (content_of_form (form_of c.args.form)) =
    fraction_is _ c.from.result c.primitive-content.result.0 _ (record { sfits = c.from.type_inv })
    (content_fits (form_of c.args.form) _ (record {
      n_slope = c.args.form.small_n_slope;
      k_slope = c.args.form.small_k_slope;
      offset = c.args.form.small_offset;
    }) (some_number (form_of c.args.form) c.requires.not_zero) found.content) c.number_fraction-content.ensures.value c.from.ensures found.content in
    λ z. content_not_zero (form_of c.args.form) (some_number (form_of c.args.form) c.requires.not_zero)
    (sym (ap (λ (f : Fraction). f.top) content) ∙ z)

pub returns-in_err-scale : goal.returns-in_err-scale
returns-in_err-scale c =
    let found : IsContent (form_of c.args.form) c.primitive-content.result.0 (form_of c.primitive-content.result.1) =
    content_found (form_of c.args.form) _ _ c.requires.not_zero c.primitive-content.ensures.only in
    let content : fraction_value c.number_fraction-content.result ≡ of_whole (content_of_form (form_of c.args.form)) =
    fraction_is _ c.from.result c.primitive-content.result.0 _ (record { sfits = c.from.type_inv })
    (content_fits (form_of c.args.form) _ (record {
      n_slope = c.args.form.small_n_slope;
      k_slope = c.args.form.small_k_slope;
      offset = c.args.form.small_offset;
    }) (some_number (form_of c.args.form) c.requires.not_zero) found.content) c.number_fraction-content.ensures.value c.from.ensures found.content in
    let few : (few_factors (with_lists (list_of c.args.self.factors.up).factors (list_of c.args.self.factors.down).factors
    (with_factor (primitive_form (form_of c.args.form)) c.args.power (list_of c.args.self.factors.over).factors) (gathered_of c.args.self).guard
    (gathered_of c.args.self))).outcome ≡ Ok (with_factors (gathered_of c.args.self) c.in_ok-factors.factors) =
    subst (λ l. (few_factors (with_lists (list_of c.args.self.factors.up).factors (list_of c.args.self.factors.down).factors
    (with_factor l c.args.power (list_of c.args.self.factors.over).factors) (gathered_of c.args.self).guard (gathered_of c.args.self))).outcome
    ≡ Ok (with_factors (gathered_of c.args.self) c.in_ok-factors.factors)) found.primitive
    (c.in_ok-factors.ensures.answers (gathered_of c.args.self)) in
    record {
      answers = fault_answer term_cause gathered_of (with_denominator c.args.at (form_of c.args.form) c.args.power (gathered_of c.args.self))
          c.from_residual-in_err-scale.result c.in_err-scale.field-0.0 c.from_residual-in_err-scale.ensures.1
          (content_fault c.args.at (form_of c.args.form) c.args.power (gathered_of c.args.self)
          (with_factors (gathered_of c.args.self) c.in_ok-factors.factors) c.in_err-scale.field-0.0 few
          (subst (λ f. HasCause (times_power c.args.at (fraction_value c.args.self.scale) f (neg_ℤ (pos c.args.power)))
          (term_cause c.in_err-scale.field-0.0)) content
          (subst (λ w. HasCause (times_power c.args.at (fraction_value c.args.self.scale) (fraction_value c.number_fraction-content.result) w)
          (term_cause c.in_err-scale.field-0.0))
          (opposite_is c.from-2.result c.args.power (record { sfits = c.from-2.type_inv }) c.from-2.ensures c.requires.small)
          c.in_err-scale.ensures.answers)));
    }

pub invariant_of-result : goal.invariant_of-result
invariant_of-result c =
    let found : IsContent (form_of c.args.form) c.primitive-content.result.0 (form_of c.primitive-content.result.1) =
    content_found (form_of c.args.form) _ _ c.requires.not_zero c.primitive-content.ensures.only in
    let content : fraction_value c.number_fraction-content.result ≡ of_whole (content_of_form (form_of c.args.form)) =
    fraction_is _ c.from.result c.primitive-content.result.0 _ (record { sfits = c.from.type_inv })
    (content_fits (form_of c.args.form) _ (record {
      n_slope = c.args.form.small_n_slope;
      k_slope = c.args.form.small_k_slope;
      offset = c.args.form.small_offset;
    }) (some_number (form_of c.args.form) c.requires.not_zero) found.content) c.number_fraction-content.ensures.value c.from.ensures found.content in
    record {
      not_zero = c.args.self.not_zero;
      lowest = power_lowest c.args.at (fraction_value c.args.self.scale) (fraction_value c.number_fraction-content.result) _
          (fraction_of c.in_ok-scale.scale)
          (lowest_defined (fraction_of c.args.self.scale) c.args.self.lowest)
          (subst IsNonzero (sym content) (whole_nonzero (content_of_form (form_of c.args.form))
          (content_not_zero (form_of c.args.form) (some_number (form_of c.args.form) c.requires.not_zero)))) c.in_ok-scale.ensures.answers;
    }

pub returns : goal.returns
returns c =
    let found : IsContent (form_of c.args.form) c.primitive-content.result.0 (form_of c.primitive-content.result.1) =
    content_found (form_of c.args.form) _ _ c.requires.not_zero c.primitive-content.ensures.only in
    let content : fraction_value c.number_fraction-content.result ≡ of_whole (content_of_form (form_of c.args.form)) =
    fraction_is _ c.from.result c.primitive-content.result.0 _ (record { sfits = c.from.type_inv })
    (content_fits (form_of c.args.form) _ (record {
      n_slope = c.args.form.small_n_slope;
      k_slope = c.args.form.small_k_slope;
      offset = c.args.form.small_offset;
    }) (some_number (form_of c.args.form) c.requires.not_zero) found.content) c.number_fraction-content.ensures.value c.from.ensures found.content in
    let few : (few_factors (with_lists (list_of c.args.self.factors.up).factors (list_of c.args.self.factors.down).factors
    (with_factor (primitive_form (form_of c.args.form)) c.args.power (list_of c.args.self.factors.over).factors) (gathered_of c.args.self).guard
    (gathered_of c.args.self))).outcome ≡ Ok (with_factors (gathered_of c.args.self) c.in_ok-factors.factors) =
    subst (λ l. (few_factors (with_lists (list_of c.args.self.factors.up).factors (list_of c.args.self.factors.down).factors
    (with_factor l c.args.power (list_of c.args.self.factors.over).factors) (gathered_of c.args.self).guard (gathered_of c.args.self))).outcome
    ≡ Ok (with_factors (gathered_of c.args.self) c.in_ok-factors.factors)) found.primitive
    (c.in_ok-factors.ensures.answers (gathered_of c.args.self)) in
    record {
      answers = denominator_given c.args.at (form_of c.args.form) c.args.power (gathered_of c.args.self)
          (with_factors (gathered_of c.args.self) c.in_ok-factors.factors) (fraction_value c.in_ok-scale.scale) few
          (subst (λ f. (times_power c.args.at (fraction_value c.args.self.scale) f (neg_ℤ (pos c.args.power))).outcome
          ≡ Ok (fraction_value c.in_ok-scale.scale))
          content
          (subst (λ w. (times_power c.args.at (fraction_value c.args.self.scale) (fraction_value c.number_fraction-content.result) w).outcome
          ≡ Ok (fraction_value c.in_ok-scale.scale))
          (opposite_is c.from-2.result c.args.power (record { sfits = c.from-2.type_inv }) c.from-2.ensures c.requires.small)
          c.in_ok-scale.ensures.answers));
    }
