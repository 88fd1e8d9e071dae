use Rattle.std.proofs.Common.{◌≡◌, sym, subst}
use Rattle.std.specs.Prelude.{unsigned_abs}
use Rattle.steps.specs.Answers.{Answers}
use Rattle.steps.specs.TermFaults.{term_cause}
use Rattle.hypergeometric.specs.FactorLists.{with_factor}
use Rattle.lin_form.specs.Forms.{form_of}
use Rattle.lin_form.specs.ListOf.{list_of}
use Rattle.term_classes.specs.Walk.{with_lists, few_factors}
use Rattle.term_walk.specs.Views.{with_factors}
use Rattle.term_walk.proofs.CodePowers.{is_positive, is_not_positive, size_is}
use Rattle.term_walk.proofs.FactorialSides.{above, below}
use Rattle.term_walk.proofs.factors.Factors.with_factorial.Goals as goal

pub returns-then-power-gt0 : goal.returns-then-power-gt0
returns-then-power-gt0 c =
    let same : c.unsigned_abs-count.result ≡ unsigned_abs c.args.power = size_is c.args.power _ c.ranges.power c.unsigned_abs-count.ensures.value in
    record {
      answers = λ f. subst (λ s. Answers term_cause (with_factors f) s c.with_up.result)
          (sym (above (form_of c.args.form) c.args.power (with_factors f c.args.self) (is_positive c.args.power c.ranges.power c.if-power-gt0.true)))
          (subst (λ m. Answers term_cause (with_factors f) (few_factors
          (with_lists (with_factor (form_of c.args.form) m (list_of c.args.self.up).factors)
          (list_of c.args.self.down).factors (list_of c.args.self.over).factors f.guard f)) c.with_up.result) same (c.with_up.ensures.answers f));
    }

pub returns-else-power-gt0 : goal.returns-else-power-gt0
returns-else-power-gt0 c =
    let same : c.unsigned_abs-count.result ≡ unsigned_abs c.args.power = size_is c.args.power _ c.ranges.power c.unsigned_abs-count.ensures.value in
    record {
      answers = λ f. subst (λ s. Answers term_cause (with_factors f) s c.with_down.result)
          (sym (below (form_of c.args.form) c.args.power (with_factors f c.args.self) c.requires.not_zero
          (is_not_positive c.args.power c.ranges.power c.if-power-gt0.false)))
          (subst (λ m. Answers term_cause (with_factors f) (few_factors
          (with_lists (list_of c.args.self.up).factors (with_factor (form_of c.args.form) m
          (list_of c.args.self.down).factors) (list_of c.args.self.over).factors f.guard f)) c.with_down.result) same
          (c.with_down.ensures.answers f));
    }
