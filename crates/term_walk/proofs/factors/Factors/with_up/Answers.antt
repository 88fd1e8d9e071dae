use Rattle.std.proofs.Common.{List, ap, arith, subst}
use Rattle.hypergeometric.specs.LinearForm.{Factor}
use Rattle.hypergeometric.specs.TermFacts.{total_power}
use Rattle.lin_form.specs.Forms.{form_of}
use Rattle.lin_form.specs.ListOf.{list_of}
use Rattle.term_classes.specs.Walk.{with_lists, few_factors}
use Rattle.term_classes.proofs.GatheredLists.{total_with}
use Rattle.steps.specs.Answers.{Answers}
use Rattle.steps.specs.TermFaults.{term_cause}
use Rattle.term_walk.specs.Views.{with_factors}
use Rattle.term_walk.proofs.factors.Factors.with_up.Goals as goal

-- the count is that of the lists
pub within_limit-requires-clause-counted : goal.within_limit-requires-clause-counted
within_limit-requires-clause-counted c =
    let longer = total_with (form_of c.args.form) c.args.power (list_of c.args.self.up).factors in
    omega (arith, ap total_power c.in_ok-up.ensures.factors, longer, c.args.self.counted)

pub returns : goal.returns
returns c = record {
  answers = λ f. subst (λ (xs : List Factor). Answers term_cause (with_factors f)
      (few_factors (with_lists xs (list_of c.args.self.down).factors (list_of c.args.self.over).factors f.guard f)) c.within_limit.result)
      c.in_ok-up.ensures.factors (c.within_limit.ensures.answers f);
}
