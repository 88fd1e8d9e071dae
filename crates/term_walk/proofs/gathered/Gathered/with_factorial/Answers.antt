use Rattle.std.proofs.Common.{◌≡◌, subst, w64}
use Rattle.std.proofs.lemmas.Int.{to_z-of_z}
use Rattle.std.specs.Prelude.{Ok}
use Rattle.lin_form.specs.Forms.{form_of}
use Rattle.term_classes.specs.Walk.{with_factorial}
use Rattle.steps.proofs.AnswerLaws.{fault_answer}
use Rattle.steps.specs.Answers.{HasCause}
use Rattle.steps.specs.TermFaults.{term_cause}
use Rattle.term_walk.specs.Views.{gathered_of, with_factors}
use Rattle.term_walk.proofs.gathered.Gathered.with_factorial.Goals as goal

pub returns-in_err-factors : goal.returns-in_err-factors
returns-in_err-factors c = record {
  answers = fault_answer term_cause gathered_of (with_factorial (form_of c.args.form) c.args.power (gathered_of c.args.self))
      c.from_residual.result c.in_err-factors.field-0.0 c.from_residual.ensures.1
      (subst (λ w. HasCause (with_factorial (form_of c.args.form) w (gathered_of c.args.self)) (term_cause c.in_err-factors.field-0.0))
      (to_z-of_z w64 _ c.ranges.power) (c.in_err-factors.ensures.answers (gathered_of c.args.self)));
}

pub returns : goal.returns
returns c = record {
  answers = subst (λ w. (with_factorial (form_of c.args.form) w (gathered_of c.args.self)).outcome
      ≡ Ok (with_factors (gathered_of c.args.self) c.in_ok-factors.factors))
      (to_z-of_z w64 _ c.ranges.power) (c.in_ok-factors.ensures.answers (gathered_of c.args.self));
}
