use Rattle.std.proofs.lemmas.Result.{err_from_is_err_and}
use Rattle.std.specs.Prelude.{ℤ}
use Rattle.hypergeometric.specs.LinearForm.{LinearForm}
use Rattle.hypergeometric.specs.ProperTerm.{ProperTerm}
use Rattle.lin_form.specs.Forms.{form_of}
use Rattle.steps.proofs.AnswerLaws.{first_cause}
use Rattle.steps.proofs.Leading.{leads_on, leads_answer}
use Rattle.steps.specs.Steps.{◌then◌}
use Rattle.steps.specs.TermFaults.{term_cause}
use Rattle.term_classes.specs.Forms.{limited_form}
use Rattle.term_walk.specs.Views.{gathered_of, wide_form_of}
use Rattle.term_walk.specs.WalkRows.{factorials_left}
use Rattle.term_walk.proofs.HeldNumbers.{held}
use Rattle.term_walk.proofs.BinomialLeads.{first_limited, second_limited, third_limited}
use Rattle.term_walk.proofs.factorials.times_three_forms.Goals as goal

-- the limits of the first form
pub returns-in_err-above : goal.returns-in_err-above
returns-in_err-above c =
    let p = err_from_is_err_and c.from_residual.result c.from_residual.ensures.1 in
    let l : LinearForm = wide_form_of c.args.upper in
    let m : LinearForm = wide_form_of c.args.lower in
    let d : LinearForm = wide_form_of c.args.between in
    let f : ProperTerm = gathered_of c.args.gathered in
    let w : ℤ = c.args.power in
    rw (p.1, p.2) (record {
      answers = first_cause (limited_form l) (λ l2. limited_form m then (λ m2. limited_form d then (λ d2. factorials_left l m d w f)))
          (term_cause c.in_err-above.field-0.0) c.in_err-above.ensures.answers;
    })

-- those of the second
pub returns-in_err-below : goal.returns-in_err-below
returns-in_err-below c =
    let p = err_from_is_err_and c.from_residual-in_err-below.result c.from_residual-in_err-below.ensures.1 in
    let l : LinearForm = wide_form_of c.args.upper in
    let m : LinearForm = wide_form_of c.args.lower in
    let d : LinearForm = wide_form_of c.args.between in
    let f : ProperTerm = gathered_of c.args.gathered in
    let w : ℤ = c.args.power in
    let above : LinearForm = form_of c.in_ok-above.above in
    let first = first_limited w f l m d above c.in_ok-above.ensures.answers in
    rw (p.1, p.2) (record {
      answers = first.cause (term_cause c.in_err-below.field-0.0) (first_cause (limited_form m)
          (λ m2. limited_form d then (λ d2. factorials_left above m d w f)) (term_cause c.in_err-below.field-0.0) c.in_err-below.ensures.answers);
    })

-- those of their difference
pub returns-in_err-also_below : goal.returns-in_err-also_below
returns-in_err-also_below c =
    let p = err_from_is_err_and c.from_residual-in_err-also_below.result c.from_residual-in_err-also_below.ensures.1 in
    let l : LinearForm = wide_form_of c.args.upper in
    let m : LinearForm = wide_form_of c.args.lower in
    let d : LinearForm = wide_form_of c.args.between in
    let f : ProperTerm = gathered_of c.args.gathered in
    let w : ℤ = c.args.power in
    let above : LinearForm = form_of c.in_ok-above.above in
    let below : LinearForm = form_of c.in_ok-below.below in
    let first = first_limited w f l m d above c.in_ok-above.ensures.answers in
    let second = leads_on first (second_limited w f above m d below c.in_ok-below.ensures.answers) in
    rw (p.1, p.2) (record {
      answers = second.cause (term_cause c.in_err-also_below.field-0.0) (first_cause (limited_form d)
          (λ d2. factorials_left above below d w f) (term_cause c.in_err-also_below.field-0.0) c.in_err-also_below.ensures.answers);
    })

-- all within the limits
pub returns : goal.returns
returns c =
    let l : LinearForm = wide_form_of c.args.upper in
    let m : LinearForm = wide_form_of c.args.lower in
    let d : LinearForm = wide_form_of c.args.between in
    let f : ProperTerm = gathered_of c.args.gathered in
    let w : ℤ = c.args.power in
    let above : LinearForm = form_of c.in_ok-above.above in
    let below : LinearForm = form_of c.in_ok-below.below in
    let also_below : LinearForm = form_of c.in_ok-also_below.also_below in
    let first = first_limited w f l m d above c.in_ok-above.ensures.answers in
    let second = leads_on first (second_limited w f above m d below c.in_ok-below.ensures.answers) in
    let third = leads_on second (third_limited w f above below d also_below c.in_ok-also_below.ensures.answers) in
    let known = rw (held c.args.power c.requires.small) at c.times_three_factorials.ensures.answers in
    record { answers = leads_answer term_cause gathered_of c.times_three_factorials.result third known }
