use Rattle.std.proofs.lemmas.Result.{err_from_is_err_and}
use Rattle.std.specs.Prelude.{ℤ}
use Rattle.steps.specs.Operations.{of_number}
use Rattle.steps.specs.Steps.{makes, ◌then◌}
use Rattle.steps.specs.TermFaults.{term_cause}
use Rattle.steps.proofs.AnswerLaws.{first_cause}
use Rattle.steps.proofs.Leading.{leads_on, leads_answer}
use Rattle.hypergeometric.specs.LinearForm.{LinearForm}
use Rattle.hypergeometric.specs.ProperTerm.{ProperTerm}
use Rattle.hypergeometric.specs.Forms.{form_difference, difference_size}
use Rattle.term_classes.specs.Walk.{not_negative}
use Rattle.term_walk.specs.Views.{gathered_of, wide_form_of}
use Rattle.term_walk.specs.WalkRows.{limits_left}
use Rattle.term_walk.proofs.HeldNumbers.{held}
use Rattle.term_walk.proofs.BinomialLeads.{difference_leads, difference_kept}
use Rattle.term_walk.proofs.factorials.times_two_forms.Goals as goal

-- a difference that is out of bounds
pub returns-in_err-between : goal.returns-in_err-between
returns-in_err-between c =
    let p = err_from_is_err_and c.from_residual.result c.from_residual.ensures.1 in
    let l : LinearForm = wide_form_of c.args.upper in
    let m : LinearForm = wide_form_of c.args.lower in
    let f : ProperTerm = gathered_of c.args.gathered in
    let w : ℤ = c.args.power in
    rw (p.1, p.2) (record {
      answers = first_cause (makes c.args.at (of_number (difference_size l m)) (form_difference l m))
          (λ d. not_negative c.args.at d then (λ d1. limits_left l m d w f)) (term_cause c.in_err-between.field-0.0) c.in_err-between.ensures.answers;
    })

-- a negative difference
pub returns-in_err-not_negative_number : goal.returns-in_err-not_negative_number
returns-in_err-not_negative_number c =
    let p = err_from_is_err_and c.from_residual-in_err-not_negative_number.result c.from_residual-in_err-not_negative_number.ensures.1 in
    let l : LinearForm = wide_form_of c.args.upper in
    let m : LinearForm = wide_form_of c.args.lower in
    let f : ProperTerm = gathered_of c.args.gathered in
    let w : ℤ = c.args.power in
    let d : LinearForm = wide_form_of c.in_ok-between.between in
    let made = difference_leads c.args.at w f l m d c.in_ok-between.ensures.answers in
    rw (p.1, p.2) (record {
      answers = made.cause (term_cause c.in_err-not_negative_number.field-0.0) (first_cause (not_negative c.args.at d) (λ d1. limits_left l m d w f)
          (term_cause c.in_err-not_negative_number.field-0.0) c.in_err-not_negative_number.ensures.answers);
    })

-- the three factorials
pub returns : goal.returns
returns c =
    let l : LinearForm = wide_form_of c.args.upper in
    let m : LinearForm = wide_form_of c.args.lower in
    let f : ProperTerm = gathered_of c.args.gathered in
    let w : ℤ = c.args.power in
    let d : LinearForm = wide_form_of c.in_ok-between.between in
    let made = difference_leads c.args.at w f l m d c.in_ok-between.ensures.answers in
    let kept = difference_kept c.args.at w f l m d _ c.in_ok-not_negative_number.ensures.answers in
    let known = rw (held c.args.power c.requires.small) at c.times_three_forms.ensures.answers in
    record { answers = leads_answer term_cause gathered_of c.times_three_forms.result (leads_on made kept) known }
