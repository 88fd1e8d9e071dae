use Rattle.std.proofs.lemmas.Result.{err_from_is_err_and}
use Rattle.std.specs.Prelude.{ℤ}
use Rattle.steps.specs.TermFaults.{term_cause}
use Rattle.steps.proofs.AnswerLaws.{first_cause}
use Rattle.steps.proofs.Leading.{leads_on, leads_answer}
use Rattle.hypergeometric.specs.LinearForm.{LinearForm}
use Rattle.hypergeometric.specs.ProperTerm.{ProperTerm}
use Rattle.grammar.specs.Tree.{Tree}
use Rattle.term_classes.specs.Walk.{find_argument, not_negative, place_of}
use Rattle.term_text.specs.View.{tree_of}
use Rattle.term_walk.specs.Views.{gathered_of, wide_form_of}
use Rattle.term_walk.specs.WalkRows.{difference_left}
use Rattle.term_walk.proofs.HeldNumbers.{held}
use Rattle.term_walk.proofs.BinomialLeads.{lower_left, forms_left, find_lower, upper_leads, are_found, found_leads, upper_kept, lower_kept}
use Rattle.term_walk.proofs.factorials.times_binomial_of.Goals as goal

-- no upper argument
pub returns-in_err-upper_form : goal.returns-in_err-upper_form
returns-in_err-upper_form c =
    let p = err_from_is_err_and c.from_residual.result c.from_residual.ensures.1 in
    let upper : Tree = tree_of c.args.upper.now in
    let lower : Tree = tree_of c.args.lower.now in
    let f : ProperTerm = gathered_of c.args.gathered in
    let w : ℤ = c.args.power in
    rw (p.1, p.2) (record {
      answers = first_cause (find_argument upper) (λ l. find_lower c.args.at upper lower l w f) (term_cause c.in_err-upper_form.field-0.0)
          c.in_err-upper_form.ensures.answers;
    })

-- no lower argument
pub returns-in_err-lower_form : goal.returns-in_err-lower_form
returns-in_err-lower_form c =
    let p = err_from_is_err_and c.from_residual-in_err-lower_form.result c.from_residual-in_err-lower_form.ensures.1 in
    let upper : Tree = tree_of c.args.upper.now in
    let lower : Tree = tree_of c.args.lower.now in
    let f : ProperTerm = gathered_of c.args.gathered in
    let w : ℤ = c.args.power in
    let l : LinearForm = wide_form_of c.in_ok-upper_form.upper_form in
    let finding = upper_leads c.args.at upper lower w f l c.in_ok-upper_form.ensures.answers in
    rw (p.1, p.2) (record {
      answers = finding.cause (term_cause c.in_err-lower_form.field-0.0) (first_cause (find_argument lower)
          (λ m. forms_left c.args.at (place_of upper) (place_of lower) l m w f)
          (term_cause c.in_err-lower_form.field-0.0) c.in_err-lower_form.ensures.answers);
    })

-- a negative upper argument
pub returns-in_err-not_negative_number : goal.returns-in_err-not_negative_number
returns-in_err-not_negative_number c =
    let p = err_from_is_err_and c.from_residual-in_err-not_negative_number.result c.from_residual-in_err-not_negative_number.ensures.1 in
    let upper : Tree = tree_of c.args.upper.now in
    let lower : Tree = tree_of c.args.lower.now in
    let f : ProperTerm = gathered_of c.args.gathered in
    let w : ℤ = c.args.power in
    let l : LinearForm = wide_form_of c.in_ok-upper_form.upper_form in
    let m : LinearForm = wide_form_of c.in_ok-lower_form.lower_form in
    let both = are_found c.args.upper.now c.args.lower.now l m c.in_ok-upper_form.ensures.answers c.in_ok-lower_form.ensures.answers in
    let found = found_leads c.args.at upper lower w f c.args.upper.now.at c.args.lower.now.at l m both in
    rw (p.1, p.2) (record {
      answers = found.cause (term_cause c.in_err-not_negative_number.field-0.0) (first_cause (not_negative c.args.upper.now.at l)
          (λ l1. lower_left c.args.at c.args.lower.now.at l m w f) (term_cause c.in_err-not_negative_number.field-0.0)
          c.in_err-not_negative_number.ensures.answers);
    })

-- a negative lower argument
pub returns-in_err-not_negative_number-2 : goal.returns-in_err-not_negative_number-2
returns-in_err-not_negative_number-2 c =
    let p = err_from_is_err_and c.from_residual-in_err-not_negative_number-2.result c.from_residual-in_err-not_negative_number-2.ensures.1 in
    let upper : Tree = tree_of c.args.upper.now in
    let lower : Tree = tree_of c.args.lower.now in
    let f : ProperTerm = gathered_of c.args.gathered in
    let w : ℤ = c.args.power in
    let l : LinearForm = wide_form_of c.in_ok-upper_form.upper_form in
    let m : LinearForm = wide_form_of c.in_ok-lower_form.lower_form in
    let both = are_found c.args.upper.now c.args.lower.now l m c.in_ok-upper_form.ensures.answers c.in_ok-lower_form.ensures.answers in
    let found = found_leads c.args.at upper lower w f c.args.upper.now.at c.args.lower.now.at l m both in
    let kept = leads_on found (upper_kept c.args.at c.args.upper.now.at c.args.lower.now.at w f l m _
    c.in_ok-not_negative_number.ensures.answers) in
    rw (p.1, p.2) (record {
      answers = kept.cause (term_cause c.in_err-not_negative_number-2.field-0.0) (first_cause (not_negative c.args.lower.now.at m)
          (λ m1. difference_left c.args.at l m w f) (term_cause c.in_err-not_negative_number-2.field-0.0)
          c.in_err-not_negative_number-2.ensures.answers);
    })

-- the two forms
pub returns : goal.returns
returns c =
    let upper : Tree = tree_of c.args.upper.now in
    let lower : Tree = tree_of c.args.lower.now in
    let f : ProperTerm = gathered_of c.args.gathered in
    let w : ℤ = c.args.power in
    let l : LinearForm = wide_form_of c.in_ok-upper_form.upper_form in
    let m : LinearForm = wide_form_of c.in_ok-lower_form.lower_form in
    let both = are_found c.args.upper.now c.args.lower.now l m c.in_ok-upper_form.ensures.answers c.in_ok-lower_form.ensures.answers in
    let found = found_leads c.args.at upper lower w f c.args.upper.now.at c.args.lower.now.at l m both in
    let kept = leads_on found (upper_kept c.args.at c.args.upper.now.at c.args.lower.now.at w f l m _
    c.in_ok-not_negative_number.ensures.answers) in
    let both_kept = leads_on kept (lower_kept c.args.at c.args.lower.now.at w f l m _ c.in_ok-not_negative_number-2.ensures.answers) in
    let known = rw (held c.args.power c.requires.small) at c.times_two_forms.ensures.answers in
    record { answers = leads_answer term_cause gathered_of c.times_two_forms.result both_kept known }
