use Rattle.std.proofs.Common.{ap, w64}
use Rattle.std.proofs.lemmas.Int.{to_z-of_z}
use Rattle.std.proofs.lemmas.Result.{err_from_is_err_and}
use Rattle.std.specs.Prelude.{ℤ}
use Rattle.steps.specs.Steps.{◌then◌}
use Rattle.steps.specs.TermFaults.{term_cause}
use Rattle.steps.proofs.AnswerLaws.{first_cause}
use Rattle.steps.proofs.Leading.{leads_on, leads_answer}
use Rattle.hypergeometric.specs.LinearForm.{LinearForm}
use Rattle.hypergeometric.specs.ProperTerm.{ProperTerm}
use Rattle.lin_form.specs.Forms.{form_of}
use Rattle.grammar.specs.Tree.{Tree}
use Rattle.term_classes.specs.Forms.{limited_form}
use Rattle.term_classes.specs.Walk.{find_argument, not_negative, place_of, with_factorial}
use Rattle.term_text.specs.View.{tree_of}
use Rattle.term_text.proofs.Views.{tree_of-at}
use Rattle.term_walk.specs.Views.{gathered_of, wide_form_of}
use Rattle.term_walk.proofs.RowLeads.{argument_leads, kept_leads, limited_leads}
use Rattle.term_walk.proofs.factorials.times_factorial_of.Goals as goal

-- no argument
pub returns-in_err-form : goal.returns-in_err-form
returns-in_err-form c =
    let p = err_from_is_err_and c.from_residual.result c.from_residual.ensures.1 in
    let t : Tree = tree_of c.args.argument.now in
    let f : ProperTerm = gathered_of c.args.gathered in
    let w : ℤ = c.args.power in
    rw (p.1, p.2) (record {
      answers = λ _. first_cause (find_argument t) (λ l. not_negative (place_of t) l then (λ l1. limited_form l then (λ l2. with_factorial l w f)))
          (term_cause c.in_err-form.field-0.0) c.in_err-form.ensures.answers;
    })

-- a negative number
pub returns-in_err-not_negative_number : goal.returns-in_err-not_negative_number
returns-in_err-not_negative_number c =
    let p = err_from_is_err_and c.from_residual-in_err-not_negative_number.result c.from_residual-in_err-not_negative_number.ensures.1 in
    let t : Tree = tree_of c.args.argument.now in
    let f : ProperTerm = gathered_of c.args.gathered in
    let w : ℤ = c.args.power in
    let at = c.args.argument.now.at in
    let l : LinearForm = wide_form_of c.in_ok-form.form in
    let found = argument_leads t at w f l (ap place_of (tree_of-at c.args.argument.now)) c.in_ok-form.ensures.answers in
    rw (p.1, p.2) (record {
      answers = λ _. found.cause (term_cause c.in_err-not_negative_number.field-0.0) (first_cause (not_negative at l)
          (λ l1. limited_form l then (λ l2. with_factorial l w f)) (term_cause c.in_err-not_negative_number.field-0.0)
          c.in_err-not_negative_number.ensures.answers);
    })

-- a limit that is passed
pub returns-in_err-limited : goal.returns-in_err-limited
returns-in_err-limited c =
    let p = err_from_is_err_and c.from_residual-in_err-limited.result c.from_residual-in_err-limited.ensures.1 in
    let t : Tree = tree_of c.args.argument.now in
    let f : ProperTerm = gathered_of c.args.gathered in
    let w : ℤ = c.args.power in
    let at = c.args.argument.now.at in
    let l : LinearForm = wide_form_of c.in_ok-form.form in
    let found = argument_leads t at w f l (ap place_of (tree_of-at c.args.argument.now)) c.in_ok-form.ensures.answers in
    let kept = leads_on found (kept_leads at w f l _ c.in_ok-not_negative_number.ensures.answers) in
    rw (p.1, p.2) (record {
      answers = λ _. kept.cause (term_cause c.in_err-limited.field-0.0) (first_cause (limited_form l) (λ l2. with_factorial l w f)
          (term_cause c.in_err-limited.field-0.0) c.in_err-limited.ensures.answers);
    })

-- the factorial
pub returns : goal.returns
returns c =
    let t : Tree = tree_of c.args.argument.now in
    let f : ProperTerm = gathered_of c.args.gathered in
    let w : ℤ = c.args.power in
    let at = c.args.argument.now.at in
    let l : LinearForm = wide_form_of c.in_ok-form.form in
    let found = argument_leads t at w f l (ap place_of (tree_of-at c.args.argument.now)) c.in_ok-form.ensures.answers in
    let kept = leads_on found (kept_leads at w f l _ c.in_ok-not_negative_number.ensures.answers) in
    let known = rw (to_z-of_z w64 c.args.power c.ranges.power) at c.with_factorial.ensures.answers in
    record {
      answers = λ _. leads_answer term_cause gathered_of c.with_factorial.result (leads_on kept (limited_leads l (form_of c.in_ok-limited.limited)
          (λ l. with_factorial l w f) c.in_ok-limited.ensures.answers)) known;
    }
