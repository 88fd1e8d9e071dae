use Rattle.std.proofs.lemmas.Result.{err_from_is_err_and}
use Rattle.std.specs.Prelude.{ℤ, neg_ℤ}
use Rattle.hypergeometric.specs.LinearForm.{LinearForm}
use Rattle.hypergeometric.specs.ProperTerm.{ProperTerm}
use Rattle.lin_form.specs.Forms.{form_of}
use Rattle.term_classes.specs.Walk.{with_factorial}
use Rattle.steps.proofs.AnswerLaws.{first_cause}
use Rattle.steps.proofs.Leading.{leads_on, leads_answer}
use Rattle.steps.specs.TermFaults.{term_cause}
use Rattle.term_walk.specs.Views.{gathered_of}
use Rattle.term_walk.proofs.HeldNumbers.{held, opposite_held}
use Rattle.term_walk.proofs.BinomialLeads.{below_left, above_leads, below_leads}
use Rattle.term_walk.proofs.factorials.times_three_factorials.Goals as goal

-- the factorial above
pub returns-in_err-once : goal.returns-in_err-once
returns-in_err-once c =
    let p = err_from_is_err_and c.from_residual.result c.from_residual.ensures.1 in
    let known = rw (held c.args.power c.requires.small) at c.in_err-once.ensures.answers in
    rw (p.1, p.2) (record {
      answers = first_cause (with_factorial (form_of c.args.above) c.args.power (gathered_of c.args.gathered))
          (below_left (form_of c.args.below) (form_of c.args.also_below) c.args.power) (term_cause c.in_err-once.field-0.0) known;
    })

-- the first one below
pub returns-in_err-twice : goal.returns-in_err-twice
returns-in_err-twice c =
    let p = err_from_is_err_and c.from_residual-in_err-twice.result c.from_residual-in_err-twice.ensures.1 in
    let m : LinearForm = form_of c.args.below in
    let d : LinearForm = form_of c.args.also_below in
    let w : ℤ = c.args.power in
    let g : ProperTerm = gathered_of c.in_ok-once.once in
    let once = rw (held c.args.power c.requires.small) at c.in_ok-once.ensures.answers in
    let above = above_leads w (gathered_of c.args.gathered) g (form_of c.args.above) m d once in
    let known = rw (opposite_held c.args.power c.requires.small) at c.in_err-twice.ensures.answers in
    rw (p.1, p.2) (record {
      answers = above.cause (term_cause c.in_err-twice.field-0.0)
          (first_cause (with_factorial m (neg_ℤ w) g) (λ h. with_factorial d (neg_ℤ w) h) (term_cause c.in_err-twice.field-0.0) known);
    })

-- all three
pub returns : goal.returns
returns c =
    let m : LinearForm = form_of c.args.below in
    let d : LinearForm = form_of c.args.also_below in
    let w : ℤ = c.args.power in
    let g : ProperTerm = gathered_of c.in_ok-once.once in
    let once = rw (held c.args.power c.requires.small) at c.in_ok-once.ensures.answers in
    let twice = rw (opposite_held c.args.power c.requires.small) at c.in_ok-twice.ensures.answers in
    let known = rw (opposite_held c.args.power c.requires.small) at c.with_factorial-3.ensures.answers in
    let above = above_leads w (gathered_of c.args.gathered) g (form_of c.args.above) m d once in
    let below = below_leads w g (gathered_of c.in_ok-twice.twice) m d twice in
    record { answers = leads_answer term_cause gathered_of c.with_factorial-3.result (leads_on above below) known }
