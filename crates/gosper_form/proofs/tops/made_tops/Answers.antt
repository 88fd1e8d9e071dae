use Rattle.std.proofs.Common.{◌≡◌, ◌+◌, suc, ap, ◌∙◌, subst, arith}
use Rattle.std.proofs.lemmas.List.{map_push}
use Rattle.ring_laws.specs.Answer.{fault_weaker}
use Rattle.lin_form.proofs.Items.{each_of}
use Rattle.lin_form.proofs.ListProducts.{fault_list}
use Rattle.proper_term.specs.TermOf.{term_of}
use Rattle.gosper_form.specs.PieceSteps.{top_sizes, SomeTooLarge}
use Rattle.gosper_form.specs.PiecesOf.{top_of}
use Rattle.gosper_form.proofs.PieceOperations.{one_too_large}
use Rattle.gosper_form.proofs.TopLists.{tops_step}
use Rattle.gosper_form.proofs.tops.made_tops.Goals as goal

-- p_j is too large
pub returns-in_err-made_top-clause-too_large : goal.returns-in_err-made_top-clause-too_large
returns-in_err-made_top-clause-too_large c =
    fault_list _ c.from_residual.result c.in_err-made_top.field-0.0 c.from_residual.ensures.1
    (fault_weaker c.in_err-made_top.field-0.0
    (λ out.
    let same : c.loop-j.j ≡ 0 + c.loop-j.j = omega arith in
    one_too_large (top_sizes (term_of c.args.term.now) c.args.order) 0 c.loop-j.j (suc c.args.order) (omega (arith, c.loop-j-test.true))
    (subst (λ m. SomeTooLarge (top_sizes (term_of c.args.term.now) c.args.order m)) same out))
    c.in_err-made_top.ensures.too_large)

-- one more is made
pub loop-j-preserved : goal.loop-j-preserved
loop-j-preserved c =
    tops_step (each_of c.loop-j.tops.items top_of) (each_of c.push.new.self.items top_of) (top_of c.in_ok-made_top.field-0) (term_of c.args.term.now)
    c.args.order c.loop-j.j c.loop-j.invariant c.in_ok-made_top.ensures.top
    (ap (λ ts. each_of ts top_of) c.in_ok-push.ensures.items ∙ map_push top_of c.loop-j.tops.items c.in_ok-made_top.field-0)
