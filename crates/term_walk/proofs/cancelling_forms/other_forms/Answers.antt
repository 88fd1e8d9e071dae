use Rattle.std.proofs.Common.{◌≡◌, ◌++◌, ◌+◌, pos, ◌-◌, drop, ap, arith, sym, ◌∙◌, subst, List, ℕ}
use Rattle.hypergeometric.specs.LinearForm.{Factor}
use Rattle.hypergeometric.specs.FactorLists.{without}
use Rattle.lin_form.specs.ListOf.{list_of}
use Rattle.lin_form.specs.declared.factor_lists.FactorList.{FactorList}
use Rattle.term_walk.proofs.CancelledLists.{left_more, left_fits, left_passed}
use Rattle.term_walk.proofs.cancelling_forms.other_forms.Goals as goal
use Rattle.term_walk.proofs.cancelling_forms.other_forms.Goals.{then-rest-gt0+in_ok-multiply, else-rest-gt0}

-- the form isn't there yet
pub multiply-requires-clause-fits : goal.multiply-requires-clause-fits
multiply-requires-clause-fits c =
    left_fits (list_of c.args.list.now).factors (list_of c.args.taken.now).factors (list_of c.loop-index.left).factors c.loop-index.index _
    c.in-Some.ensures.item c.args.list.now.factors c.saturating_sub-rest.result
    (c.saturating_sub-rest.ensures ∙ ap (λ m. c.in-Some.power - m) c.power.ensures.power)
    c.loop-index.invariant.leads c.if-rest-gt0.true c.saturating_sub-rest.type_inv

abbrev Keeps : List Factor → List Factor → ℕ → FactorList → Type 0
Keeps xs ys i left = record {
  scale : (list_of left).scale ≡ pos 1;
  leads : without xs ys ≡ (list_of left).factors ++ without (drop (i + 1) xs) ys;
}

-- one form more, or one that is passed
pub loop-index-preserved : goal.loop-index-preserved
loop-index-preserved c =
    let list = (list_of c.args.list.now).factors in
    let taken = (list_of c.args.taken.now).factors in elim c.if-rest-gt0.branch
    as (λ _. Keeps list taken c.loop-index.index c.if-rest-gt0.left) [
      | then-rest-gt0+in_ok-multiply w ↦ subst (Keeps list taken c.loop-index.index)
          (sym w.left-is) record {
            scale = w.in_ok-multiply.ensures.scale ∙ c.loop-index.invariant.scale;
            leads = left_more list taken (list_of c.loop-index.left).factors c.loop-index.index _
                c.in-Some.ensures.item c.args.list.now.factors c.saturating_sub-rest.result
                (c.saturating_sub-rest.ensures ∙ ap (λ m. c.in-Some.power - m) c.power.ensures.power)
                c.loop-index.invariant.leads w.if-rest-gt0.true
                ∙ ap (λ xs. xs ++ without (drop (c.loop-index.index + 1) list) taken)
                (sym w.in_ok-multiply.ensures.factors);
          }
      | else-rest-gt0 w ↦ subst (Keeps list taken c.loop-index.index)
          (sym w.left-is) record {
            scale = c.loop-index.invariant.scale;
            leads = left_passed list taken (list_of c.loop-index.left).factors c.loop-index.index _
                c.in-Some.ensures.item c.args.list.now.factors c.saturating_sub-rest.result
                (c.saturating_sub-rest.ensures ∙ ap (λ m. c.in-Some.power - m) c.power.ensures.power)
                c.loop-index.invariant.leads (omega (arith, w.if-rest-gt0.false));
          }
    ]
