use Rattle.std.proofs.Common.{◌≡◌, ◌++◌, ◌+◌, pos, min, drop, ap, arith, sym, ◌∙◌, subst, List, ℕ}
use Rattle.hypergeometric.specs.LinearForm.{Factor}
use Rattle.hypergeometric.specs.FactorLists.{in_both}
use Rattle.lin_form.specs.ListOf.{list_of}
use Rattle.lin_form.specs.declared.factor_lists.FactorList.{FactorList}
use Rattle.term_walk.proofs.CancelledLists.{shared_more, shared_fits, shared_passed}
use Rattle.term_walk.proofs.cancelling_forms.shared_forms.Goals as goal
use Rattle.term_walk.proofs.cancelling_forms.shared_forms.Goals.{then-smaller-gt0+in_ok-multiply, else-smaller-gt0}

-- the form isn't there yet
pub multiply-requires-clause-fits : goal.multiply-requires-clause-fits
multiply-requires-clause-fits c =
    shared_fits (list_of c.args.list.now).factors (list_of c.args.other.now).factors (list_of c.loop-index.shared).factors c.loop-index.index _
    c.in-Some.ensures.item c.args.list.now.factors c.min-smaller.result
    (c.min-smaller.ensures ∙ ap (min c.in-Some.power) c.power.ensures.power)
    c.loop-index.invariant.leads c.if-smaller-gt0.true c.min-smaller.type_inv

abbrev Keeps : List Factor → List Factor → ℕ → FactorList → Type 0
Keeps xs ys i shared = record {
  scale : (list_of shared).scale ≡ pos 1;
  leads : in_both xs ys ≡ (list_of shared).factors ++ in_both (drop (i + 1) xs) ys;
}

-- one form more, or one that is passed
pub loop-index-preserved : goal.loop-index-preserved
loop-index-preserved c =
    let list = (list_of c.args.list.now).factors in
    let other = (list_of c.args.other.now).factors in elim c.if-smaller-gt0.branch
    as (λ _. Keeps list other c.loop-index.index c.if-smaller-gt0.shared) [
      | then-smaller-gt0+in_ok-multiply w ↦ subst (Keeps list other c.loop-index.index)
          (sym w.shared-is) record {
            scale = w.in_ok-multiply.ensures.scale ∙ c.loop-index.invariant.scale;
            leads = shared_more list other (list_of c.loop-index.shared).factors c.loop-index.index _
                c.in-Some.ensures.item c.args.list.now.factors c.min-smaller.result
                (c.min-smaller.ensures ∙ ap (min c.in-Some.power) c.power.ensures.power)
                c.loop-index.invariant.leads w.if-smaller-gt0.true
                ∙ ap (λ xs. xs ++ in_both (drop (c.loop-index.index + 1) list) other)
                (sym w.in_ok-multiply.ensures.factors);
          }
      | else-smaller-gt0 w ↦ subst (Keeps list other c.loop-index.index)
          (sym w.shared-is) record {
            scale = c.loop-index.invariant.scale;
            leads = shared_passed list other (list_of c.loop-index.shared).factors c.loop-index.index _
                c.in-Some.ensures.item c.args.list.now.factors c.min-smaller.result
                (c.min-smaller.ensures ∙ ap (min c.in-Some.power) c.power.ensures.power)
                c.loop-index.invariant.leads (omega (arith, w.if-smaller-gt0.false));
          }
    ]
