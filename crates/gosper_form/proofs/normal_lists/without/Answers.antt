use Rattle.std.proofs.Common.{◌≡◌, ◌+◌, ◌-◌, drop, ap, arith, sym, ◌∙◌, subst, ℕ}
use Rattle.std.specs.Prelude.{◌*ℤ◌}
use Rattle.lin_form.specs.ListOf.{list_of}
use Rattle.lin_form.specs.declared.factor_lists.FactorList.{FactorList}
use Rattle.gosper_form.proofs.NormalLeft.{LeftSoFar, left_start, left_fits, left_more, left_passed, left_sorted}
use Rattle.gosper_form.proofs.normal_lists.without.Goals as goal
use Rattle.gosper_form.proofs.normal_lists.without.Goals.{then-rest-gt0+in_ok-multiply, else-rest-gt0}

pub loop-index-init : goal.loop-index-init
loop-index-init c =
    let made = c.in_ok-multiply_scale.ensures in
    let start = left_start (list_of c.args.whole.now) (list_of c.args.taken.now).factors (list_of c.multiply_scale.new.self).factors
    (list_of c.multiply_scale.new.self).scale (list_of c.in_ok-left.left).scale
    (made.scale ∙ ap (λ z. (list_of c.in_ok-left.left).scale *ℤ z) c.scale.ensures.scale) c.in_ok-left.ensures.scale
    (made.factors ∙ c.in_ok-left.ensures.factors) in
    record { scale = start.0; left = start.1 }

-- the power of the form fits
pub multiply-requires-clause-fits : goal.multiply-requires-clause-fits
multiply-requires-clause-fits c =
    left_fits (list_of c.args.whole.now).factors (list_of c.args.taken.now).factors (list_of c.loop-index.left).factors c.loop-index.index _
    c.saturating_sub-rest.result c.in-Some.ensures.item (c.saturating_sub-rest.ensures ∙ ap (λ m. c.in-Some.power - m) c.power.ensures.power)
    c.loop-index.invariant.left c.args.whole.now.factors.each

abbrev Keeps : FactorList → FactorList → ℕ → FactorList → Type 0
Keeps whole taken i left = record {
  scale : (list_of left).scale ≡ (list_of whole).scale;
  left : LeftSoFar (list_of whole).factors (list_of taken).factors (drop (i + 1) (list_of whole).factors) (list_of left).factors;
}

-- one form more, or one of which nothing is left
pub loop-index-preserved : goal.loop-index-preserved
loop-index-preserved c =
    let whole = c.args.whole.now in
    let taken = c.args.taken.now in
    let xs = (list_of whole).factors in
    let left = (list_of c.loop-index.left).factors in
    let i = c.loop-index.index in
    let r = c.saturating_sub-rest.result in
    let is = c.saturating_sub-rest.ensures ∙ ap (λ m. c.in-Some.power - m) c.power.ensures.power in
    elim c.if-rest-gt0.branch as (λ _. Keeps whole taken i c.if-rest-gt0.left) [
      | then-rest-gt0+in_ok-multiply w ↦
          subst (Keeps whole taken i) (sym w.left-is) (record {
            scale = w.in_ok-multiply.ensures.scale ∙ c.loop-index.invariant.scale;
            left = subst (LeftSoFar xs (list_of taken).factors (drop (i + 1) xs)) (sym w.in_ok-multiply.ensures.factors)
                (left_more xs (list_of taken).factors left i _ r c.in-Some.ensures.item is c.loop-index.invariant.left whole.factors.distinct);
          })
      | else-rest-gt0 w ↦
          subst (Keeps whole taken i) (sym w.left-is) (record {
            scale = c.loop-index.invariant.scale;
            left = left_passed xs (list_of taken).factors left i _ r c.in-Some.ensures.item is c.loop-index.invariant.left whole.factors.distinct
                (omega (arith, w.if-rest-gt0.false));
          })
    ]

pub returns-clause-left : goal.returns-clause-left
returns-clause-left c =
    left_sorted (list_of c.args.whole.now) (list_of c.args.taken.now).factors c.loop-index.left c.loop-index.index c.sorted.result c.requires.no_more
    (omega (arith, c.len-index-end.ensures.count, c.loop-index-test.false)) c.loop-index.invariant.scale c.loop-index.invariant.left
    c.sorted.ensures.scale c.sorted.ensures.sorted c.sorted.ensures.same
