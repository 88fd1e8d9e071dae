use Rattle.std.proofs.Common.{inr, arith, sym, subst}
use Rattle.std.specs.Prelude.{pos, ◌≤ℤ◌}
use Rattle.hypergeometric.specs.LinearForm.{Factor}
use Rattle.lin_form.specs.ListOf.{list_of}
use Rattle.lin_form.proofs.ListProducts.{all_dropped}
use Rattle.gosper_form.specs.NormalCandidates.{AreCandidates}
use Rattle.gosper_form.proofs.NormalCandidates.{looked_over, nothing_to_come, all_at}
use Rattle.gosper_form.proofs.normal_candidates.all_candidates.Goals as goal

pub loop-index-init : goal.loop-index-init
loop-index-init c = record {
  candidates = subst AreCandidates (sym c.new-found.ensures.items) tt;
  looked = λ s h first some below. inr some;
}

pub with_candidates-requires-clause-rising : goal.with_candidates-requires-clause-rising
with_candidates-requires-clause-rising c =
    all_at (λ (x : Factor). pos 0 ≤ℤ x.form.k_slope) (list_of c.args.q0.now).factors c.loop-index.index _ c.requires.rising c.in-Some.ensures.item

-- the candidates of one form more
pub loop-index-preserved : goal.loop-index-preserved
loop-index-preserved c = record {
  candidates = c.in_ok-found.ensures.candidates;
  looked = looked_over (list_of c.args.q0.now).factors (list_of c.args.r0.now).factors (list_of c.args.q0.now).factors c.loop-index.index _
      c.loop-index.found.items c.in_ok-found.found.items c.in-Some.ensures.item c.in_ok-found.ensures.kept c.in_ok-found.ensures.added
      c.loop-index.invariant.looked;
}

pub returns-clause-all : goal.returns-clause-all
returns-clause-all c = λ s h first some below.
    nothing_to_come _ _ _
    (all_dropped (list_of c.args.q0.now).factors c.loop-index.index (omega (arith, c.len-index-end.ensures.count, c.loop-index-test.false)))
    (c.loop-index.invariant.looked s h first some below)
