use Rattle.std.proofs.Common.{◌<◌, IsTrue, ap, ◌∙◌, sym, subst, arith, map, length}
use Rattle.std.proofs.lemmas.List.{length-map, get_or-map}
use Rattle.poly_generic.proofs.DomainAnswers.{zero_more, zero_at}
use Rattle.poly_generic.proofs.division.all_zero.Goals as goal

pub loop-item-preserved : goal.loop-item-preserved
loop-item-preserved g c =
    zero_more g.R.Ring.algebra.ops g.R.Ring.meaning c.args.list.now c.loop-item.item-index c.item-item.result c.loop-item-test.true c.item-item.is
    c.loop-item.invariant (c.is_zero.ensures.test.0 c.if-not-is_zero.false)

pub returns-then-not-is_zero : goal.returns-then-not-is_zero
returns-then-not-is_zero g c = (
  (λ h. cc),
  (λ h.
      let M = g.R.Ring.meaning in
      let b : c.loop-item.item-index < length (map M c.args.list.now) = omega (arith, c.loop-item-test.true, length-map c.args.list.now M) in
      let z = zero_at g.R.Ring.algebra.ops (map M c.args.list.now) c.loop-item.item-index (M c.item-item.result) b h in
      let e = get_or-map M c.args.list.now c.loop-item.item-index c.item-item.result (M c.item-item.result) c.loop-item-test.true
      ∙ ap M (sym c.item-item.is) in
      cc (c.if-not-is_zero.true, c.is_zero.ensures.test.1 (subst (λ v. IsTrue (g.R.Ring.algebra.ops.is_nought v)) e z))),
)
