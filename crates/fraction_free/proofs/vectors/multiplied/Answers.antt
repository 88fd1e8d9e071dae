use Rattle.std.proofs.Common.{◌<◌, length, map, ap, ◌∙◌, sym, arith}
use Rattle.std.proofs.lemmas.List.{length-map, get_or-map}
use Rattle.poly_generic.proofs.AnswerLemmas.{fault_list, scale_fault, push_made}
use Rattle.poly_generic.proofs.ListLemmas.{at_item}
use Rattle.fraction_free.proofs.vectors.multiplied.Goals as goal

pub returns-in_err-product : goal.returns-in_err-product
returns-in_err-product g c =
    let M = g.R.Ring.meaning in
    record {
      gives = fault_list g.R.Ring.algebra M _ _ c.from_residual.result c.in_err-product.field-0.0 c.from_residual.ensures.1
          (scale_fault g.R.Ring.algebra M (M c.args.factor.now) c.args.vector.now c.loop-entry.entry-index c.entry-item.result
          c.in_err-product.field-0.0 c.loop-entry-test.true c.entry-item.is c.in_err-product.ensures.gives);
    }

pub loop-entry-preserved : goal.loop-entry-preserved
loop-entry-preserved g c =
    let M = g.R.Ring.meaning in
    let o = g.R.Ring.algebra.ops in
    let f = o.product (M c.args.factor.now) in
    let b : c.loop-entry.entry-index < length (map M c.args.vector.now) = omega (arith, length-map c.args.vector.now M, c.loop-entry-test.true) in
    push_made g.R.Ring.algebra M (map f (map M c.args.vector.now)) c.loop-entry.out.items c.push.new.self.items c.in_ok-product.product
    c.loop-entry.entry-index o.nought c.in_ok-push.ensures.items c.loop-entry.invariant
    (c.in_ok-product.ensures.gives.1 ∙ ap f (sym (at_item o M c.args.vector.now c.loop-entry.entry-index c.entry-item.result c.loop-entry-test.true
    c.entry-item.is)) ∙ sym (get_or-map f (map M c.args.vector.now) c.loop-entry.entry-index o.nought o.nought b))
    (omega (arith, length-map (map M c.args.vector.now) f, b))
