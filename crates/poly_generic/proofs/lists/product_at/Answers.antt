use Rattle.std.proofs.Common.{◌≡◌, ◌+◌, ◌-◌, ◌∷◌, inl, inr, map, drop, ap, ◌∙◌, arith}
use Rattle.poly_laws.specs.Lists.{coefficient_at, list_product}
use Rattle.poly_generic.proofs.StepAnswers.{fault_value}
use Rattle.poly_generic.proofs.ProductSteps.{part_fault, sum_fault, part_made, all_made}
use Rattle.poly_generic.proofs.lists.product_at.Goals as goal

-- a product that is out of bounds
pub returns-in_err-product : goal.returns-in_err-product
returns-in_err-product g c =
    let a = g.R.Ring.algebra in
    let M = g.R.Ring.meaning in
    let i = c.loop-left.left - 1 in
    fault_value M _ _ c.from_residual-in_err-product.result c.in_err-product.field-0.0 c.from_residual-in_err-product.ensures.1
    (part_fault a g.met.R.Ring.laws M g.met.R.Ring.passes g.met.R.Ring.fits c.args.a.now c.args.b.now i c.loop-left.at c.index-a-left.result
    c.index-b-at.result c.in_err-product.field-0.0 (omega (arith, c.loop-left.invariant.within, c.loop-left-test.true)) c.index-a-left.is
    (omega (arith, c.if-at-b.false)) c.index-b-at.is c.in_err-product.ensures.gives)

-- a sum that is out of bounds
pub returns-in_err-sum-2 : goal.returns-in_err-sum-2
returns-in_err-sum-2 g c =
    let a = g.R.Ring.algebra in
    let M = g.R.Ring.meaning in
    let i = c.loop-left.left - 1 in
    let n : c.loop-left.left ≡ i + 1 = omega (arith, c.loop-left-test.true) in
    fault_value M _ _ c.from_residual-in_err-sum-2.result c.in_err-sum-2.field-0.0 c.from_residual-in_err-sum-2.ensures.1
    (sum_fault a g.met.R.Ring.laws M g.met.R.Ring.passes g.met.R.Ring.fits c.args.a.now c.args.b.now i c.loop-left.at c.index-a-left.result
    c.index-b-at.result (M c.in_ok-product.product) (M c.loop-left.sum) c.in_err-sum-2.field-0.0
    (omega (arith, c.loop-left.invariant.within, c.loop-left-test.true)) c.index-a-left.is
    (omega (arith, c.if-at-b.false)) c.index-b-at.is c.in_ok-product.ensures.gives.1
    (c.loop-left.invariant.made
    ∙ ap (λ k. coefficient_at a.ops (a.ops.nought ∷ list_product a.ops (map M (drop k c.args.a.now)) (map M c.args.b.now)) c.loop-left.at) n)
    c.in_err-sum-2.ensures.gives)

-- one product more
pub loop-left-preserved : goal.loop-left-preserved
loop-left-preserved g c =
    let a = g.R.Ring.algebra in
    let M = g.R.Ring.meaning in
    let i = c.loop-left.left - 1 in
    let n : c.loop-left.left ≡ i + 1 = omega (arith, c.loop-left-test.true) in
    record {
      within = omega (arith, c.loop-left.invariant.within);
      place = omega (arith, c.loop-left.invariant.place, c.loop-left-test.true);
      made =
          c.in_ok-sum-2.ensures.gives.1
          ∙ part_made a g.met.R.Ring.laws M g.met.R.Ring.passes g.met.R.Ring.fits c.args.a.now c.args.b.now i c.loop-left.at c.index-a-left.result
          c.index-b-at.result (M c.in_ok-product.product) (M c.loop-left.sum)
          (omega (arith, c.loop-left.invariant.within, c.loop-left-test.true)) c.index-a-left.is
          (omega (arith, c.if-at-b.false)) c.index-b-at.is c.in_ok-product.ensures.gives.1
          (c.loop-left.invariant.made
          ∙ ap (λ k. coefficient_at a.ops (a.ops.nought ∷ list_product a.ops (map M (drop k c.args.a.now)) (map M c.args.b.now)) c.loop-left.at) n);
    }

-- all of them
pub returns : goal.returns
returns g c =
    all_made g.R.Ring.algebra g.met.R.Ring.laws g.R.Ring.meaning g.met.R.Ring.passes g.met.R.Ring.fits c.args.a.now c.args.b.now c.loop-left.left
    c.loop-left.at (c.args.last + c.args.first) (g.R.Ring.meaning c.loop-left.sum) c.loop-left.invariant.within
    (inl (omega (arith, c.loop-left-test.false))) (omega (arith, c.loop-left.invariant.place)) c.loop-left.invariant.made

-- the second list has no more
pub returns-then-at-b : goal.returns-then-at-b
returns-then-at-b g c =
    all_made g.R.Ring.algebra g.met.R.Ring.laws g.R.Ring.meaning g.met.R.Ring.passes g.met.R.Ring.fits c.args.a.now c.args.b.now c.loop-left.left
    c.loop-left.at (c.args.last + c.args.first) (g.R.Ring.meaning c.loop-left.sum) c.loop-left.invariant.within
    (inr (omega (arith, c.if-at-b.true))) (omega (arith, c.loop-left.invariant.place)) c.loop-left.invariant.made
