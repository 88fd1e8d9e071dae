use Rattle.std.proofs.Common.{◌-◌, ◌<◌, length, arith}
use Rattle.fraction_free.proofs.Crossing.{fault_value}
use Rattle.fraction_free.proofs.VectorLemmas.{product_not, sum_not, sum_made}
use Rattle.fraction_free.proofs.vectors.row_times.Goals as goal

pub returns-in_err-product : goal.returns-in_err-product
returns-in_err-product g c =
    let M = g.R.Ring.meaning in
    let b : c.loop-at.at - 1 < length c.args.vector.now = omega (arith, c.loop-at.invariant.within, c.loop-at-test.true) in
    record {
      gives = fault_value M _ _ c.from_residual-in_err-product.result c.in_err-product.field-0.0 c.from_residual-in_err-product.ensures.1
          (product_not g.R.Ring.algebra g.met.R.Ring.laws M g.met.R.Ring.passes c.args.row.now c.args.vector.now c.loop-at.at (c.loop-at.at - 1)
          (omega (arith, c.loop-at-test.true)) b (omega (arith, b, c.requires.same_length)) c.index-row-at.result c.index-vector-at.result
          c.index-row-at.is c.index-vector-at.is c.in_err-product.field-0.0 c.in_err-product.ensures.gives);
    }

pub returns-in_err-sum-2 : goal.returns-in_err-sum-2
returns-in_err-sum-2 g c =
    let M = g.R.Ring.meaning in
    let b : c.loop-at.at - 1 < length c.args.vector.now = omega (arith, c.loop-at.invariant.within, c.loop-at-test.true) in
    record {
      gives = fault_value M _ _ c.from_residual-in_err-sum-2.result c.in_err-sum-2.field-0.0 c.from_residual-in_err-sum-2.ensures.1
          (sum_not g.R.Ring.algebra g.met.R.Ring.laws M g.met.R.Ring.passes c.args.row.now c.args.vector.now c.loop-at.at (c.loop-at.at - 1)
          (omega (arith, c.loop-at-test.true)) b (omega (arith, b, c.requires.same_length)) c.index-row-at.result c.index-vector-at.result
          c.index-row-at.is c.index-vector-at.is (M c.in_ok-product.product) (M c.loop-at.sum) c.in_err-sum-2.field-0.0
          c.in_ok-product.ensures.gives.1 c.loop-at.invariant.made c.in_err-sum-2.ensures.gives);
    }

pub loop-at-preserved : goal.loop-at-preserved
loop-at-preserved g c =
    let M = g.R.Ring.meaning in
    let b : c.loop-at.at - 1 < length c.args.vector.now = omega (arith, c.loop-at.invariant.within, c.loop-at-test.true) in
    record {
      within = omega (arith, c.loop-at.invariant.within);
      made = sum_made g.R.Ring.algebra g.met.R.Ring.laws M g.met.R.Ring.passes c.args.row.now c.args.vector.now c.loop-at.at (c.loop-at.at - 1)
          (omega (arith, c.loop-at-test.true)) b (omega (arith, b, c.requires.same_length)) c.index-row-at.result c.index-vector-at.result
          c.index-row-at.is c.index-vector-at.is (M c.in_ok-product.product) (M c.loop-at.sum) (M c.in_ok-sum-2.sum)
          c.in_ok-product.ensures.gives.1 c.loop-at.invariant.made c.in_ok-sum-2.ensures.gives.1;
    }
