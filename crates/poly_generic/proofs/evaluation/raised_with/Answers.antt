use Rattle.std.proofs.Common.{◌≡◌, ◌<◌, ◌+◌, ◌++◌, map, length, take, drop, set, ap, sym, ◌∙◌, arith, get_or, refl}
use Rattle.std.proofs.lemmas.List.{length-set}
use Rattle.poly_generic.proofs.AnswerLemmas.{fault_list, scale_fault}
use Rattle.poly_generic.proofs.StepAnswers.{products_fault}
use Rattle.poly_generic.proofs.Raising.{raised_on, read_before, same_item, rest_kept, below_next, raised_more, raised_all, raise_fault}
use Rattle.poly_generic.proofs.evaluation.raised_with.Goals as goal

-- a product that is out of bounds
pub returns-in_err-product : goal.returns-in_err-product
returns-in_err-product g c =
    let a = g.R.Ring.algebra in
    let M = g.R.Ring.meaning in
    let ys = c.args.list.items in
    let b : c.loop-power.power < length ys = omega (arith, c.loop-power-test.true, c.loop-power.invariant.same_length) in
    let y : c.index.result.now ≡ get_or ys c.loop-power.power c.index.result.now =
    read_before a g.met.R.Ring.laws M g.met.R.Ring.passes c.loop-power.list.items ys c.loop-power.power c.index.result.now
    c.loop-power.invariant.rest (omega (arith, b, c.loop-power.invariant.same_length)) b c.index.ensures in
    fault_list a M _ _ c.from_residual-in_err-product.result c.in_err-product.field-0.0 c.from_residual-in_err-product.ensures.1
    (products_fault a (M c.args.by.now) (M c.args.constant.now) (map M ys) c.in_err-product.field-0.0
    (scale_fault a M (M c.args.by.now) ys c.loop-power.power c.index.result.now c.in_err-product.field-0.0 b y
    c.in_err-product.ensures.gives))

-- a sum that is out of bounds
pub returns-in_err-item : goal.returns-in_err-item
returns-in_err-item g c =
    let a = g.R.Ring.algebra in
    let M = g.R.Ring.meaning in
    let ys = c.args.list.items in
    let b : c.loop-power.power < length ys = omega (arith, c.loop-power-test.true, c.loop-power.invariant.same_length) in
    let y : c.index.result.now ≡ get_or ys c.loop-power.power c.index.result.now =
    read_before a g.met.R.Ring.laws M g.met.R.Ring.passes c.loop-power.list.items ys c.loop-power.power c.index.result.now
    c.loop-power.invariant.rest (omega (arith, b, c.loop-power.invariant.same_length)) b c.index.ensures in
    fault_list a M _ _ c.from_residual-in_err-item.result c.in_err-item.field-0.0 c.from_residual-in_err-item.ensures.1
    (raise_fault a g.met.R.Ring.laws M g.met.R.Ring.passes c.args.by.now c.args.constant.now ys c.loop-power.power c.index.result.now
    (M c.in_ok-product.product) (M c.loop-power.below) c.in_err-item.field-0.0 b y c.in_ok-product.ensures.gives.1 c.loop-power.invariant.below
    c.in_err-item.ensures.gives)

-- one place more
pub loop-power-preserved : goal.loop-power-preserved
loop-power-preserved g c =
    let a = g.R.Ring.algebra in
    let M = g.R.Ring.meaning in
    let ys = c.args.list.items in
    let i = c.loop-power.power in
    let b : i < length ys = omega (arith, c.loop-power-test.true, c.loop-power.invariant.same_length) in
    let d : i < length c.loop-power.list.items = omega (arith, b, c.loop-power.invariant.same_length) in
    let y : c.index.result.now ≡ get_or ys i c.index.result.now =
    read_before a g.met.R.Ring.laws M g.met.R.Ring.passes c.loop-power.list.items ys i c.index.result.now c.loop-power.invariant.rest d b
    c.index.ensures in
    let z : c.replace-below.result ≡ c.index.result.now =
    c.replace-below.ensures.value
    ∙ same_item a g.met.R.Ring.laws M g.met.R.Ring.passes c.loop-power.list.items i c.index_mut.result.now c.index.result.now d c.index_mut.ensures.value
    c.index.ensures in
    let v = c.replace-below.new.dest in
    record {
      same_length = length-set c.loop-power.list.items i v ∙ c.loop-power.invariant.same_length;
      rest = rest_kept a g.met.R.Ring.laws M g.met.R.Ring.passes c.loop-power.list.items ys i v c.loop-power.invariant.rest d b;
      below = ap M z ∙ below_next a g.met.R.Ring.laws M g.met.R.Ring.passes c.args.constant.now ys i c.index.result.now b y;
      made =
          raised_more a g.met.R.Ring.laws M g.met.R.Ring.passes (M c.args.by.now) (M c.args.constant.now) ys c.loop-power.list.items
          (set c.loop-power.list.items i v) i c.loop-power.below c.index.result.now v b d y refl
          (ap M c.replace-below.ensures.after ∙ c.in_ok-item.ensures.gives.1 ∙ ap (λ v. a.ops.sum v (M c.loop-power.below)) c.in_ok-product.ensures.gives.1)
          c.loop-power.invariant.made
          ∙ ap (λ u. map M (take (i + 1) (set c.loop-power.list.items i v))
          ++ raised_on a.ops (M c.args.by.now) (M u) (map M (drop (i + 1) ys))) (sym z);
    }

-- the last coefficient
pub returns : goal.returns
returns g c =
    let a = g.R.Ring.algebra in
    let M = g.R.Ring.meaning in
    raised_all a g.met.R.Ring.laws M g.met.R.Ring.passes c.args.by.now c.args.constant.now c.args.list.items c.loop-power.list.items
    c.push.new.self.items c.loop-power.power c.loop-power.below
    (omega (arith, c.loop-power-test.false, c.loop-power.invariant.same_length))
    (omega (arith, c.loop-power-test.false, c.loop-power.invariant.same_length)) c.in_ok-push.ensures.items c.loop-power.invariant.made
