use Rattle.std.proofs.Common.{arith, map}
use Rattle.poly_generic.proofs.AnswerLemmas.{given_right, given_left, given_both, negative_at, length-negatives}
use Rattle.poly_generic.proofs.lists.difference_at.Goals as goal

pub returns-then-power-a : goal.returns-then-power-a
returns-then-power-a g c =
    let a = g.R.Ring.algebra in
    let M = g.R.Ring.meaning in
    given_right a M c.args.a.now c.args.b.now (map a.ops.neg (map M c.args.b.now)) c.args.power _ c.neg.result c.if-power-a.true
    (negative_at a M c.args.b.now c.args.power c.index-b-power.result (omega (arith, c.requires, c.if-power-a.true)) c.index-b-power.is)
    c.neg.ensures.gives

pub returns-then-power-b : goal.returns-then-power-b
returns-then-power-b g c =
    let a = g.R.Ring.algebra in
    let M = g.R.Ring.meaning in
    given_left a M c.args.a.now c.args.b.now (map a.ops.neg (map M c.args.b.now)) c.args.power c.index-a-power.result c.duplicate.result
    (length-negatives a M c.args.b.now) c.if-power-b.true (omega arith) c.index-a-power.is c.duplicate.ensures.gives

pub returns : goal.returns
returns g c =
    let a = g.R.Ring.algebra in
    let M = g.R.Ring.meaning in
    given_both a M c.args.a.now c.args.b.now (map a.ops.neg (map M c.args.b.now)) c.args.power c.index-a-power-2.result c.index-b-power-2.result
    _ c.sub.result (length-negatives a M c.args.b.now) (omega arith) (omega arith) c.index-a-power-2.is c.index-b-power-2.is
    (negative_at a M c.args.b.now c.args.power c.index-b-power-2.result (omega arith) c.index-b-power-2.is) c.sub.ensures.gives
