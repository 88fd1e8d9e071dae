use Rattle.std.proofs.Common.{arith, map}
use Rattle.std.proofs.lemmas.List.{length-map}
use Rattle.poly_generic.proofs.AnswerLemmas.{given_right, given_left, given_both}
use Rattle.poly_generic.proofs.ListLemmas.{at_item}
use Rattle.poly_generic.proofs.lists.sum_at.Goals as goal

pub returns-then-power-a : goal.returns-then-power-a
returns-then-power-a g c =
    let o = g.R.Ring.algebra.ops in
    let M = g.R.Ring.meaning in
    given_right g.R.Ring.algebra M c.args.a.now c.args.b.now (map M c.args.b.now) c.args.power _ c.duplicate.result c.if-power-a.true
    (at_item o M c.args.b.now c.args.power c.index-b-power.result (omega (arith, c.requires, c.if-power-a.true)) c.index-b-power.is)
    c.duplicate.ensures.gives

pub returns-then-power-b : goal.returns-then-power-b
returns-then-power-b g c =
    let M = g.R.Ring.meaning in
    given_left g.R.Ring.algebra M c.args.a.now c.args.b.now (map M c.args.b.now) c.args.power c.index-a-power.result
    c.duplicate-then-power-b.result (length-map c.args.b.now M) c.if-power-b.true (omega arith) c.index-a-power.is
    c.duplicate-then-power-b.ensures.gives

pub returns : goal.returns
returns g c =
    let o = g.R.Ring.algebra.ops in
    let M = g.R.Ring.meaning in
    given_both g.R.Ring.algebra M c.args.a.now c.args.b.now (map M c.args.b.now) c.args.power c.index-a-power-2.result c.index-b-power-2.result
    _ c.add.result (length-map c.args.b.now M) (omega arith) (omega arith) c.index-a-power-2.is c.index-b-power-2.is
    (at_item o M c.args.b.now c.args.power c.index-b-power-2.result (omega arith) c.index-b-power-2.is) c.add.ensures.gives
