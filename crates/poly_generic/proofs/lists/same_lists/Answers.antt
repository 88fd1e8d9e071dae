use Rattle.std.proofs.Common.{map, ◌≡◌, arith}
use Rattle.poly_generic.proofs.PolyAnswers.{apart}
use Rattle.poly_generic.proofs.lists.same_lists.Goals as goal

pub returns-then-not-same : goal.returns-then-not-same
returns-then-not-same g c =
    let n : ¬ (map g.R.Ring.meaning c.args.a.now ≡ map g.R.Ring.meaning c.args.b.now) =
    apart g.R.Ring.meaning g.R.Ring.meaning c.args.a.now c.args.b.now c.loop-power.power c.index-a-power.result c.index-b-power.result
    (omega (arith, c.loop-power-test.true)) (omega (arith, c.loop-power-test.true, c.if-a-b.false)) c.index-a-power.is c.index-b-power.is
    (λ e. cc (c.if-not-same.true, c.same.ensures.test.1 e)) in
    ((λ h. cc), (λ e. absurd (n e)))
