use Rattle.std.proofs.Common.{◌≡◌, ◌∙◌, map, sym, ap, arith, refl}
use Rattle.std.proofs.lemmas.List.{take_all}
use Rattle.ring_laws.specs.Meaning.{Meaning}
use Rattle.poly_generic.proofs.MultipleAnswers.{map_twice}
use Rattle.poly_generic.proofs.PolyAnswers.{apart, one_more}
use Rattle.poly_generic.proofs.multiples.are_times.Goals as goal

pub returns-then-not-is_times : goal.returns-then-not-is_times
returns-then-not-is_times g c =
    let M = g.D.Ring.meaning in
    let times : Meaning → Meaning = λ m. g.D.Ring.algebra.ops.product (g.D.Ring.algebra.ops.whole c.args.number.value) m in (
      (λ h. cc),
      (λ e. absurd (apart (λ y. times (M y)) M c.args.by.now c.args.list.now c.loop-power.power c.index-by-power.result c.index-list-power.result
          (omega (arith, c.loop-power-test.true, c.requires.same_length)) c.loop-power-test.true c.index-by-power.is c.index-list-power.is
          (λ h. cc (c.if-not-is_times.true, c.is_times.ensures.1 h)) (map_twice times M c.args.by.now ∙ e))),
    )

pub loop-power-preserved : goal.loop-power-preserved
loop-power-preserved g c =
    let M = g.D.Ring.meaning in
    one_more (λ y. g.D.Ring.algebra.ops.product (g.D.Ring.algebra.ops.whole c.args.number.value) (M y)) M c.args.by.now c.args.list.now
    c.loop-power.power c.index-by-power.result c.index-list-power.result (omega (arith, c.loop-power-test.true, c.requires.same_length))
    c.loop-power-test.true c.index-by-power.is c.index-list-power.is (c.is_times.ensures.0 c.if-not-is_times.false) c.loop-power.invariant

pub returns : goal.returns
returns g c =
    let M = g.D.Ring.meaning in
    let times : Meaning → Meaning = λ m. g.D.Ring.algebra.ops.product (g.D.Ring.algebra.ops.whole c.args.number.value) m in
    let all : map times (map M c.args.by.now) ≡ map M c.args.list.now =
    sym (map_twice times M c.args.by.now)
    ∙ ap (map (λ y. times (M y))) (sym (take_all c.loop-power.power c.args.by.now (omega (arith, c.loop-power-test.false, c.requires.same_length))))
    ∙ c.loop-power.invariant ∙ ap (map M) (take_all c.loop-power.power c.args.list.now c.loop-power-test.false) in
    ((λ h. all), (λ h. refl))
