use Rattle.ring_laws.specs.Algebra.{Passing}
use Rattle.poly_generic.proofs.MultipleAnswers.{not_nought, zero_times, found_times}
use Rattle.poly_generic.proofs.multiples.is_times.Goals as goal

pub returns-then-is_zero : goal.returns-then-is_zero
returns-then-is_zero g c =
    let M = g.D.Ring.meaning in
    zero_times g.D.Ring.algebra g.met.D.Ring.laws c.args.number.value (M c.args.item.now, g.met.D.Ring.passes c.args.item.now)
    (M c.args.by.now, g.met.D.Ring.passes c.args.by.now) c.is_zero-then-is_zero.result (c.is_zero.ensures.test.0 c.if-is_zero.true)
    c.is_zero-then-is_zero.ensures.test

pub returns-in-Some : goal.returns-in-Some
returns-in-Some g c =
    let M = g.D.Ring.meaning in
    let by_ : Passing g.D.Ring.algebra = (M c.args.by.now, g.met.D.Ring.passes c.args.by.now) in
    found_times g.D.Ring.algebra g.met.D.Ring.laws g.met.D.Domain.domain_laws c.in-Some.found.value c.args.number.value
    (M c.args.item.now, g.met.D.Ring.passes c.args.item.now) by_ c.same.result
    (not_nought g.D.Ring.algebra g.met.D.Ring.laws by_ c.is_zero.result c.if-is_zero.false c.is_zero.ensures.test)
    c.in-Some.ensures.quotient c.same.ensures.test
