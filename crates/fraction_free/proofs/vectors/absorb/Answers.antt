use Rattle.std.proofs.Common.{map, subst, Ok}
use Rattle.ring_laws.specs.Division.{Divides}
use Rattle.fraction_free.proofs.Absorbing.{fault_absorbed, by_quotient, by_multiple, by_one, products_not}
use Rattle.fraction_free.proofs.vectors.absorb.Goals as goal

pub returns-in_err-vector-in-None : goal.returns-in_err-vector-in-None
returns-in_err-vector-in-None g c =
    let M = g.R.Ring.meaning in
    let none = subst (λ o. Divides M g.R.Ring.algebra (g.R.Domain.division_in_bounds (M c.args.number) (M c.args.divisor.now)) (M c.args.number)
    (M c.args.divisor.now) (Ok o)) c.in-None.is c.in_ok-rest.ensures.divides in
    record {
      absorbs = fault_absorbed M g.R.Ring.algebra (M c.args.divisor.now) (M c.args.number) (map M c.args.vector.items) _
          c.from_residual-in_err-vector-in-None.result c.in_err-vector-in-None.field-0.0 c.from_residual-in_err-vector-in-None.ensures.1
          (products_not M g.R.Ring.algebra g.R.Domain.division_in_bounds (M c.args.divisor.now) (M c.args.number) c.args.vector.items
          c.deref.result.now c.in_err-vector-in-None.field-0.0 c.deref.ensures.value none c.in_err-vector-in-None.ensures.gives);
    }

pub returns-then-is_one : goal.returns-then-is_one
returns-then-is_one g c =
    let M = g.R.Ring.meaning in
    record {
      absorbs = by_one M g.R.Ring.algebra g.met.R.Ring.laws g.met.R.Ring.passes (M c.args.divisor.now) c.args.number (map M c.args.vector.items)
          (c.is_one.ensures.test.0 c.if-is_one.true);
    }

pub returns-in-Some : goal.returns-in-Some
returns-in-Some g c =
    let M = g.R.Ring.meaning in
    let some = subst (λ o. Divides M g.R.Ring.algebra (g.R.Domain.division_in_bounds (M c.args.number) (M c.args.divisor.now)) (M c.args.number)
    (M c.args.divisor.now) (Ok o)) c.in-Some.is c.in_ok-rest.ensures.divides in
    record {
      absorbs = by_quotient M g.R.Ring.algebra g.met.R.Ring.passes (M c.args.divisor.now) (M c.args.number) (map M c.args.vector.items) c.in-Some.rest some;
    }

pub returns-in_ok-vector-in-None : goal.returns-in_ok-vector-in-None
returns-in_ok-vector-in-None g c =
    let M = g.R.Ring.meaning in
    let none = subst (λ o. Divides M g.R.Ring.algebra (g.R.Domain.division_in_bounds (M c.args.number) (M c.args.divisor.now)) (M c.args.number)
    (M c.args.divisor.now) (Ok o)) c.in-None.is c.in_ok-rest.ensures.divides in
    record {
      absorbs = by_multiple M g.R.Ring.algebra (M c.args.divisor.now) (M c.args.number) c.args.vector.items c.deref.result.now
          (map M c.in_ok-vector-in-None.vector.items) c.deref.ensures.value none c.in_ok-vector-in-None.ensures.gives;
    }
