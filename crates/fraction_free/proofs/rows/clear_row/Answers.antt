use Rattle.std.proofs.Common.{◌<◌, ◌∙◌, ap, subst, map, length, arith, Ok}
use Rattle.kernel_laws.specs.RowSteps.{crossed, CrossingInBounds, NoQuotients}
use Rattle.ring_laws.specs.Answer.{OnFault}
use Rattle.reducing.specs.RowAnswer.{DividesRow}
use Rattle.fraction_free.proofs.RowLemmas.{fault_cleared, crossing_not, refused, zero_stays, crossed_is, division_not, gives_cleared, divided_is, kept_is, whole_is}
use Rattle.fraction_free.proofs.rows.clear_row.Goals as goal

pub returns-then-is_zero : goal.returns-then-is_zero
returns-then-is_zero g c =
    let M = g.R.Ring.meaning in
    record {
      clears = zero_stays g.R.Ring.algebra M g.met.R.Ring.passes g.R.Domain.division_in_bounds g.R.Reducing.reduction
          (M c.args.divisor.now) c.args.column c.args.pivot.now c.args.row.items
          c.index.result.now c.requires.within c.index.ensures (c.is_zero.ensures.test.0 c.if-is_zero.true);
    }

pub returns-in_err-crossed : goal.returns-in_err-crossed
returns-in_err-crossed g c =
    let M = g.R.Ring.meaning in
    let b : c.args.column < length c.args.pivot.now = omega (arith, c.requires.within, c.requires.size) in
    let n = refused c.is_zero.result c.if-is_zero.false c.is_zero.ensures.test.1 in
    record {
      clears = fault_cleared g.R.Ring.algebra M g.met.R.Ring.passes g.R.Domain.division_in_bounds g.R.Reducing.reduction
          (M c.args.divisor.now) c.args.column c.args.pivot.now c.args.row.items
          c.from_residual.result c.in_err-crossed.field-0.0 c.from_residual.ensures.1
          (crossing_not g.R.Ring.algebra M g.met.R.Ring.passes g.R.Domain.division_in_bounds g.R.Reducing.reduction
          (M c.args.divisor.now) c.args.column c.args.pivot.now c.args.row.items
          c.index.result.now c.requires.within c.index.ensures n c.index-pivot-column.result c.index-2.result.now c.in_err-crossed.field-0.0 b
          c.index-pivot-column.is c.index-2.ensures
          (subst (λ v. OnFault (¬ (CrossingInBounds g.R.Ring.algebra (M c.index-pivot-column.result) (map M v) (M c.index-2.result.now)
          (map M c.args.pivot.now))) c.in_err-crossed.field-0.0) c.deref.ensures.value c.in_err-crossed.ensures.gives));
    }

pub returns-then-is_one : goal.returns-then-is_one
returns-then-is_one g c =
    let M = g.R.Ring.meaning in
    let b : c.args.column < length c.args.pivot.now = omega (arith, c.requires.within, c.requires.size) in
    let n = refused c.is_zero.result c.if-is_zero.false c.is_zero.ensures.test.1 in
    let e = crossed_is g.R.Ring.algebra M g.met.R.Ring.passes g.R.Domain.division_in_bounds g.R.Reducing.reduction
    (M c.args.divisor.now) c.args.column c.args.pivot.now c.args.row.items
    (map M c.in_ok-crossed.crossed.items) c.index-pivot-column.result c.index-2.result.now b c.requires.within c.index-pivot-column.is c.index-2.ensures
    (c.in_ok-crossed.ensures.gives ∙ ap (λ v. crossed g.R.Ring.algebra.ops (M c.index-pivot-column.result) (map M v) (M c.index-2.result.now)
    (map M c.args.pivot.now)) c.deref.ensures.value) in
    record {
      clears = gives_cleared g.R.Ring.algebra M g.met.R.Ring.passes g.R.Domain.division_in_bounds g.R.Reducing.reduction
          (M c.args.divisor.now) c.args.column c.args.pivot.now c.args.row.items
          c.index.result.now c.requires.within c.index.ensures n c.in_ok-crossed.crossed.items c.reduce_row.result
          (whole_is g.R.Ring.algebra M g.met.R.Ring.passes g.R.Domain.division_in_bounds g.R.Reducing.reduction
          (M c.args.divisor.now) c.args.column c.args.pivot.now c.args.row.items g.met.R.Ring.laws c.in_ok-crossed.crossed.items
          (c.is_one.ensures.test.0 c.if-is_one.true) e) c.reduce_row.ensures.reduces;
    }

pub returns-in_err-quotients : goal.returns-in_err-quotients
returns-in_err-quotients g c =
    let M = g.R.Ring.meaning in
    let b : c.args.column < length c.args.pivot.now = omega (arith, c.requires.within, c.requires.size) in
    let n = refused c.is_zero.result c.if-is_zero.false c.is_zero.ensures.test.1 in
    let e = crossed_is g.R.Ring.algebra M g.met.R.Ring.passes g.R.Domain.division_in_bounds g.R.Reducing.reduction
    (M c.args.divisor.now) c.args.column c.args.pivot.now c.args.row.items
    (map M c.in_ok-crossed.crossed.items) c.index-pivot-column.result c.index-2.result.now b c.requires.within c.index-pivot-column.is c.index-2.ensures
    (c.in_ok-crossed.ensures.gives ∙ ap (λ v. crossed g.R.Ring.algebra.ops (M c.index-pivot-column.result) (map M v) (M c.index-2.result.now)
    (map M c.args.pivot.now)) c.deref.ensures.value) in
    record {
      clears = fault_cleared g.R.Ring.algebra M g.met.R.Ring.passes g.R.Domain.division_in_bounds g.R.Reducing.reduction
          (M c.args.divisor.now) c.args.column c.args.pivot.now c.args.row.items
          c.from_residual-in_err-quotients.result c.in_err-quotients.field-0.0 c.from_residual-in_err-quotients.ensures.1
          (division_not g.R.Ring.algebra M g.met.R.Ring.passes g.R.Domain.division_in_bounds g.R.Reducing.reduction
          (M c.args.divisor.now) c.args.column c.args.pivot.now c.args.row.items
          c.index.result.now c.requires.within c.index.ensures n (map M c.deref-2.result.now) c.in_err-quotients.field-0.0
          (ap (map M) c.deref-2.ensures.value ∙ e) c.in_err-quotients.ensures.divides);
    }

pub returns-in-Some : goal.returns-in-Some
returns-in-Some g c =
    let M = g.R.Ring.meaning in
    let b : c.args.column < length c.args.pivot.now = omega (arith, c.requires.within, c.requires.size) in
    let n = refused c.is_zero.result c.if-is_zero.false c.is_zero.ensures.test.1 in
    let e = crossed_is g.R.Ring.algebra M g.met.R.Ring.passes g.R.Domain.division_in_bounds g.R.Reducing.reduction
    (M c.args.divisor.now) c.args.column c.args.pivot.now c.args.row.items
    (map M c.in_ok-crossed.crossed.items) c.index-pivot-column.result c.index-2.result.now b c.requires.within c.index-pivot-column.is c.index-2.ensures
    (c.in_ok-crossed.ensures.gives ∙ ap (λ v. crossed g.R.Ring.algebra.ops (M c.index-pivot-column.result) (map M v) (M c.index-2.result.now)
    (map M c.args.pivot.now)) c.deref.ensures.value) in
    let q = subst (λ o. DividesRow M g.R.Ring.algebra g.R.Domain.division_in_bounds (map M c.deref-2.result.now) (M c.args.divisor.now) (Ok o))
    c.in-Some.is c.in_ok-quotients.ensures.divides in
    record {
      clears = gives_cleared g.R.Ring.algebra M g.met.R.Ring.passes g.R.Domain.division_in_bounds g.R.Reducing.reduction
          (M c.args.divisor.now) c.args.column c.args.pivot.now c.args.row.items
          c.index.result.now c.requires.within c.index.ensures n c.in-Some.quotients.items c.reduce_row-in-Some.result
          (divided_is g.R.Ring.algebra M g.met.R.Ring.passes g.R.Domain.division_in_bounds g.R.Reducing.reduction
          (M c.args.divisor.now) c.args.column c.args.pivot.now c.args.row.items
          (map M c.deref-2.result.now) (map M c.in-Some.quotients.items) (ap (map M) c.deref-2.ensures.value ∙ e) q) c.reduce_row-in-Some.ensures.reduces;
    }

pub returns : goal.returns
returns g c =
    let M = g.R.Ring.meaning in
    let b : c.args.column < length c.args.pivot.now = omega (arith, c.requires.within, c.requires.size) in
    let n = refused c.is_zero.result c.if-is_zero.false c.is_zero.ensures.test.1 in
    let e = crossed_is g.R.Ring.algebra M g.met.R.Ring.passes g.R.Domain.division_in_bounds g.R.Reducing.reduction
    (M c.args.divisor.now) c.args.column c.args.pivot.now c.args.row.items
    (map M c.in_ok-crossed.crossed.items) c.index-pivot-column.result c.index-2.result.now b c.requires.within c.index-pivot-column.is c.index-2.ensures
    (c.in_ok-crossed.ensures.gives ∙ ap (λ v. crossed g.R.Ring.algebra.ops (M c.index-pivot-column.result) (map M v) (M c.index-2.result.now)
    (map M c.args.pivot.now)) c.deref.ensures.value) in
    let q = subst (λ o. DividesRow M g.R.Ring.algebra g.R.Domain.division_in_bounds (map M c.deref-2.result.now) (M c.args.divisor.now) (Ok o))
    c.in-None.is c.in_ok-quotients.ensures.divides in
    record {
      clears = gives_cleared g.R.Ring.algebra M g.met.R.Ring.passes g.R.Domain.division_in_bounds g.R.Reducing.reduction
          (M c.args.divisor.now) c.args.column c.args.pivot.now c.args.row.items
          c.index.result.now c.requires.within c.index.ensures n c.in_ok-crossed.crossed.items c.reduce_row-in-None.result
          (kept_is g.R.Ring.algebra M g.met.R.Ring.passes g.R.Domain.division_in_bounds g.R.Reducing.reduction
          (M c.args.divisor.now) c.args.column c.args.pivot.now c.args.row.items
          (map M c.in_ok-crossed.crossed.items) e (subst (λ v. NoQuotients g.R.Ring.algebra (M c.args.divisor.now) (map M v)) c.deref-2.ensures.value q))
          c.reduce_row-in-None.ensures.reduces;
    }
