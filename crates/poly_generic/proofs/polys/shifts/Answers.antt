use Rattle.std.proofs.Common.{◌∙◌, map, ap, arith, below_more}
use Rattle.std.proofs.lemmas.List.{length-map, take_all}
use Rattle.ring_laws.specs.Meaning.{Meaning, listed}
use Rattle.poly_laws.specs.Shift.{poly_shift}
use Rattle.poly_generic.specs.declared.polys.Poly.{Poly}
use Rattle.poly_generic.proofs.InnerShiftAnswers.{in_bounds_all, shift_fault, shift_at, one_shifted, fault_shifts}
use Rattle.poly_generic.proofs.polys.shifts.Goals as goal

pub returns-in_err-shifted : goal.returns-in_err-shifted
returns-in_err-shifted g c =
    let mean : Poly g.row.R.Denot g.R.Ring → Meaning = λ v. listed (map g.R.Ring.meaning v.list.items) in
    fault_shifts mean _ _ c.from_residual.result c.in_err-shifted.field-0.0 c.from_residual.ensures.1
    (shift_fault g.R.Ring.algebra g.met.R.Ring.laws (g.R.Ring.algebra.ops.whole c.args.by.value) mean c.args.list.now c.loop-item.item-index
    c.item-item.result c.in_err-shifted.field-0.0 c.loop-item-test.true c.item-item.is c.in_err-shifted.ensures.gives)

pub loop-item-preserved : goal.loop-item-preserved
loop-item-preserved g c =
    let mean : Poly g.row.R.Denot g.R.Ring → Meaning = λ v. listed (map g.R.Ring.meaning v.list.items) in
    record {
      in_bounds = below_more _ _ c.loop-item.invariant.in_bounds
          (shift_at g.R.Ring.algebra g.met.R.Ring.laws (g.R.Ring.algebra.ops.whole c.args.by.value) mean c.args.list.now c.loop-item.item-index
          c.item-item.result c.loop-item-test.true c.item-item.is c.in_ok-shifted.ensures.gives.0);
      made = one_shifted mean (poly_shift g.R.Ring.algebra.ops c.args.by.value) c.args.list.now c.loop-item.out.items c.push.new.self.items
          c.loop-item.item-index c.item-item.result c.in_ok-shifted.shifted c.loop-item-test.true c.item-item.is c.in_ok-push.ensures.items
          c.in_ok-shifted.ensures.gives.1 c.loop-item.invariant.made;
    }

pub returns : goal.returns
returns g c =
    let mean : Poly g.row.R.Denot g.R.Ring → Meaning = λ v. listed (map g.R.Ring.meaning v.list.items) in (
      in_bounds_all g.R.Ring.algebra g.met.R.Ring.laws (g.R.Ring.algebra.ops.whole c.args.by.value) (map mean c.args.list.now) c.loop-item.item-index
          (omega (arith, length-map c.args.list.now mean, c.loop-item-test.false)) c.loop-item.invariant.in_bounds,
      c.loop-item.invariant.made
          ∙ ap (λ t. map (poly_shift g.R.Ring.algebra.ops c.args.by.value) (map mean t)) (take_all c.loop-item.item-index c.args.list.now c.loop-item-test.false),
    )
