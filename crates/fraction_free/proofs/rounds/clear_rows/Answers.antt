use Rattle.std.proofs.Common.{◌++◌, map, ap, sym, ◌∙◌}
use Rattle.std.specs.List.{AllZip}
use Rattle.std.specs.Vec.Iter.{into_iter_items}
use Rattle.kernel_laws.specs.Elimination.{Cleared, ClearingInBounds}
use Rattle.fraction_free.specs.RowAnswers.{rows_meant}
use Rattle.fraction_free.proofs.ManyRows.{zip_more, one_fault, whole_more}
use Rattle.fraction_free.proofs.rounds.clear_rows.Goals as goal

pub returns-in_err-cleared : goal.returns-in_err-cleared
returns-in_err-cleared g c =
    let M = g.R.Ring.meaning in
    record {
      clears = one_fault M
          (AllZip (Cleared g.R.Ring.algebra g.R.Reducing.reduction (M c.args.divisor.now) c.args.column (map M c.args.pivot.now))
          (rows_meant M c.args.rows.items))
          (ClearingInBounds g.R.Domain.division_in_bounds g.R.Ring.algebra g.R.Reducing.reduction (M c.args.divisor.now) c.args.column
          (map M c.args.pivot.now))
          c.loop-row.yielded (into_iter_items c.next.new.self) c.args.rows.items c.in-Some.row c.from_residual.result c.in_err-cleared.field-0.0
          (ap (λ t. c.loop-row.yielded ++ t) (sym c.in-Some.ensures.steps.0) ∙ c.loop-row.invariant.whole) c.from_residual.ensures.1
          c.in_err-cleared.ensures.clears;
    }

pub loop-row-preserved : goal.loop-row-preserved
loop-row-preserved g c =
    let M = g.R.Ring.meaning in
    record {
      can = tt;
      finite = tt;
      whole = whole_more c.loop-row.yielded (into_iter_items c.loop-row.row-iterator) (into_iter_items c.next.new.self) c.args.rows.items
          c.in-Some.row c.in-Some.ensures.steps.0 c.loop-row.invariant.whole;
      done = zip_more M (Cleared g.R.Ring.algebra g.R.Reducing.reduction (M c.args.divisor.now) c.args.column (map M c.args.pivot.now))
          c.loop-row.yielded c.loop-row.out.items c.push.new.self.items c.in-Some.row c.in_ok-cleared.cleared c.loop-row.invariant.done
          c.in_ok-cleared.ensures.clears c.in_ok-push.ensures.items;
    }
