use Rattle.std.proofs.Common.{◌++◌, ap, sym, ◌∙◌}
use Rattle.std.specs.List.{AllZip}
use Rattle.std.specs.Vec.Iter.{into_iter_items}
use Rattle.fraction_free.specs.RowAnswers.{rows_meant}
use Rattle.fraction_free.proofs.ManyRows.{zip_more, one_fault, whole_more}
use Rattle.fraction_free.proofs.rounds.reduce_rows.Goals as goal

pub returns-in_err-reduced : goal.returns-in_err-reduced
returns-in_err-reduced g c =
    let M = g.R.Ring.meaning in
    record {
      reduces = one_fault M (AllZip g.R.Reducing.reduction.Reduced (rows_meant M c.args.rows.items)) g.R.Reducing.reduction.ReductionInBounds
          c.loop-row.yielded (into_iter_items c.next.new.self) c.args.rows.items c.in-Some.row c.from_residual.result c.in_err-reduced.field-0.0
          (ap (λ t. c.loop-row.yielded ++ t) (sym c.in-Some.ensures.steps.0) ∙ c.loop-row.invariant.whole) c.from_residual.ensures.1
          c.in_err-reduced.ensures.reduces;
    }

pub loop-row-preserved : goal.loop-row-preserved
loop-row-preserved g c = record {
  can = tt;
  finite = tt;
  whole = whole_more c.loop-row.yielded (into_iter_items c.loop-row.row-iterator) (into_iter_items c.next.new.self) c.args.rows.items
      c.in-Some.row c.in-Some.ensures.steps.0 c.loop-row.invariant.whole;
  done = zip_more g.R.Ring.meaning g.R.Reducing.reduction.Reduced c.loop-row.yielded c.loop-row.out.items c.push.new.self.items c.in-Some.row
      c.in_ok-reduced.reduced c.loop-row.invariant.done c.in_ok-reduced.ensures.reduces c.in_ok-push.ensures.items;
}
