use Rattle.std.proofs.Common.{◌<◌, length, map, arith, sym, subst, All}
use Rattle.std.specs.List.{AllZip}
use Rattle.std.proofs.lemmas.List.{length-map}
use Rattle.ring_laws.specs.Answer.{OnFault}
use Rattle.poly_generic.proofs.ListLemmas.{at_item}
use Rattle.kernel_laws.specs.Elimination.{Cleared, ClearingInBounds}
use Rattle.fraction_free.specs.RowAnswers.{rows_meant}
use Rattle.fraction_free.specs.RoundAnswers.{RoundInBounds}
use Rattle.fraction_free.proofs.ManyRows.{removed_long}
use Rattle.fraction_free.proofs.Columns.{fault_round, clear_not, core_not, rounds_made}
use Rattle.fraction_free.proofs.rounds.clear_column.Goals as goal

pub returns-in_err-open : goal.returns-in_err-open
returns-in_err-open g c =
    let M = g.R.Ring.meaning in
    let b : c.args.place < length c.args.rows.items = omega (arith, c.requires.chosen.within, length-map c.args.rows.items (λ row. map M row.items)) in
    record {
      clears = fault_round M g.R.Ring.algebra g.R.Reducing.reduction (M c.args.divisor.now) c.args.column (rows_meant M c.args.rows.items) c.args.place
          (RoundInBounds g.R.Domain.division_in_bounds g.R.Ring.algebra g.R.Reducing.reduction (M c.args.divisor.now) c.args.column
          (rows_meant M c.args.rows.items) c.args.place)
          c.from_residual.result c.in_err-open.field-0.0 c.from_residual.ensures.1
          (clear_not g.R.Ring.algebra M g.R.Reducing.reduction (M c.args.divisor.now) c.args.column c.args.rows.items
          c.remove-pivot.new.self.items c.args.place c.remove-pivot.result b c.remove-pivot.ensures.value c.remove-pivot.ensures.by_index.2 g.R.Domain.division_in_bounds c.in_err-open.field-0.0
          (subst (λ v. OnFault (¬ (All (ClearingInBounds g.R.Domain.division_in_bounds g.R.Ring.algebra g.R.Reducing.reduction (M c.args.divisor.now)
          c.args.column (map M v)) (rows_meant M c.remove-pivot.new.self.items))) c.in_err-open.field-0.0) c.deref.ensures.value
          c.in_err-open.ensures.clears));
    }

pub returns-in_err-core : goal.returns-in_err-core
returns-in_err-core g c =
    let M = g.R.Ring.meaning in
    let b : c.args.place < length c.args.rows.items = omega (arith, c.requires.chosen.within, length-map c.args.rows.items (λ row. map M row.items)) in
    let wide = (removed_long c.args.columns c.args.place c.args.rows.items c.remove-pivot.new.self.items c.remove-pivot.result b
    c.remove-pivot.ensures.value c.remove-pivot.ensures.by_index.2 c.requires.sizes).1 in
    let en = sym (at_item g.R.Ring.algebra.ops M c.remove-pivot.result.items c.args.column c.index.result.now
    (omega (arith, c.requires.within, wide)) c.index.ensures) in
    record {
      clears = fault_round M g.R.Ring.algebra g.R.Reducing.reduction (M c.args.divisor.now) c.args.column (rows_meant M c.args.rows.items) c.args.place
          (RoundInBounds g.R.Domain.division_in_bounds g.R.Ring.algebra g.R.Reducing.reduction (M c.args.divisor.now) c.args.column
          (rows_meant M c.args.rows.items) c.args.place)
          c.from_residual-in_err-core.result c.in_err-core.field-0.0 c.from_residual-in_err-core.ensures.1
          (core_not g.R.Ring.algebra M g.R.Reducing.reduction (M c.args.divisor.now) c.args.column c.args.rows.items
          c.remove-pivot.new.self.items c.args.place c.remove-pivot.result b c.remove-pivot.ensures.value c.remove-pivot.ensures.by_index.2 g.R.Domain.division_in_bounds c.in_err-core.field-0.0 (M c.index.result.now) en
          c.in_err-core.ensures.core);
    }

pub returns : goal.returns
returns g c =
    let M = g.R.Ring.meaning in
    let b : c.args.place < length c.args.rows.items = omega (arith, c.requires.chosen.within, length-map c.args.rows.items (λ row. map M row.items)) in
    let wide = (removed_long c.args.columns c.args.place c.args.rows.items c.remove-pivot.new.self.items c.remove-pivot.result b
    c.remove-pivot.ensures.value c.remove-pivot.ensures.by_index.2 c.requires.sizes).1 in
    let en = sym (at_item g.R.Ring.algebra.ops M c.remove-pivot.result.items c.args.column c.index.result.now
    (omega (arith, c.requires.within, wide)) c.index.ensures) in
    record {
      clears = rounds_made g.R.Ring.algebra M g.R.Reducing.reduction (M c.args.divisor.now) c.args.column c.args.rows.items
          c.remove-pivot.new.self.items c.args.place c.remove-pivot.result b c.remove-pivot.ensures.value c.remove-pivot.ensures.by_index.2 (rows_meant M c.in_ok-open.open.items)
          c.in_ok-core.ensures.core.plain (M c.in_ok-core.core)
          (subst (λ v. AllZip (Cleared g.R.Ring.algebra g.R.Reducing.reduction (M c.args.divisor.now) c.args.column (map M v))
          (rows_meant M c.remove-pivot.new.self.items) (rows_meant M c.in_ok-open.open.items)) c.deref.ensures.value c.in_ok-open.ensures.clears)
          (subst (λ v. g.R.Reducing.reduction.Split v c.in_ok-core.ensures.core.plain (M c.in_ok-core.core)) en c.in_ok-core.ensures.core.split);
    }
