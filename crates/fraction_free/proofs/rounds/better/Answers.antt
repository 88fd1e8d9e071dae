use Rattle.std.proofs.Common.{◌<◌, length, sym, subst, arith}
use Rattle.fraction_free.specs.RowAnswers.{rows_meant}
use Rattle.fraction_free.specs.RoundAnswers.{Best}
use Rattle.fraction_free.proofs.RowLemmas.{refused}
use Rattle.fraction_free.proofs.Choices.{entry_is, best_zero, best_lighter, best_stays}
use Rattle.fraction_free.proofs.rounds.better.Goals as goal

pub returns-then-is_zero : goal.returns-then-is_zero
returns-then-is_zero g c =
    let M = g.R.Ring.meaning in
    let row = c.index-rows-next.result in
    let wide : c.args.column < length row.items = subst (λ v. c.args.column < length v.items) (sym c.index-rows-next.is) (c.requires.sizes c.args.next row c.requires.within) in
    record {
      best = best_zero g.R.Ring.algebra g.R.Reducing.reduction c.args.column (rows_meant M c.args.rows.now) c.args.next c.args.best
          (M c.index-entry.result.now)
          (entry_is g.R.Ring.algebra M c.args.rows.now c.args.next c.args.column row c.index-entry.result.now c.requires.within
          c.index-rows-next.is wide c.index-entry.ensures)
          (c.is_zero.ensures.test.0 c.if-is_zero.true) c.requires.best;
    }

pub returns-then-weight : goal.returns-then-weight
returns-then-weight g c =
    let M = g.R.Ring.meaning in
    let row = c.index-rows-next.result in
    let old = c.index-rows-place.result in
    let wide : c.args.column < length row.items = subst (λ v. c.args.column < length v.items) (sym c.index-rows-next.is) (c.requires.sizes c.args.next row c.requires.within) in
    let best = subst (λ o. Best g.R.Ring.algebra g.R.Reducing.reduction c.args.column (rows_meant M c.args.rows.now) c.args.next o) c.in-Some.is c.requires.best in
    let inside : c.in-Some.place < length c.args.rows.now = omega (arith, best.within, c.requires.within) in
    let old_wide : c.args.column < length old.items = subst (λ v. c.args.column < length v.items) (sym c.index-rows-place.is) (c.requires.sizes c.in-Some.place old inside) in
    record {
      best = best_lighter g.R.Ring.algebra g.R.Reducing.reduction c.args.column (rows_meant M c.args.rows.now) c.args.next c.in-Some.place
          c.weight.result c.weight-in-Some.result (M c.index-entry.result.now) (M c.index.result.now)
          (entry_is g.R.Ring.algebra M c.args.rows.now c.args.next c.args.column row c.index-entry.result.now c.requires.within
          c.index-rows-next.is wide c.index-entry.ensures)
          (entry_is g.R.Ring.algebra M c.args.rows.now c.in-Some.place c.args.column old c.index.result.now inside c.index-rows-place.is old_wide
          c.index.ensures)
          (refused c.is_zero.result c.if-is_zero.false c.is_zero.ensures.test.1) c.weight.ensures.weight c.weight-in-Some.ensures.weight
          (omega (arith, c.if-weight.true)) best;
    }

pub returns-else-weight : goal.returns-else-weight
returns-else-weight g c =
    let M = g.R.Ring.meaning in
    let row = c.index-rows-next.result in
    let old = c.index-rows-place.result in
    let wide : c.args.column < length row.items = subst (λ v. c.args.column < length v.items) (sym c.index-rows-next.is) (c.requires.sizes c.args.next row c.requires.within) in
    let best = subst (λ o. Best g.R.Ring.algebra g.R.Reducing.reduction c.args.column (rows_meant M c.args.rows.now) c.args.next o) c.in-Some.is c.requires.best in
    let inside : c.in-Some.place < length c.args.rows.now = omega (arith, best.within, c.requires.within) in
    let old_wide : c.args.column < length old.items = subst (λ v. c.args.column < length v.items) (sym c.index-rows-place.is) (c.requires.sizes c.in-Some.place old inside) in
    record {
      best = best_stays g.R.Ring.algebra g.R.Reducing.reduction c.args.column (rows_meant M c.args.rows.now) c.args.next c.in-Some.place
          c.weight.result c.weight-in-Some.result (M c.index-entry.result.now) (M c.index.result.now)
          (entry_is g.R.Ring.algebra M c.args.rows.now c.args.next c.args.column row c.index-entry.result.now c.requires.within
          c.index-rows-next.is wide c.index-entry.ensures)
          (entry_is g.R.Ring.algebra M c.args.rows.now c.in-Some.place c.args.column old c.index.result.now inside c.index-rows-place.is old_wide
          c.index.ensures)
          c.weight.ensures.weight c.weight-in-Some.ensures.weight (omega (arith, c.if-weight.false)) best;
    }
