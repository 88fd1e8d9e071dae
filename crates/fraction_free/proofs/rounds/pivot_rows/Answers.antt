use Rattle.std.proofs.Common.{◌≡◌, map, length, IsFalse, sym, ap, ◌∙◌, subst, arith, All}
use Rattle.std.proofs.lemmas.List.Elements.{All-push}
use Rattle.std.proofs.lemmas.List.{map_push}
use Rattle.kernel_laws.specs.Rows.{entry_at}
use Rattle.kernel_laws.specs.Pivots.{ArePivotColumns}
use Rattle.kernel_laws.specs.Elimination.{Run, pass, Chosen, IsFree, RunInBounds}
use Rattle.kernel_laws.proofs.RunSizes.{run_sizes}
use Rattle.fraction_free.specs.RowAnswers.{rows_meant}
use Rattle.fraction_free.specs.RoundAnswers.{pivots_meant, HasCore, RanTo}
use Rattle.fraction_free.proofs.PivotColumns.{one_more_pivot, none_later, of_error}
use Rattle.fraction_free.proofs.ManyRows.{sizes_up, sizes_down}
use Rattle.fraction_free.proofs.Columns.{fault_pivots, unit_isnt, run_begin, run_pass, run_climb, round_not, round_core}
use Rattle.fraction_free.proofs.rounds.pivot_rows.Goals as goal
use Rattle.fraction_free.proofs.rounds.pivot_rows.Goals.{in-Some+in_ok-next-in-Some+in_ok-core-in-Some+in_ok-push-in-Some, in-None+else-first-column}

pub loop-column-init : goal.loop-column-init
loop-column-init g c =
    let M = g.R.Ring.meaning in
    let rows = rows_meant M c.args.rows.items in
    let run = run_begin g.R.Ring.algebra g.R.Reducing.reduction rows (rows_meant M c.in_ok-open.open.items) (pivots_meant M c.new-pivots.result.items) (M c.in_ok-divisor.divisor)
    c.in_ok-open.ensures.reduces (ap (pivots_meant M) c.new-pivots.ensures.items) c.in_ok-divisor.ensures.gives in
    record {
      within = omega arith;
      sizes = sizes_down M c.args.columns c.in_ok-open.open.items
          (run_sizes g.R.Ring.algebra g.R.Reducing.reduction g.met.R.Reducing.reduction_laws c.args.columns rows (sizes_up M c.args.columns c.args.rows.items c.requires.sizes) run).rows;
      run = run;
      cores = λ k d b. absurd (omega (arith, b, ap length c.new-pivots.ensures.items));
      pivot_columns = λ i b d. absurd (omega (arith, d));
      not_zero = unit_isnt g.R.Ring.algebra g.met.R.Ring.laws g.met.R.Domain.domain_laws (M c.in_ok-divisor.divisor) c.in_ok-divisor.ensures.gives;
    }

pub returns-in_err-next-in-Some : goal.returns-in_err-next-in-Some
returns-in_err-next-in-Some g c =
    let M = g.R.Ring.meaning in
    let rows = rows_meant M c.args.rows.items in
    let chosen = subst (λ v. Chosen g.R.Ring.algebra g.R.Reducing.reduction c.loop-column.column (rows_meant M v) c.in-Some.place) c.deref.ensures.value c.in-Some.ensures.picks in
    record {
      runs = fault_pivots M (RanTo g.R.Ring.algebra g.R.Reducing.reduction c.args.columns c.args.first rows)
          (RunInBounds g.R.Domain.division_in_bounds g.R.Ring.algebra g.R.Reducing.reduction c.args.columns c.args.first rows)
          c.from_residual-in_err-next-in-Some.result c.in_err-next-in-Some.field-0.0 c.from_residual-in_err-next-in-Some.ensures.1
          (round_not g.R.Ring.algebra g.R.Reducing.reduction rows g.R.Domain.division_in_bounds c.args.columns c.args.first c.loop-column.column c.in-Some.place
          (rows_meant M c.loop-column.open.items) (pivots_meant M c.loop-column.pivots.items) (M c.loop-column.divisor) c.in_err-next-in-Some.field-0.0
          c.loop-column-test.true c.loop-column.invariant.pivot_columns c.loop-column.invariant.run chosen c.in_err-next-in-Some.ensures.clears);
      cores = of_error _ c.from_residual-in_err-next-in-Some.result c.in_err-next-in-Some.field-0.0 c.from_residual-in_err-next-in-Some.ensures.1;
    }

pub loop-column-preserved : goal.loop-column-preserved
loop-column-preserved g c =
    let M = g.R.Ring.meaning in
    let rows = rows_meant M c.args.rows.items in
    let sized = sizes_up M c.args.columns c.args.rows.items c.requires.sizes in
    elim c.match-choose_pivot.branch [
      | in-Some+in_ok-next-in-Some+in_ok-core-in-Some+in_ok-push-in-Some w ↦
          let chosen = subst (λ v. Chosen g.R.Ring.algebra g.R.Reducing.reduction c.loop-column.column (rows_meant M v) w.in-Some.place) c.deref.ensures.value w.in-Some.ensures.picks in
          let pivots_are = ap (λ o. pivots_meant M o.items) w.pivots-is ∙ ap (pivots_meant M) w.in_ok-push-in-Some.ensures.items
          ∙ map_push (λ p. (p.column, map M p.row.items)) c.loop-column.pivots.items (record { column = c.loop-column.column; row = w.in_ok-next-in-Some.next.pivot; core = w.in_ok-core-in-Some.core }) in
          let run = run_climb g.R.Ring.algebra g.R.Reducing.reduction rows c.loop-column.column w.in-Some.place (rows_meant M c.loop-column.open.items)
          (rows_meant M w.in_ok-next-in-Some.next.open.items) (rows_meant M c.match-choose_pivot.open.items) (pivots_meant M c.loop-column.pivots.items)
          (pivots_meant M c.match-choose_pivot.pivots.items) (M c.loop-column.divisor) (M w.in_ok-next-in-Some.next.core) (M c.match-choose_pivot.divisor)
          (map M w.in_ok-next-in-Some.next.pivot.items) c.loop-column.invariant.run chosen w.in_ok-next-in-Some.ensures.clears
          (ap (λ o. rows_meant M o.items) w.open-is)
          pivots_are
          (ap M w.divisor-is) in
          record {
            within = omega (arith, c.loop-column-test.true);
            sizes = sizes_down M c.args.columns c.match-choose_pivot.open.items
                (run_sizes g.R.Ring.algebra g.R.Reducing.reduction g.met.R.Reducing.reduction_laws c.args.columns rows sized run).rows;
            run = run;
            cores = subst (All (HasCore M g.R.Ring.algebra g.R.Reducing.reduction))
                (sym (ap (λ o. o.items) w.pivots-is ∙ w.in_ok-push-in-Some.ensures.items))
                (All-push (HasCore M g.R.Ring.algebra g.R.Reducing.reduction) c.loop-column.pivots.items
                (record { column = c.loop-column.column; row = w.in_ok-next-in-Some.next.pivot; core = w.in_ok-core-in-Some.core })
                c.loop-column.invariant.cores (record {
                  plain = w.in_ok-next-in-Some.ensures.clears.plain;
                  split = subst (g.R.Reducing.reduction.Split (entry_at g.R.Ring.algebra.ops (map M w.in_ok-next-in-Some.next.pivot.items) c.loop-column.column)
                      w.in_ok-next-in-Some.ensures.clears.plain) (sym w.in_ok-core-in-Some.ensures.gives) w.in_ok-next-in-Some.ensures.clears.split;
                }));
            pivot_columns = one_more_pivot c.args.first c.loop-column.column (map M w.in_ok-next-in-Some.next.pivot.items)
                (pivots_meant M c.loop-column.pivots.items) (pivots_meant M c.match-choose_pivot.pivots.items) pivots_are
                c.loop-column.invariant.pivot_columns;
            not_zero = subst (λ v. IsFalse (g.R.Ring.algebra.ops.is_nought (M v))) (sym w.divisor-is)
                (round_core g.R.Ring.algebra M g.met.R.Ring.passes g.R.Reducing.reduction g.met.R.Reducing.reduction_laws g.met.R.Ring.laws (M c.loop-column.divisor)
                c.loop-column.column w.in-Some.place (rows_meant M c.loop-column.open.items) (rows_meant M w.in_ok-next-in-Some.next.open.items)
                w.in_ok-next-in-Some.next.pivot (M w.in_ok-next-in-Some.next.core) chosen w.in_ok-next-in-Some.ensures.clears);
          }
      | in-None+else-first-column w ↦
          let run = run_pass g.R.Ring.algebra g.R.Reducing.reduction rows c.loop-column.column (rows_meant M c.loop-column.open.items) (rows_meant M c.match-choose_pivot.open.items)
          (pivots_meant M c.loop-column.pivots.items) (pivots_meant M c.match-choose_pivot.pivots.items) (M c.loop-column.divisor)
          (M c.match-choose_pivot.divisor) c.loop-column.invariant.run
          (subst (λ o. IsFree g.R.Ring.algebra c.loop-column.column (rows_meant M o)) c.deref.ensures.value w.in-None.ensures.picks)
          (ap (λ o. rows_meant M o.items) w.open-is) (ap (λ o. pivots_meant M o.items) w.pivots-is) (ap M w.divisor-is) in
          record {
            within = omega (arith, c.loop-column-test.true);
            sizes = sizes_down M c.args.columns c.match-choose_pivot.open.items
                (run_sizes g.R.Ring.algebra g.R.Reducing.reduction g.met.R.Reducing.reduction_laws c.args.columns rows sized run).rows;
            run = run;
            cores = subst (All (HasCore M g.R.Ring.algebra g.R.Reducing.reduction)) (sym (ap (λ o. o.items) w.pivots-is)) c.loop-column.invariant.cores;
            pivot_columns = λ i b d. absurd (omega (arith, b, d, w.if-first-column.false));
            not_zero = subst (λ v. IsFalse (g.R.Ring.algebra.ops.is_nought (M v))) (sym w.divisor-is) c.loop-column.invariant.not_zero;
          }
    ]

pub returns-then-first-column : goal.returns-then-first-column
returns-then-first-column g c =
    let M = g.R.Ring.meaning in
    let A = g.R.Ring.algebra in
    let run = c.loop-column.invariant.run in
    record {
      runs = (
        record {
          open_rows = rows_meant M c.loop-column.open.items;
          divisor = M c.loop-column.divisor;
          run = pass run (subst (λ o. IsFree A c.loop-column.column (rows_meant M o)) c.deref.ensures.value c.in-None.ensures.picks);
        },
        record {
          free = record {
            within = c.loop-column-test.true;
            free = none_later A c.args.columns c.loop-column.column (pivots_meant M c.loop-column.pivots.items)
                (run_sizes A g.R.Reducing.reduction g.met.R.Reducing.reduction_laws c.args.columns (rows_meant M c.args.rows.items)
                (sizes_up M c.args.columns c.args.rows.items c.requires.sizes) run).pivot_rows;
          };
          from = c.if-first-column.true;
          before = c.loop-column.invariant.pivot_columns;
        },
      );
      cores = c.loop-column.invariant.cores;
    }

pub returns : goal.returns
returns g c =
    let M = g.R.Ring.meaning in
    let e : c.loop-column.column ≡ c.args.columns = omega (arith, c.loop-column.invariant.within, c.loop-column-test.false) in
    record {
      runs = (
        record {
          open_rows = rows_meant M c.loop-column.open.items;
          divisor = M c.loop-column.divisor;
          run = subst (λ j. Run g.R.Ring.algebra g.R.Reducing.reduction (rows_meant M c.args.rows.items) j (rows_meant M c.loop-column.open.items)
              (pivots_meant M c.loop-column.pivots.items) (M c.loop-column.divisor)) e c.loop-column.invariant.run;
        },
        subst (λ j. ArePivotColumns c.args.first j (pivots_meant M c.loop-column.pivots.items)) e c.loop-column.invariant.pivot_columns,
      );
      cores = c.loop-column.invariant.cores;
    }
