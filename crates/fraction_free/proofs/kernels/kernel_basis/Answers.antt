use Rattle.std.proofs.Common.{◌≡◌, ◌∷◌, [], ◌++◌, map, sym, ap, ◌∙◌, subst, arith, All}
use Rattle.std.proofs.lemmas.List.{map_push}
use Rattle.ring_laws.specs.Answer.{OnFault, fault_weaker}
use Rattle.kernel_laws.specs.Pivots.{IsPivotRow, IsPivotColumn}
use Rattle.kernel_laws.specs.BackSubstitution.{BackRun, BackInBounds, FreeVectors}
use Rattle.kernel_laws.specs.Answers.{Basis}
use Rattle.kernel_laws.proofs.OneVector.{one_basis}
use Rattle.fraction_free.specs.RowAnswers.{rows_meant}
use Rattle.fraction_free.specs.RoundAnswers.{pivots_meant, HasCore}
use Rattle.fraction_free.proofs.ManyRows.{fault_rows}
use Rattle.fraction_free.proofs.RowLemmas.{refused}
use Rattle.fraction_free.proofs.Finish.{pivots_well, basis_side, through_all}
use Rattle.fraction_free.proofs.BasisAnswers.{start_none, one_passed, one_added}
use Rattle.fraction_free.proofs.kernels.kernel_basis.Goals as goal
use Rattle.fraction_free.proofs.kernels.kernel_basis.Goals.{then-not-is_pivot+in_ok-vector+in_ok-push, else-not-is_pivot}

pub loop-column-init : goal.loop-column-init
loop-column-init g c =
    let M = g.R.Ring.meaning in
    record {
      within = omega arith;
      frees = [];
      made = start_none g.R.Ring.algebra g.R.Reducing.reduction c.args.columns (pivots_meant M c.in_ok-found.found.pivots.items)
          (rows_meant M c.new-vectors.result.items) (ap (rows_meant M) c.new-vectors.ensures.items);
    }

pub free_vector-requires-clause-cores : goal.free_vector-requires-clause-cores
free_vector-requires-clause-cores g c =
    subst (All (HasCore g.R.Ring.meaning g.R.Ring.algebra g.R.Reducing.reduction)) (sym c.deref-then-not-is_pivot.ensures.value) c.in_ok-found.ensures.cores

pub free_vector-requires-clause-pivot_rows : goal.free_vector-requires-clause-pivot_rows
free_vector-requires-clause-pivot_rows g c =
    let M = g.R.Ring.meaning in
    subst (λ v. All (IsPivotRow g.R.Ring.algebra c.args.columns c.args.columns) (pivots_meant M v)) (sym c.deref-then-not-is_pivot.ensures.value)
    (pivots_well g.R.Ring.algebra g.met.R.Ring.laws g.met.R.Domain.domain_laws M g.met.R.Ring.passes g.R.Reducing.reduction
    g.met.R.Reducing.reduction_laws c.args.columns c.args.rows.items (pivots_meant M c.in_ok-found.found.pivots.items) c.requires.sizes
    c.args.columns (omega arith) (through_all g.R.Ring.algebra g.R.Reducing.reduction c.args.columns (rows_meant M c.args.rows.items)
    (pivots_meant M c.in_ok-found.found.pivots.items) c.in_ok-found.found.free c.in_ok-found.ensures.runs))

pub returns-in_err-vector-clause-basis : goal.returns-in_err-vector-clause-basis
returns-in_err-vector-clause-basis g c =
    let M = g.R.Ring.meaning in
    let ps = pivots_meant M c.in_ok-found.found.pivots.items in
    let m = subst (λ v. ¬ (IsPivotColumn c.loop-column.column (pivots_meant M v))) c.deref.ensures.value
    (refused c.is_pivot.result c.if-not-is_pivot.true c.is_pivot.ensures.test.1) in
    let h = subst (λ v. OnFault (¬ (BackInBounds g.R.Domain.division_in_bounds g.R.Ring.algebra g.R.Reducing.reduction c.args.columns
    c.loop-column.column (pivots_meant M v))) c.in_err-vector.field-0.0) c.deref-then-not-is_pivot.ensures.value c.in_err-vector.ensures.runs in
    fault_rows M (Basis g.R.Ring.algebra c.args.columns (rows_meant M c.args.rows.items)) _ c.from_residual-in_err-vector.result
    c.in_err-vector.field-0.0 c.from_residual-in_err-vector.ensures.1
    (fault_weaker c.in_err-vector.field-0.0 (λ n k. n (k.vectors c.loop-column.column ps (through_all g.R.Ring.algebra g.R.Reducing.reduction c.args.columns
    (rows_meant M c.args.rows.items) ps c.in_ok-found.found.free c.in_ok-found.ensures.runs)
    (record { within = c.loop-column-test.true; free = m }))) h)

pub loop-column-preserved : goal.loop-column-preserved
loop-column-preserved g c =
    let M = g.R.Ring.meaning in
    let A = g.R.Ring.algebra in
    let R = g.R.Reducing.reduction in
    let ps = pivots_meant M c.in_ok-found.found.pivots.items in
    elim c.if-not-is_pivot.branch [
      | then-not-is_pivot+in_ok-vector+in_ok-push w ↦ record {
        within = omega (arith, c.loop-column-test.true);
        frees = c.loop-column.invariant.frees ++ c.loop-column.column ∷ [];
        made = one_added A R c.args.columns ps c.loop-column.column c.loop-column.invariant.frees (rows_meant M c.loop-column.vectors.items)
            (rows_meant M c.if-not-is_pivot.vectors.items) (map M w.in_ok-vector.vector.items)
            (subst (λ v. ¬ (IsPivotColumn c.loop-column.column (pivots_meant M v))) c.deref.ensures.value
            (refused c.is_pivot.result w.if-not-is_pivot.true c.is_pivot.ensures.test.1))
            (subst (λ v. BackRun A R c.args.columns c.loop-column.column (pivots_meant M v) (map M w.in_ok-vector.vector.items))
            w.deref-then-not-is_pivot.ensures.value w.in_ok-vector.ensures.runs)
            (ap (λ o. rows_meant M o.items) w.vectors-is ∙ ap (rows_meant M) w.in_ok-push.ensures.items
            ∙ map_push (λ v. map M v.items) c.loop-column.vectors.items w.in_ok-vector.vector) c.loop-column.invariant.made;
      }
      | else-not-is_pivot w ↦ record {
        within = omega (arith, c.loop-column-test.true);
        frees = c.loop-column.invariant.frees;
        made = one_passed A R c.args.columns ps c.loop-column.column c.loop-column.invariant.frees (rows_meant M c.loop-column.vectors.items)
            (rows_meant M c.if-not-is_pivot.vectors.items)
            (subst (λ v. IsPivotColumn c.loop-column.column (pivots_meant M v)) c.deref.ensures.value (c.is_pivot.ensures.test.0 w.if-not-is_pivot.false))
            (ap (λ o. rows_meant M o.items) w.vectors-is) c.loop-column.invariant.made;
      }
    ]

pub returns-clause-basis : goal.returns-clause-basis
returns-clause-basis g c =
    let M = g.R.Ring.meaning in
    let e : c.loop-column.column ≡ c.args.columns = omega (arith, c.loop-column.invariant.within, c.loop-column-test.false) in
    basis_side g.R.Ring.algebra g.met.R.Ring.laws g.met.R.Domain.domain_laws M g.met.R.Ring.passes g.R.Reducing.reduction
    g.met.R.Reducing.reduction_laws c.args.columns c.args.rows.items (pivots_meant M c.in_ok-found.found.pivots.items) c.requires.sizes
    (through_all g.R.Ring.algebra g.R.Reducing.reduction c.args.columns (rows_meant M c.args.rows.items)
    (pivots_meant M c.in_ok-found.found.pivots.items) c.in_ok-found.found.free c.in_ok-found.ensures.runs) c.loop-column.invariant.frees (rows_meant M c.loop-column.vectors.items)
    (subst (λ j. FreeVectors g.R.Ring.algebra g.R.Reducing.reduction c.args.columns (pivots_meant M c.in_ok-found.found.pivots.items) j
    c.loop-column.invariant.frees (rows_meant M c.loop-column.vectors.items)) e c.loop-column.invariant.made)

pub returns-clause-only : goal.returns-clause-only
returns-clause-only g c =
    let M = g.R.Ring.meaning in
    let A = g.R.Ring.algebra in
    let R = g.R.Reducing.reduction in
    let ps = pivots_meant M c.in_ok-found.found.pivots.items in
    let vectors = rows_meant M c.loop-column.vectors.items in
    let e : c.loop-column.column ≡ c.args.columns = omega (arith, c.loop-column.invariant.within, c.loop-column-test.false) in
    let all = subst (λ j. FreeVectors A R c.args.columns ps j c.loop-column.invariant.frees vectors) e c.loop-column.invariant.made in
    λ others h.
    one_basis A g.met.R.Ring.laws g.met.R.Domain.domain_laws R g.met.R.Reducing.reduction_laws c.args.columns (rows_meant M c.args.rows.items) others
    vectors h (record { pivots = ps; ran = through_all A R c.args.columns (rows_meant M c.args.rows.items) ps c.in_ok-found.found.free c.in_ok-found.ensures.runs; frees = c.loop-column.invariant.frees; back = all })
