use Rattle.std.proofs.Common.{◌≡◌, ◌+◌, ◌-◌, ◌<◌, length, map, drop, arith, ap, ◌∙◌, sym, subst, IsFalse, refl}
use Rattle.std.proofs.lemmas.List.{length-map}
use Rattle.kernel_laws.specs.Rows.{entry_at}
use Rattle.kernel_laws.specs.Reduction.{IsCoreBy}
use Rattle.kernel_laws.specs.BackSubstitution.{BackRun}
use Rattle.fraction_free.specs.RoundAnswers.{pivots_meant}
use Rattle.fraction_free.proofs.RowLemmas.{fault_row}
use Rattle.fraction_free.proofs.BackRunAnswers.{run_begin, vector_size, pivot_here, core_here, run_more, run_not}
use Rattle.fraction_free.proofs.vectors.free_vector.Goals as goal

pub loop-at-init : goal.loop-at-init
loop-at-init g c =
    let M = g.R.Ring.meaning in
    record {
      within = omega arith;
      run = run_begin M g.R.Ring.algebra g.R.Reducing.reduction g.met.R.Reducing.reduction_laws g.R.Domain.division_in_bounds c.args.columns c.args.free
          c.args.pivots.now _ (map M c.in_ok-vector.vector.items) refl c.in_ok-vector.ensures.gives;
    }

pub back_step-requires-clause-same_length : goal.back_step-requires-clause-same_length
back_step-requires-clause-same_length g c =
    let M = g.R.Ring.meaning in
    let b : c.loop-at.at - 1 < length c.args.pivots.now = omega (arith, c.loop-at.invariant.within, c.loop-at-test.true) in
    let n : c.loop-at.at - 1 + 1 ≡ c.loop-at.at = omega (arith, c.loop-at-test.true) in
    let next : BackRun g.R.Ring.algebra g.R.Reducing.reduction c.args.columns c.args.free (pivots_meant M (drop c.loop-at.at c.args.pivots.now))
    (map M c.loop-at.vector.items) = c.loop-at.invariant.run in
    let long = vector_size M g.R.Ring.algebra g.R.Reducing.reduction g.met.R.Reducing.reduction_laws g.R.Domain.division_in_bounds c.args.columns c.args.free
    c.args.pivots.now (drop c.loop-at.at c.args.pivots.now) c.loop-at.vector.items next in
    let p = c.index-pivots-at.result in
    let here = pivot_here M g.R.Ring.algebra g.R.Reducing.reduction g.met.R.Reducing.reduction_laws g.R.Domain.division_in_bounds c.args.columns c.args.free
    c.args.pivots.now c.loop-at.at (c.loop-at.at - 1) n b p c.index-pivots-at.is c.requires.pivot_rows in
    ap length c.deref.ensures.value ∙ sym (length-map p.row.items M) ∙ here.size ∙ sym long

pub back_step-requires-clause-within : goal.back_step-requires-clause-within
back_step-requires-clause-within g c =
    let M = g.R.Ring.meaning in
    let b : c.loop-at.at - 1 < length c.args.pivots.now = omega (arith, c.loop-at.invariant.within, c.loop-at-test.true) in
    let n : c.loop-at.at - 1 + 1 ≡ c.loop-at.at = omega (arith, c.loop-at-test.true) in
    let next : BackRun g.R.Ring.algebra g.R.Reducing.reduction c.args.columns c.args.free (pivots_meant M (drop c.loop-at.at c.args.pivots.now))
    (map M c.loop-at.vector.items) = c.loop-at.invariant.run in
    let long = vector_size M g.R.Ring.algebra g.R.Reducing.reduction g.met.R.Reducing.reduction_laws g.R.Domain.division_in_bounds c.args.columns c.args.free
    c.args.pivots.now (drop c.loop-at.at c.args.pivots.now) c.loop-at.vector.items next in
    let p = c.index-pivots-at.result in
    let here = pivot_here M g.R.Ring.algebra g.R.Reducing.reduction g.met.R.Reducing.reduction_laws g.R.Domain.division_in_bounds c.args.columns c.args.free
    c.args.pivots.now c.loop-at.at (c.loop-at.at - 1) n b p c.index-pivots-at.is c.requires.pivot_rows in
    omega (arith, here.before, long)

pub back_step-requires-clause-not_zero : goal.back_step-requires-clause-not_zero
back_step-requires-clause-not_zero g c =
    let M = g.R.Ring.meaning in
    let b : c.loop-at.at - 1 < length c.args.pivots.now = omega (arith, c.loop-at.invariant.within, c.loop-at-test.true) in
    let n : c.loop-at.at - 1 + 1 ≡ c.loop-at.at = omega (arith, c.loop-at-test.true) in
    let next : BackRun g.R.Ring.algebra g.R.Reducing.reduction c.args.columns c.args.free (pivots_meant M (drop c.loop-at.at c.args.pivots.now))
    (map M c.loop-at.vector.items) = c.loop-at.invariant.run in
    let long = vector_size M g.R.Ring.algebra g.R.Reducing.reduction g.met.R.Reducing.reduction_laws g.R.Domain.division_in_bounds c.args.columns c.args.free
    c.args.pivots.now (drop c.loop-at.at c.args.pivots.now) c.loop-at.vector.items next in
    let p = c.index-pivots-at.result in
    let here = pivot_here M g.R.Ring.algebra g.R.Reducing.reduction g.met.R.Reducing.reduction_laws g.R.Domain.division_in_bounds c.args.columns c.args.free
    c.args.pivots.now c.loop-at.at (c.loop-at.at - 1) n b p c.index-pivots-at.is c.requires.pivot_rows in
    subst (λ v. IsFalse (g.R.Ring.algebra.ops.is_nought (entry_at g.R.Ring.algebra.ops (map M v) p.column))) (sym c.deref.ensures.value) here.not_zero

pub back_step-requires-clause-core : goal.back_step-requires-clause-core
back_step-requires-clause-core g c =
    let M = g.R.Ring.meaning in
    let b : c.loop-at.at - 1 < length c.args.pivots.now = omega (arith, c.loop-at.invariant.within, c.loop-at-test.true) in
    let n : c.loop-at.at - 1 + 1 ≡ c.loop-at.at = omega (arith, c.loop-at-test.true) in
    let p = c.index-pivots-at.result in
    subst (λ v. IsCoreBy g.R.Reducing.reduction (entry_at g.R.Ring.algebra.ops (map M v) p.column) (M p.core)) (sym c.deref.ensures.value)
    (core_here M g.R.Ring.algebra g.R.Reducing.reduction g.met.R.Reducing.reduction_laws g.R.Domain.division_in_bounds c.args.columns c.args.free
    c.args.pivots.now c.loop-at.at (c.loop-at.at - 1) n b p c.index-pivots-at.is c.requires.cores)

pub returns-in_err-vector-2 : goal.returns-in_err-vector-2
returns-in_err-vector-2 g c =
    let M = g.R.Ring.meaning in
    let b : c.loop-at.at - 1 < length c.args.pivots.now = omega (arith, c.loop-at.invariant.within, c.loop-at-test.true) in
    let n : c.loop-at.at - 1 + 1 ≡ c.loop-at.at = omega (arith, c.loop-at-test.true) in
    let next : BackRun g.R.Ring.algebra g.R.Reducing.reduction c.args.columns c.args.free (pivots_meant M (drop c.loop-at.at c.args.pivots.now))
    (map M c.loop-at.vector.items) = c.loop-at.invariant.run in
    let long = vector_size M g.R.Ring.algebra g.R.Reducing.reduction g.met.R.Reducing.reduction_laws g.R.Domain.division_in_bounds c.args.columns c.args.free
    c.args.pivots.now (drop c.loop-at.at c.args.pivots.now) c.loop-at.vector.items next in
    let p = c.index-pivots-at.result in
    let here = pivot_here M g.R.Ring.algebra g.R.Reducing.reduction g.met.R.Reducing.reduction_laws g.R.Domain.division_in_bounds c.args.columns c.args.free
    c.args.pivots.now c.loop-at.at (c.loop-at.at - 1) n b p c.index-pivots-at.is c.requires.pivot_rows in
    record {
      runs = fault_row M (BackRun g.R.Ring.algebra g.R.Reducing.reduction c.args.columns c.args.free (pivots_meant M c.args.pivots.now)) _
          c.from_residual-in_err-vector-2.result c.in_err-vector-2.field-0.0 c.from_residual-in_err-vector-2.ensures.1
          (run_not M g.R.Ring.algebra g.R.Reducing.reduction g.met.R.Reducing.reduction_laws g.R.Domain.division_in_bounds c.args.columns c.args.free
          c.args.pivots.now
          c.loop-at.at (c.loop-at.at - 1) n b p c.index-pivots-at.is (length c.loop-at.vector.items) _
          (map M c.deref.result.now) (map M c.loop-at.vector.items) c.in_err-vector-2.field-0.0 long refl
          (ap (map M) c.deref.ensures.value) next c.in_err-vector-2.ensures.steps);
    }

pub loop-at-preserved : goal.loop-at-preserved
loop-at-preserved g c =
    let M = g.R.Ring.meaning in
    let b : c.loop-at.at - 1 < length c.args.pivots.now = omega (arith, c.loop-at.invariant.within, c.loop-at-test.true) in
    let n : c.loop-at.at - 1 + 1 ≡ c.loop-at.at = omega (arith, c.loop-at-test.true) in
    let next : BackRun g.R.Ring.algebra g.R.Reducing.reduction c.args.columns c.args.free (pivots_meant M (drop c.loop-at.at c.args.pivots.now))
    (map M c.loop-at.vector.items) = c.loop-at.invariant.run in
    let long = vector_size M g.R.Ring.algebra g.R.Reducing.reduction g.met.R.Reducing.reduction_laws g.R.Domain.division_in_bounds c.args.columns c.args.free
    c.args.pivots.now (drop c.loop-at.at c.args.pivots.now) c.loop-at.vector.items next in
    let p = c.index-pivots-at.result in
    let here = pivot_here M g.R.Ring.algebra g.R.Reducing.reduction g.met.R.Reducing.reduction_laws g.R.Domain.division_in_bounds c.args.columns c.args.free
    c.args.pivots.now c.loop-at.at (c.loop-at.at - 1) n b p c.index-pivots-at.is c.requires.pivot_rows in
    record {
      within = omega (arith, c.loop-at.invariant.within);
      run = run_more M g.R.Ring.algebra g.R.Reducing.reduction g.met.R.Reducing.reduction_laws g.R.Domain.division_in_bounds c.args.columns c.args.free
          c.args.pivots.now
          c.loop-at.at (c.loop-at.at - 1) n b p c.index-pivots-at.is (length c.loop-at.vector.items) _
          (map M c.deref.result.now) (map M c.loop-at.vector.items) (map M c.in_ok-vector-2.vector.items) long refl
          (ap (map M) c.deref.ensures.value) next c.in_ok-vector-2.ensures.steps;
    }
