use Rattle.std.proofs.Common.{◌≡◌, suc, length, map, sym, subst, arith, All}
use Rattle.kernel_laws.specs.Pivots.{IsPivotRow}
use Rattle.kernel_laws.specs.BackSubstitution.{BackRun}
use Rattle.kernel_laws.specs.Answers.{AllPivots}
use Rattle.kernel_laws.proofs.OneVector.{one_vector}
use Rattle.fraction_free.specs.RowAnswers.{rows_meant}
use Rattle.fraction_free.specs.RoundAnswers.{pivots_meant, HasCore, RanTo}
use Rattle.fraction_free.proofs.PivotColumns.{pivots_length}
use Rattle.fraction_free.proofs.Finish.{pivots_well, few_pivots, left_side, right_side}
use Rattle.fraction_free.proofs.kernels.eliminate.Goals as goal

pub free_vector-requires-clause-cores : goal.free_vector-requires-clause-cores
free_vector-requires-clause-cores g c =
    subst (All (HasCore g.R.Ring.meaning g.R.Ring.algebra g.R.Reducing.reduction)) (sym c.deref.ensures.value) c.in_ok-found.ensures.cores

pub free_vector-requires-clause-pivot_rows : goal.free_vector-requires-clause-pivot_rows
free_vector-requires-clause-pivot_rows g c =
    let M = g.R.Ring.meaning in
    let ps = pivots_meant M c.in_ok-found.found.pivots.items in
    let ran = subst (RanTo g.R.Ring.algebra g.R.Reducing.reduction c.args.columns c.args.first (rows_meant M c.args.rows.items) ps) c.in-Some.is
    c.in_ok-found.ensures.runs in
    subst (λ v. All (IsPivotRow g.R.Ring.algebra c.args.columns c.args.columns) (pivots_meant M v)) (sym c.deref.ensures.value)
    (pivots_well g.R.Ring.algebra g.met.R.Ring.laws g.met.R.Domain.domain_laws M g.met.R.Ring.passes g.R.Reducing.reduction
    g.met.R.Reducing.reduction_laws c.args.columns c.args.rows.items ps c.requires.sizes (suc c.in-Some.free) (omega (arith, ran.1.free.within)) ran.0)

pub returns-in-Some-clause-kernel : goal.returns-in-Some-clause-kernel
returns-in-Some-clause-kernel g c =
    let M = g.R.Ring.meaning in
    let ps = pivots_meant M c.in_ok-found.found.pivots.items in
    let ran = subst (RanTo g.R.Ring.algebra g.R.Reducing.reduction c.args.columns c.args.first (rows_meant M c.args.rows.items) ps) c.in-Some.is
    c.in_ok-found.ensures.runs in
    left_side g.R.Ring.algebra g.met.R.Ring.laws g.met.R.Domain.domain_laws M g.met.R.Ring.passes g.R.Reducing.reduction
    g.met.R.Reducing.reduction_laws c.args.columns c.args.rows.items ps c.requires.sizes c.args.first c.in-Some.free ran.0 ran.1
    (map M c.in_ok-vector-in-Some.vector.items)
    (subst (λ v. BackRun g.R.Ring.algebra g.R.Reducing.reduction c.args.columns c.in-Some.free (pivots_meant M v)
    (map M c.in_ok-vector-in-Some.vector.items)) c.deref.ensures.value c.in_ok-vector-in-Some.ensures.runs)

pub overflow_cast-result-in-None : goal.overflow_cast-result-in-None
overflow_cast-result-in-None g c =
    let M = g.R.Ring.meaning in
    let ps = pivots_meant M c.in_ok-found.found.pivots.items in
    let ran = subst (RanTo g.R.Ring.algebra g.R.Reducing.reduction c.args.columns c.args.first (rows_meant M c.args.rows.items) ps) c.in-None.is
    c.in_ok-found.ensures.runs in
    let few = few_pivots g.R.Ring.algebra g.met.R.Ring.laws g.met.R.Domain.domain_laws M g.met.R.Ring.passes g.R.Reducing.reduction
    g.met.R.Reducing.reduction_laws c.args.columns c.args.rows.items ps c.requires.sizes ran.0 in
    omega (arith, few, c.len.ensures, c.ranges.columns.fits, c.requires.some.1, pivots_length M c.in_ok-found.found.pivots.items)

pub returns-clause-kernel : goal.returns-clause-kernel
returns-clause-kernel g c =
    let M = g.R.Ring.meaning in
    let ps = pivots_meant M c.in_ok-found.found.pivots.items in
    let k : length ps ≡ c.len.result = omega (arith, c.len.ensures, pivots_length M c.in_ok-found.found.pivots.items) in
    let ran = subst (RanTo g.R.Ring.algebra g.R.Reducing.reduction c.args.columns c.args.first (rows_meant M c.args.rows.items) ps) c.in-None.is
    c.in_ok-found.ensures.runs in
    subst (AllPivots g.R.Ring.algebra c.args.columns c.args.first (rows_meant M c.args.rows.items)) k
    (right_side g.R.Ring.algebra g.met.R.Ring.laws g.met.R.Domain.domain_laws M g.met.R.Ring.passes g.R.Reducing.reduction
    g.met.R.Reducing.reduction_laws c.args.columns c.args.rows.items ps c.requires.sizes ran.0 c.args.first ran.1)

pub returns-in-Some-clause-steps : goal.returns-in-Some-clause-steps
returns-in-Some-clause-steps g c =
    let M = g.R.Ring.meaning in
    let ps = pivots_meant M c.in_ok-found.found.pivots.items in
    let ran = subst (RanTo g.R.Ring.algebra g.R.Reducing.reduction c.args.columns c.args.first (rows_meant M c.args.rows.items) ps) c.in-Some.is
    c.in_ok-found.ensures.runs in
    record {
      pivots = ps;
      ran = ran.0;
      is_free = ran.1.free.free;
      back = subst (λ v. BackRun g.R.Ring.algebra g.R.Reducing.reduction c.args.columns c.in-Some.free (pivots_meant M v)
          (map M c.in_ok-vector-in-Some.vector.items)) c.deref.ensures.value c.in_ok-vector-in-Some.ensures.runs;
    }

pub returns-in-Some-clause-only : goal.returns-in-Some-clause-only
returns-in-Some-clause-only g c =
    let M = g.R.Ring.meaning in
    λ other h.
    one_vector g.R.Ring.algebra g.met.R.Ring.laws g.met.R.Domain.domain_laws g.R.Reducing.reduction g.met.R.Reducing.reduction_laws c.args.columns
    (rows_meant M c.args.rows.items) c.in-Some.free other (map M c.in_ok-vector-in-Some.vector.items) h (returns-in-Some-clause-steps g c)
