use Rattle.std.proofs.Common.{map, arith, sym, subst, refl}
use Rattle.std.proofs.lemmas.List.{length-map}
use Rattle.poly_generic.proofs.ListLemmas.{at_item}
use Rattle.kernel_laws.specs.Rows.{entry_at}
use Rattle.fraction_free.proofs.Columns.{core_isnt, plain_isnt, entry_belongs}
use Rattle.fraction_free.proofs.BackStepAnswers.{fault_step, core_not, plain_not, step_made, number_is, absorbed_length, placed_is}
use Rattle.fraction_free.proofs.vectors.back_step.Goals as goal

pub absorb-requires : goal.absorb-requires
absorb-requires g c =
    let M = g.R.Ring.meaning in
    let A = g.R.Ring.algebra.ops in
    let en = sym (at_item A M c.args.row.now c.args.column c.index-row-column.result (omega (arith, c.requires.within, c.requires.same_length))
    c.index-row-column.is) in
    let s = subst (λ v. g.R.Reducing.reduction.Split v (M c.in_ok-plain.plain) (M c.args.core.now)) en c.in_ok-plain.ensures.plain in
    record {
      not_zero = core_isnt g.R.Ring.algebra g.R.Reducing.reduction g.met.R.Reducing.reduction_laws g.met.R.Ring.laws
          (entry_at A (map M c.args.row.now) c.args.column) (M c.in_ok-plain.plain) (M c.args.core.now) s c.requires.not_zero
          (entry_belongs g.R.Ring.algebra g.met.R.Ring.laws M g.met.R.Ring.passes c.args.row.now c.args.column);
    }

pub returns-in_err-by_core : goal.returns-in_err-by_core
returns-in_err-by_core g c =
    let M = g.R.Ring.meaning in
    let A = g.R.Ring.algebra.ops in
    let en = sym (at_item A M c.args.row.now c.args.column c.index-row-column.result (omega (arith, c.requires.within, c.requires.same_length))
    c.index-row-column.is) in
    let s = subst (λ v. g.R.Reducing.reduction.Split v (M c.in_ok-plain.plain) (M c.args.core.now)) en c.in_ok-plain.ensures.plain in
    let number = number_is M g.R.Ring.algebra g.R.Reducing.reduction g.R.Domain.division_in_bounds c.args.column c.args.row.now c.args.vector.items
    (M c.in_ok-sum.sum) (M c.in_ok-number.number) c.deref.result.now c.deref.ensures.value c.in_ok-sum.ensures.gives c.in_ok-number.ensures.gives in
    record {
      steps = fault_step M g.R.Ring.algebra g.R.Reducing.reduction g.R.Domain.division_in_bounds c.args.column c.args.row.now c.args.vector.items
          c.from_residual-in_err-by_core.result c.in_err-by_core.field-0.0 c.from_residual-in_err-by_core.ensures.1
          (core_not M g.R.Ring.algebra g.R.Reducing.reduction g.R.Domain.division_in_bounds c.args.column c.args.row.now c.args.vector.items
          (M c.in_ok-plain.plain) (M c.args.core.now) s (M c.in_ok-number.number) c.in_err-by_core.field-0.0 number c.in_err-by_core.ensures.absorbs);
    }

pub absorb-requires-2 : goal.absorb-requires-2
absorb-requires-2 g c =
    let M = g.R.Ring.meaning in
    let A = g.R.Ring.algebra.ops in
    let en = sym (at_item A M c.args.row.now c.args.column c.index-row-column.result (omega (arith, c.requires.within, c.requires.same_length))
    c.index-row-column.is) in
    let s = subst (λ v. g.R.Reducing.reduction.Split v (M c.in_ok-plain.plain) (M c.args.core.now)) en c.in_ok-plain.ensures.plain in
    record {
      not_zero = plain_isnt g.R.Ring.algebra g.R.Reducing.reduction g.met.R.Reducing.reduction_laws g.met.R.Ring.laws
          (entry_at A (map M c.args.row.now) c.args.column) (M c.in_ok-plain.plain) (M c.args.core.now) s c.requires.not_zero
          (entry_belongs g.R.Ring.algebra g.met.R.Ring.laws M g.met.R.Ring.passes c.args.row.now c.args.column);
    }

pub returns-in_err-by_plain : goal.returns-in_err-by_plain
returns-in_err-by_plain g c =
    let M = g.R.Ring.meaning in
    let A = g.R.Ring.algebra.ops in
    let en = sym (at_item A M c.args.row.now c.args.column c.index-row-column.result (omega (arith, c.requires.within, c.requires.same_length))
    c.index-row-column.is) in
    let s = subst (λ v. g.R.Reducing.reduction.Split v (M c.in_ok-plain.plain) (M c.args.core.now)) en c.in_ok-plain.ensures.plain in
    let number = number_is M g.R.Ring.algebra g.R.Reducing.reduction g.R.Domain.division_in_bounds c.args.column c.args.row.now c.args.vector.items
    (M c.in_ok-sum.sum) (M c.in_ok-number.number) c.deref.result.now c.deref.ensures.value c.in_ok-sum.ensures.gives c.in_ok-number.ensures.gives in
    record {
      steps = fault_step M g.R.Ring.algebra g.R.Reducing.reduction g.R.Domain.division_in_bounds c.args.column c.args.row.now c.args.vector.items
          c.from_residual-in_err-by_plain.result c.in_err-by_plain.field-0.0 c.from_residual-in_err-by_plain.ensures.1
          (plain_not M g.R.Ring.algebra g.R.Reducing.reduction g.R.Domain.division_in_bounds c.args.column c.args.row.now c.args.vector.items
          (M c.in_ok-plain.plain) (M c.args.core.now) s (M c.in_ok-number.number) (M c.in_ok-by_core.by_core.rest)
          (map M c.in_ok-by_core.by_core.vector.items) c.in_err-by_plain.field-0.0 number c.in_ok-by_core.ensures.absorbs
          c.in_err-by_plain.ensures.absorbs);
    }

pub index_mut-requires : goal.index_mut-requires
index_mut-requires g c =
    let M = g.R.Ring.meaning in
    let first = absorbed_length g.R.Ring.algebra _ _ _ _ _ c.in_ok-by_core.ensures.absorbs in
    let second = absorbed_length g.R.Ring.algebra _ _ _ _ _ c.in_ok-by_plain.ensures.absorbs in
    omega (
      arith,
      c.requires.within,
      first,
      second,
      length-map c.args.vector.items M,
      length-map c.in_ok-by_core.by_core.vector.items M,
      length-map c.in_ok-by_plain.by_plain.vector.items M,
    )

pub returns : goal.returns
returns g c =
    let M = g.R.Ring.meaning in
    let A = g.R.Ring.algebra.ops in
    let en = sym (at_item A M c.args.row.now c.args.column c.index-row-column.result (omega (arith, c.requires.within, c.requires.same_length))
    c.index-row-column.is) in
    let s = subst (λ v. g.R.Reducing.reduction.Split v (M c.in_ok-plain.plain) (M c.args.core.now)) en c.in_ok-plain.ensures.plain in
    let number = number_is M g.R.Ring.algebra g.R.Reducing.reduction g.R.Domain.division_in_bounds c.args.column c.args.row.now c.args.vector.items
    (M c.in_ok-sum.sum) (M c.in_ok-number.number) c.deref.result.now c.deref.ensures.value c.in_ok-sum.ensures.gives c.in_ok-number.ensures.gives in
    record {
      steps = step_made M g.R.Ring.algebra g.R.Reducing.reduction g.R.Domain.division_in_bounds c.args.column c.args.row.now c.args.vector.items
          (M c.in_ok-plain.plain) (M c.args.core.now) s (M c.in_ok-number.number) (M c.in_ok-by_core.by_core.rest)
          (M c.in_ok-by_plain.by_plain.rest) (map M c.in_ok-by_core.by_core.vector.items) (map M c.in_ok-by_plain.by_plain.vector.items)
          _ c.reduce_row.result number c.in_ok-by_core.ensures.absorbs c.in_ok-by_plain.ensures.absorbs
          (placed_is M c.in_ok-by_plain.by_plain.vector.items _ c.args.column c.in_ok-by_plain.by_plain.rest refl)
          c.reduce_row.ensures.reduces;
    }
