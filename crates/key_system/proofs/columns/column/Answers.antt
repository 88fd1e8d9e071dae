use Rattle.std.proofs.Common.{map}
use Rattle.ring_laws.specs.Meaning.{Meaning, listed}
use Rattle.ring_laws.specs.Algebra.{Passing}
use Rattle.poly_laws.specs.PolyAlgebra.{poly_algebra}
use Rattle.poly_laws.proofs.Belonging.{value_passes}
use Rattle.poly_generic.specs.declared.polys.Poly.{Poly}
use Rattle.fraction_free.proofs.Crossing.{fault_value}
use Rattle.key_system.proofs.ColumnBounds.{next_fault, left_fault, right_fault, column_given}
use Rattle.key_system.proofs.columns.column.Goals as goal

-- where the operation is in bounds, so is each of its steps
pub returns-in_err-next : goal.returns-in_err-next
returns-in_err-next g c =
    let A = g.B.Ring.algebra in
    let mean : Poly g.row.B.Denot g.B.Ring → Meaning = λ v. listed (map g.B.Ring.meaning v.list.items) in
    let pass = λ (v : Poly g.row.B.Denot g.B.Ring). value_passes A g.B.Ring.meaning g.met.B.Ring.passes v.list.items v.ended in
    let q : Passing (poly_algebra A) = (mean c.args.q.now, pass c.args.q.now) in
    let b : Passing (poly_algebra A) = (mean c.args.b.now, pass c.args.b.now) in
    record {
      gives = fault_value mean _ _ c.from_residual-in_err-next.result c.in_err-next.field-0.0 c.from_residual-in_err-next.ensures.1
          (next_fault A g.met.B.Ring.laws c.args.power q b (mean c.in_ok-y.y) c.in_err-next.field-0.0 c.requires.not_zero c.in_ok-y.ensures.gives
          c.in_err-next.ensures.gives);
    }

pub returns-in_err-left : goal.returns-in_err-left
returns-in_err-left g c =
    let A = g.B.Ring.algebra in
    let mean : Poly g.row.B.Denot g.B.Ring → Meaning = λ v. listed (map g.B.Ring.meaning v.list.items) in
    let pass = λ (v : Poly g.row.B.Denot g.B.Ring). value_passes A g.B.Ring.meaning g.met.B.Ring.passes v.list.items v.ended in
    let q : Passing (poly_algebra A) = (mean c.args.q.now, pass c.args.q.now) in
    let b : Passing (poly_algebra A) = (mean c.args.b.now, pass c.args.b.now) in
    record {
      gives = fault_value mean _ _ c.from_residual-in_err-left.result c.in_err-left.field-0.0 c.from_residual-in_err-left.ensures.1
          (left_fault A g.met.B.Ring.laws c.args.power q b (mean c.in_ok-y.y) (mean c.in_ok-next.next) c.in_ok-y.ensures.gives
          c.in_ok-next.ensures.gives.1 c.in_err-left.field-0.0 c.in_err-left.ensures.gives);
    }

pub returns-in_err-right : goal.returns-in_err-right
returns-in_err-right g c =
    let A = g.B.Ring.algebra in
    let mean : Poly g.row.B.Denot g.B.Ring → Meaning = λ v. listed (map g.B.Ring.meaning v.list.items) in
    let pass = λ (v : Poly g.row.B.Denot g.B.Ring). value_passes A g.B.Ring.meaning g.met.B.Ring.passes v.list.items v.ended in
    let q : Passing (poly_algebra A) = (mean c.args.q.now, pass c.args.q.now) in
    let b : Passing (poly_algebra A) = (mean c.args.b.now, pass c.args.b.now) in
    record {
      gives = fault_value mean _ _ c.from_residual-in_err-right.result c.in_err-right.field-0.0 c.from_residual-in_err-right.ensures.1
          (right_fault A g.met.B.Ring.laws c.args.power q b (mean c.in_ok-y.y) (mean c.in_ok-next.next) c.in_ok-y.ensures.gives
          c.in_ok-next.ensures.gives.1 c.in_err-right.field-0.0 c.in_err-right.ensures.gives);
    }

pub returns : goal.returns
returns g c =
    let A = g.B.Ring.algebra in
    let mean : Poly g.row.B.Denot g.B.Ring → Meaning = λ v. listed (map g.B.Ring.meaning v.list.items) in
    let pass = λ (v : Poly g.row.B.Denot g.B.Ring). value_passes A g.B.Ring.meaning g.met.B.Ring.passes v.list.items v.ended in
    let q : Passing (poly_algebra A) = (mean c.args.q.now, pass c.args.q.now) in
    let b : Passing (poly_algebra A) = (mean c.args.b.now, pass c.args.b.now) in
    record {
      gives = column_given A g.met.B.Ring.laws c.args.power q b (mean c.in_ok-y.y) (mean c.in_ok-next.next) c.in_ok-y.ensures.gives
          c.in_ok-next.ensures.gives.1 mean c.in_ok-left.left c.in_ok-right.right c.sub.result c.in_ok-left.ensures.gives.1
          c.in_ok-right.ensures.gives.1 c.sub.ensures.gives;
    }
