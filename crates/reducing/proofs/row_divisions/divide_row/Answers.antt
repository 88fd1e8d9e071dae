use Rattle.std.proofs.Common.{subst, Ok}
use Rattle.ring_laws.specs.Division.{Divides}
use Rattle.reducing.proofs.RowDivisions.{fault_divides, quotient_not, quotients_more}
use Rattle.reducing.proofs.row_divisions.divide_row.Goals as goal

pub returns-in_err-quotient : goal.returns-in_err-quotient
returns-in_err-quotient g c =
    let M = g.D.Ring.meaning in
    record {
      divides = fault_divides M g.D.Ring.algebra g.D.Domain.division_in_bounds _ _ c.from_residual.result c.in_err-quotient.field-0.0
          c.from_residual.ensures.1
          (quotient_not g.D.Ring.algebra M g.met.D.Ring.passes g.D.Domain.division_in_bounds c.args.row.now c.loop-entry.quotients.items
          (M c.args.divisor.now) c.loop-entry.entry-index c.entry-item.result c.in_err-quotient.field-0.0 c.loop-entry-test.true c.entry-item.is
          c.loop-entry.invariant c.in_err-quotient.ensures.divides);
    }

pub loop-entry-preserved : goal.loop-entry-preserved
loop-entry-preserved g c =
    let M = g.D.Ring.meaning in
    quotients_more g.D.Ring.algebra M c.args.row.now c.loop-entry.quotients.items c.push.new.self.items (M c.args.divisor.now)
    c.loop-entry.entry-index c.entry-item.result c.in-Some.quotient c.loop-entry-test.true c.entry-item.is c.in_ok-push-in-Some.ensures.items
    (subst (λ o. Divides M g.D.Ring.algebra (g.D.Domain.division_in_bounds (M c.entry-item.result) (M c.args.divisor.now)) (M c.entry-item.result)
    (M c.args.divisor.now) (Ok o)) c.in-Some.is c.in_ok-quotient.ensures.divides) c.loop-entry.invariant
