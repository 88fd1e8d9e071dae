use Rattle.spelled.proofs.SumWrites.{sum_begun, sum_more}
use Rattle.spelled.proofs.sum_writing.write_sum.Goals as goal

pub loop-monomial-init : goal.loop-monomial-init
loop-monomial-init c = sum_begun _ _ c.args.monomials.now c.in-Some.others.now c.in-Some.first.now c.in_ok-write_monomial.ensures
    c.in-Some.ensures.cases.0

pub loop-monomial-preserved : goal.loop-monomial-preserved
loop-monomial-preserved c = sum_more _ _ _ c.in-Some.others.now c.loop-monomial.monomial-index _ c.in_ok-write_monomial-2.ensures
    c.loop-monomial-test.true c.loop-monomial.invariant
