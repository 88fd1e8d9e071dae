use Rattle.std.proofs.Common.{◌≢◌, ◌+◌, ◌-◌, max, arith, [], map, ◌⊎◌, inl, inr}
use Rattle.ring_laws.specs.Answer.{fault_weaker}
use Rattle.poly_fraction.specs.FractionOf.{fraction_of}
use Rattle.proper_term.specs.Cancelled.{at_least, greatest, rising, left_over, quotients}
use Rattle.proper_term.specs.Cursors.{argument_of, numbers_left}
use Rattle.proper_term.specs.Fields.{number_fraction_of}
use Rattle.proper_term.specs.Runs.{GivesRun}
use Rattle.proper_term.proofs.Faults.{handed_on}
use Rattle.proper_term.proofs.FactorialRuns.{pair_fault, pair_on, pair_fewer}
use Rattle.proper_term.proofs.NumbersLeft.{some_left, later_none}
use Rattle.proper_term.proofs.factorials.times_factorials.Goals as goal
use Rattle.proper_term.proofs.factorials.times_factorials.Goals.{then-top-gt0, else-top-gt0+then-bottom-gt0}

pub returns-in_err-running : goal.returns-in_err-running
returns-in_err-running c =
    let us = map argument_of c.args.above.now in
    let ds = map argument_of c.args.below.now in
    let ts = numbers_left us ds c.loop-top.top.at c.loop-top.top.left in
    let bs = numbers_left ds us c.loop-top.bottom.at c.loop-top.bottom.left in
    let some : (ts ≢ []) ⊎ (bs ≢ []) = elim c.if-top-gt0.branch [
      | then-top-gt0 w ↦ inl (some_left us ds c.loop-top.top.at c.loop-top.top.left (omega (arith, w.if-top-gt0.true)))
      | else-top-gt0+then-bottom-gt0 w ↦ inr (some_left ds us c.loop-top.bottom.at c.loop-top.bottom.left (omega (arith, w.if-bottom-gt0.true)))
    ] in
    let top = c.number.ensures.number (rising (λ i. at_least us i - at_least ds i) (c.loop-top.top.at + 1)
    (max (greatest us) (greatest ds) + 1 - c.loop-top.top.at)) (later_none c.loop-top.top.left c.loop-top.top.at _ c.loop-top.invariant.top) in
    let bottom = c.number-in-loop-top.ensures.number (rising (λ i. at_least ds i - at_least us i) (c.loop-top.bottom.at + 1)
    (max (greatest ds) (greatest us) + 1 - c.loop-top.bottom.at))
    (later_none c.loop-top.bottom.left c.loop-top.bottom.at _ c.loop-top.invariant.bottom) in
    record {
      run = handed_on (GivesRun fraction_of (number_fraction_of (fraction_of c.args.running)) (quotients (left_over us ds) (left_over ds us)))
          c.from_residual.result c.in_err-running.field-0.0 c.from_residual.ensures.1
          (fault_weaker c.in_err-running.field-0.0 (pair_fault _ _ _ ts bs _ _ some top bottom c.loop-top.invariant.reached) c.in_err-running.ensures.run);
    }

-- both lists lose their first number
pub loop-top-smaller : goal.loop-top-smaller
loop-top-smaller c =
    let us = map argument_of c.args.above.now in
    let ds = map argument_of c.args.below.now in
    let ts = numbers_left us ds c.loop-top.top.at c.loop-top.top.left in
    let bs = numbers_left ds us c.loop-top.bottom.at c.loop-top.bottom.left in
    let some : (ts ≢ []) ⊎ (bs ≢ []) = elim c.if-top-gt0.branch [
      | then-top-gt0 w ↦ inl (some_left us ds c.loop-top.top.at c.loop-top.top.left (omega (arith, w.if-top-gt0.true)))
      | else-top-gt0+then-bottom-gt0 w ↦ inr (some_left ds us c.loop-top.bottom.at c.loop-top.bottom.left (omega (arith, w.if-bottom-gt0.true)))
    ] in
    pair_fewer ts bs _ _ some c.next-top.ensures.rest c.next-bottom.ensures.rest

pub loop-top-preserved : goal.loop-top-preserved
loop-top-preserved c =
    let us = map argument_of c.args.above.now in
    let ds = map argument_of c.args.below.now in
    let ts = numbers_left us ds c.loop-top.top.at c.loop-top.top.left in
    let bs = numbers_left ds us c.loop-top.bottom.at c.loop-top.bottom.left in
    let some : (ts ≢ []) ⊎ (bs ≢ []) = elim c.if-top-gt0.branch [
      | then-top-gt0 w ↦ inl (some_left us ds c.loop-top.top.at c.loop-top.top.left (omega (arith, w.if-top-gt0.true)))
      | else-top-gt0+then-bottom-gt0 w ↦ inr (some_left ds us c.loop-top.bottom.at c.loop-top.bottom.left (omega (arith, w.if-bottom-gt0.true)))
    ] in
    let top = c.number.ensures.number (rising (λ i. at_least us i - at_least ds i) (c.loop-top.top.at + 1)
    (max (greatest us) (greatest ds) + 1 - c.loop-top.top.at)) (later_none c.loop-top.top.left c.loop-top.top.at _ c.loop-top.invariant.top) in
    let bottom = c.number-in-loop-top.ensures.number (rising (λ i. at_least ds i - at_least us i) (c.loop-top.bottom.at + 1)
    (max (greatest ds) (greatest us) + 1 - c.loop-top.bottom.at))
    (later_none c.loop-top.bottom.left c.loop-top.bottom.at _ c.loop-top.invariant.bottom) in
    record {
      reached = pair_on _ _ _ ts bs _ _ some top bottom c.loop-top.invariant.reached _ c.in_ok-running.ensures.run _ _ c.next-top.ensures.rest
          c.next-bottom.ensures.rest;
      top = c.next-top.ensures.filled;
      bottom = c.next-bottom.ensures.filled;
    }
