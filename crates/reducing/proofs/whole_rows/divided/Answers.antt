use Rattle.std.proofs.Common.{refl, arith}
use Rattle.reducing.proofs.DividedInPlace.{begun, same_length, some_quotient, next_divided, all_divided}
use Rattle.reducing.proofs.whole_rows.divided.Goals as goal

pub loop-at-init : goal.loop-at-init
loop-at-init c = begun c.args.row.items c.args.divisor.value

-- the divisor divides each number of the row
pub unwrap-requires : goal.unwrap-requires
unwrap-requires c =
    let s = same_length c.args.row.items c.args.divisor.value c.loop-at.at c.loop-at.quotients.items c.loop-at.invariant in
    some_quotient c.args.row.items c.args.divisor.value c.loop-at.at c.loop-at.quotients.items c.index.result.now c.whole_quotient-quotient.result
    c.loop-at.invariant (omega (arith, s, c.loop-at-test.true, c.len-at-end.ensures)) c.index.ensures c.requires.divides
    c.whole_quotient-quotient.ensures.quotient

pub loop-at-preserved : goal.loop-at-preserved
loop-at-preserved c =
    let s = same_length c.args.row.items c.args.divisor.value c.loop-at.at c.loop-at.quotients.items c.loop-at.invariant in
    next_divided c.args.row.items c.args.divisor.value c.loop-at.at c.loop-at.quotients.items _ c.index.result.now c.unwrap.result
    c.whole_quotient-quotient.result c.loop-at.invariant (omega (arith, s, c.loop-at-test.true, c.len-at-end.ensures)) c.index.ensures
    c.whole_quotient-quotient.ensures.quotient c.unwrap.ensures refl

pub returns : goal.returns
returns c = record {
  quotients = all_divided c.args.row.items c.args.divisor.value c.loop-at.at c.loop-at.quotients.items c.loop-at.invariant
      (omega (arith, c.loop-at-test.false, c.len-at-end.ensures));
}
