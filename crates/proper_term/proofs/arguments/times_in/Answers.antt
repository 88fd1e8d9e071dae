use Rattle.std.proofs.Common.{ap, ◌∙◌, ⊎_elim, arith, List, map, take}
use Rattle.std.proofs.lemmas.Bool.{cases_lt}
use Rattle.proper_term.proofs.CancelledFactorials.{counted_above}
use Rattle.proper_term.specs.Cancelled.{Argument, at_least}
use Rattle.proper_term.specs.Cursors.{argument_of}
use Rattle.proper_term.proofs.NextArguments.{taken, last_at_least}
use Rattle.proper_term.proofs.arguments.times_in.Goals as goal

-- one more argument
pub loop-argument-preserved : goal.loop-argument-preserved
loop-argument-preserved c =
    let before = map argument_of (take c.loop-argument.argument-index c.args.arguments.now) in
    let more = ap (λ (xs : List Argument). at_least xs c.args.number)
    (taken argument_of c.args.arguments.now c.loop-argument.argument-index c.argument-item.result c.loop-argument-test.true c.argument-item.is)
    ∙ last_at_least before (argument_of c.argument-item.result) c.args.number in
    record {
      times = omega (arith, more, c.loop-argument.invariant.times, c.from-times.ensures, c.times_in_one.ensures.times);
      within = λ some. ⊎_elim (λ low. c.loop-argument.invariant.within
          (let zero = counted_above c.argument-item.result.number c.argument-item.result.power
          c.args.number low in omega (arith, zero, some, c.from-times.ensures, c.times_in_one.ensures.times)))
          (λ le. omega (arith, le, c.argument-item.result.small)) (cases_lt c.argument-item.result.number c.args.number);
      small = omega (arith, c.loop-argument.invariant.small);
    }
