use Rattle.std.proofs.Common.{ap, arith}
use Rattle.hypergeometric.specs.TermFacts.{total_power}
use Rattle.lin_form.specs.ListOf.{list_of}
use Rattle.gosper_form.proofs.ShareTotals.{total_within}
use Rattle.gosper_form.proofs.plain.total_power.Goals as goal

-- no sum passes that of all powers
pub overflow_add-total : goal.overflow_add-total
overflow_add-total c = omega (
  arith,
  c.from-total.ensures,
  ap total_power c.in-Some.ensures.steps,
  c.loop-power.invariant,
  total_within (list_of c.args.list.now).factors c.args.list.now.factors.each,
  c.iter-power-items.ensures.short,
)

pub returns-clause-small : goal.returns-clause-small
returns-clause-small c = omega (
  arith,
  c.loop-power.invariant,
  total_within (list_of c.args.list.now).factors c.args.list.now.factors.each,
  c.iter-power-items.ensures.short,
)

-- one power more
pub loop-power-preserved : goal.loop-power-preserved
loop-power-preserved c = omega (arith, c.from-total.ensures, ap total_power c.in-Some.ensures.steps, c.loop-power.invariant)
