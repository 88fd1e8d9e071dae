use Rattle.std.proofs.Common.{refl, inr}
use Rattle.ekhad_cli.specs.declared.refusal.Refusal.TheVariants.{Memory}
use Rattle.ekhad_cli.proofs.Outcomes.{differ}
use Rattle.ekhad_cli.proofs.lines.refuse.Goals as goal

-- there was no memory for the line
pub returns-in-Err-clause-said : goal.returns-in-Err-clause-said
returns-in-Err-clause-said g c = (Memory, inr (refl, λ fixed. differ (c.in-Err.ensures.fixed fixed)), refl, c.say-in-Err.ensures.line)
