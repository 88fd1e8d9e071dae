use Rattle.std.proofs.Common.{arith}
use Rattle.std.proofs.lemmas.Grind.{common_steps}
use Rattle.ekhad_cli.proofs.checking.output_of.Goals as goal

-- the text of the claim and the reason
pub returns-in_ok-text-in-Rejected-clause-text : goal.returns-in_ok-text-in-Rejected-clause-text
returns-in_ok-text-in-Rejected-clause-text c = grind (arith, common_steps, c.in-Rejected.is, c.into_bytes.ensures.value, c.word_of-word.ensures.word)
