use Rattle.ekhad_cli.proofs.Accepted.{always_accepted}
use Rattle.ekhad_cli.proofs.laws.answers_are_accepted.Goals as goal

pub returns : goal.returns
returns c = record { accepted = always_accepted }
