use Rattle.ekhad_cli.proofs.Complete.{complete, run_complete}
use Rattle.ekhad_cli.proofs.laws.answerable_texts_are_answered.Goals as goal

pub returns : goal.returns
returns c = record { cause = complete; run = run_complete }
