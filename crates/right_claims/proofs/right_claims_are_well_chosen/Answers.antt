use Rattle.right_claims.proofs.WellChosen.{answers_chosen}
use Rattle.right_claims.proofs.right_claims_are_well_chosen.Goals as goal

pub returns : goal.returns
returns c = record { chosen = λ command f claims h. answers_chosen f command claims h }
