use Rattle.hyper_claims.proofs.OneAnswer.{one_answer}
use Rattle.hyper_claims.proofs.right_claims_are_one.Goals as goal

pub returns : goal.returns
returns c = record { only = one_answer }
