use Rattle.reducing.proofs.ReducedVectors.{nothing_common}
use Rattle.reducing.proofs.laws.vectors_have_nothing_common.Goals as goal

pub returns : goal.returns
returns c = record { law = nothing_common }
