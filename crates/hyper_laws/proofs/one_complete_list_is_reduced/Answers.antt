use Rattle.hyper_laws.proofs.OneReduced.{one_reduced_list}
use Rattle.hyper_laws.proofs.one_complete_list_is_reduced.Goals as goal

pub returns : goal.returns
returns c = record { only = one_reduced_list }
