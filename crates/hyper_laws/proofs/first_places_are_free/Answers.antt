use Rattle.hyper_laws.proofs.Solving.{free_from}
use Rattle.hyper_laws.proofs.first_places_are_free.Goals as goal

pub returns : goal.returns
returns c = record { free = free_from }
