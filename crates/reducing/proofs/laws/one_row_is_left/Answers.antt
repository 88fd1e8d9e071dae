use Rattle.reducing.proofs.LeftRows.{what_is_left}
use Rattle.reducing.proofs.OneRowLeft.{one_left}
use Rattle.reducing.proofs.laws.one_row_is_left.Goals as goal

pub returns : goal.returns
returns c = record { law = one_left; reduced = λ old new other h some k. one_left old new other (what_is_left old new h some) k }
