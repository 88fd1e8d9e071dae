use Rattle.reducing.proofs.LeftRows.{what_is_left}
use Rattle.reducing.proofs.laws.reduced_rows_are_what_is_left.Goals as goal

pub returns : goal.returns
returns c = record { law = what_is_left }
