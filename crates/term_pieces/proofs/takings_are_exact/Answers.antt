use Rattle.term_pieces.proofs.Takings.{no_more_above, no_more_below, one_taking}
use Rattle.term_pieces.proofs.takings_are_exact.Goals as goal

pub returns : goal.returns
returns c = record { above = no_more_above; below = no_more_below; only = one_taking }
