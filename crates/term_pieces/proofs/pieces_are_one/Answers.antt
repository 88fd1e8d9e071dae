use Rattle.term_pieces.proofs.OnePieces.{one_pieces}
use Rattle.term_pieces.proofs.pieces_are_one.Goals as goal

pub returns : goal.returns
returns c = record { only = one_pieces }
