use Rattle.term_pieces.proofs.SomePieces.{some_pieces}
use Rattle.term_pieces.proofs.pieces_exist.Goals as goal

pub returns : goal.returns
returns c = record { some = some_pieces }
