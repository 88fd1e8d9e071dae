use Rattle.term_pieces.proofs.SomePieces.{some_product}
use Rattle.term_pieces.proofs.OneList.{one_list}
use Rattle.term_pieces.proofs.products_are_one_list.Goals as goal

pub returns : goal.returns
returns c = record { some = some_product; only = one_list }
