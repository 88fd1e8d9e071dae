use Rattle.term_pieces.proofs.SharedValues.{pieces_share}
use Rattle.term_pieces.proofs.pieces_share_a_value.Goals as goal

pub returns : goal.returns
returns c = record { shares = λ f pieces order p parts are defined. pieces_share f order p parts defined pieces are }
