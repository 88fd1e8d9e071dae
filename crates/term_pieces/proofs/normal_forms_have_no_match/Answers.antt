use Rattle.term_pieces.proofs.NoMatches.{no_match}
use Rattle.term_pieces.proofs.normal_forms_have_no_match.Goals as goal

pub returns : goal.returns
returns c = record { no_match = no_match }
