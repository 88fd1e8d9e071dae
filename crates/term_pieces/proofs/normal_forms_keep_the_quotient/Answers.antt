use Rattle.term_pieces.proofs.Quotients.{q_kept, r_kept, chains_here, chains_next, quotient_kept}
use Rattle.term_pieces.proofs.normal_forms_keep_the_quotient.Goals as goal

pub returns : goal.returns
returns c = record { q = q_kept; r = r_kept; chains_here = chains_here; chains_next = chains_next; quotient = quotient_kept }
