use Rattle.pole_laws.proofs.NormalPolynomials.{q_kept, r_kept, chains_here, chains_next}
use Rattle.pole_laws.proofs.normal_forms_keep_the_polynomials.Goals as goal

pub returns : goal.returns
returns c = record { q = q_kept; r = r_kept; chains_here = chains_here; chains_next = chains_next }
