use Rattle.division_laws.proofs.Meant.{remainder}
use Rattle.division_laws.proofs.division_leaves_a_lower_remainder.Goals as goal

pub returns : goal.returns
returns g c = record { remainder = remainder g.R.Ring.algebra g.met.R.Ring.laws g.met.R.Domain.domain_laws }
