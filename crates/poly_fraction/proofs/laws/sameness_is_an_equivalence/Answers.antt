use Rattle.poly_fraction.proofs.Sameness.{same_transitive}
use Rattle.poly_fraction.proofs.laws.sameness_is_an_equivalence.Goals as goal

pub returns-clause-transitive : goal.returns-clause-transitive
returns-clause-transitive g c = same_transitive g.R.Ring.algebra g.met.R.Ring.laws g.met.R.Domain.domain_laws
