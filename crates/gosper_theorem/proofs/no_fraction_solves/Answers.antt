use Rattle.gosper_theorem.proofs.AnyDomain.{fraction_zero}
use Rattle.gosper_theorem.proofs.no_fraction_solves.Goals as goal

pub returns : goal.returns
returns g c = record { zero = fraction_zero g.R.Ring.algebra g.met.R.Ring.laws g.met.R.Domain.domain_laws }
