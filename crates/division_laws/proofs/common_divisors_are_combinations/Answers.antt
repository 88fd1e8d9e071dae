use Rattle.division_laws.proofs.Meant.{common}
use Rattle.division_laws.proofs.common_divisors_are_combinations.Goals as goal

pub returns : goal.returns
returns g c = record { common = common g.R.Ring.algebra g.met.R.Ring.laws g.met.R.Domain.domain_laws }
