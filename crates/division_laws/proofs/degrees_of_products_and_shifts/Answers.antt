use Rattle.division_laws.proofs.Meant.{product_has, shift_has}
use Rattle.division_laws.proofs.degrees_of_products_and_shifts.Goals as goal

pub returns : goal.returns
returns g c = record { product = product_has g.R.Ring.algebra g.met.R.Ring.laws g.met.R.Domain.domain_laws; shift = shift_has g.R.Ring.algebra g.met.R.Ring.laws g.met.R.Domain.domain_laws }
