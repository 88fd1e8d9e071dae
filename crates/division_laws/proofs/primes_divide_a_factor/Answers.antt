use Rattle.division_laws.proofs.Meant.{prime_of_product}
use Rattle.division_laws.proofs.Primes.{has_prime, linear_prime}
use Rattle.division_laws.proofs.primes_divide_a_factor.Goals as goal

pub returns : goal.returns
returns g c = record {
  factor = prime_of_product g.R.Ring.algebra g.met.R.Ring.laws g.met.R.Domain.domain_laws;
  some = has_prime g.R.Ring.algebra g.met.R.Ring.laws g.met.R.Domain.domain_laws;
  linear = linear_prime g.R.Ring.algebra g.met.R.Ring.laws g.met.R.Domain.domain_laws;
}
