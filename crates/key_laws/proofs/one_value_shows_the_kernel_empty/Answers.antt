use Rattle.key_laws.proofs.EvaluatedKernels.{pivots_at_one_value}
use Rattle.key_laws.proofs.one_value_shows_the_kernel_empty.Goals as goal

pub returns : goal.returns
returns g c = record {
  zero = λ columns rows value rank h w k.
      pivots_at_one_value g.R.Ring.algebra g.met.R.Ring.laws g.met.R.Domain.domain_laws columns rows value rank h w k;
}
