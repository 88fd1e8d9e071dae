use Rattle.poly_fraction.proofs.Denominators.{unit_not_zero}
use Rattle.poly_fraction.proofs.fractions.Frac.whole.Goals as goal

-- one isn't zero
pub invariant_of-result : goal.invariant_of-result
invariant_of-result g c = record {
  nonzero = unit_not_zero g.R.Ring.algebra g.met.R.Ring.laws g.met.R.Domain.domain_laws (g.R.Ring.meaning c.in_ok-bottom.bottom) c.in_ok-bottom.ensures.gives;
}
