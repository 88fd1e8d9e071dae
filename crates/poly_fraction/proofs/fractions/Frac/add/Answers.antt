use Rattle.poly_fraction.proofs.Denominators.{product_not_zero}
use Rattle.poly_fraction.proofs.fractions.Frac.add.Goals as goal

-- the product of the denominators isn't zero
pub invariant_of-result : goal.invariant_of-result
invariant_of-result g c = record {
  nonzero =
      product_not_zero g.R.Ring.algebra g.met.R.Ring.laws g.met.R.Domain.domain_laws
      (g.R.Ring.meaning c.args.self.now.bottom, g.met.R.Ring.passes c.args.self.now.bottom)
      (g.R.Ring.meaning c.args.other.now.bottom, g.met.R.Ring.passes c.args.other.now.bottom)
      (g.R.Ring.meaning c.in_ok-bottom.bottom) c.in_ok-bottom.ensures.gives.1 c.args.self.now.nonzero c.args.other.now.nonzero;
}
