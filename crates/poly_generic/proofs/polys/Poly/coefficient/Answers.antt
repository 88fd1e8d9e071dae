use Rattle.poly_generic.proofs.Accessors.{coefficient_given}
use Rattle.poly_generic.proofs.polys.Poly.coefficient.Goals as goal

-- the coefficients are the meanings of the items
pub returns : goal.returns
returns g c = record {
  coefficient =
      coefficient_given g.R.Ring.algebra.ops g.R.Ring.meaning c.deref.result.now c.args.self.now.list.items c.deref.ensures.value _ c.args.power
      c.get.result
      c.get.ensures.lookup.3 c.get.ensures.lookup.1;
}
