use Rattle.poly_generic.proofs.Accessors.{lead_given}
use Rattle.poly_generic.proofs.polys.Poly.lead.Goals as goal

-- the last item is the coefficient of the greatest power
pub returns : goal.returns
returns g c = record {
  lead =
      lead_given g.R.Ring.algebra.ops g.R.Ring.meaning c.deref.result.now c.args.self.now.list.items c.deref.ensures.value _ c.last.result
      c.last.ensures.item.3 c.last.ensures.item.1;
}
