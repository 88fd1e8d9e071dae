use Rattle.std.proofs.Common.{map, subst}
use Rattle.ring_laws.specs.Meaning.{listed}
use Rattle.poly_laws.specs.PolyAlgebra.{poly_algebra}
use Rattle.poly_laws.specs.Powers.{power_in, nonzero_magnitude}
use Rattle.poly_generic.specs.declared.polys.Poly.{Poly}
use Rattle.poly_generic.specs.PowerAnswer.{GivesTimes}
use Rattle.key_sides.proofs.products.times_form.Goals as goal

pub returns : goal.returns
returns g c = record {
  gives =
      let mean = λ (f : Poly g.row.B.Denot g.B.Ring). listed (map g.B.Ring.meaning f.list.items) in
      let p = poly_algebra g.B.Ring.algebra in
      subst (λ t. GivesTimes mean p (mean c.args.product) (power_in p.ops t c.args.power) (power_in p.ops (nonzero_magnitude p.ops t) c.args.power) c.times.result)
      c.in_ok-base.ensures.gives c.times.ensures.gives;
}
