use Rattle.std.proofs.Common.{arith, refl}
use Rattle.poly_generic.proofs.Accessors.{count}
use Rattle.poly_generic.proofs.polys.Poly.degree.Goals as goal

-- there are as many coefficients as items, and here is one
pub returns : goal.returns
returns g c = record {
  degree =
      let same = count g.R.Ring.algebra.ops g.R.Ring.meaning c.args.self.now.list.items c.args.self.now.list.items refl in
      grind (arith, same, c.len.ensures, c.if-is_empty.false, c.is_empty.ensures);
  small = grind (arith, c.len.ensures, c.args.self.now.short);
}
