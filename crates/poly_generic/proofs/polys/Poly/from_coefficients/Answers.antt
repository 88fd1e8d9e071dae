use Rattle.std.proofs.Common.{map, ap, ◌∙◌, arith}
use Rattle.poly_laws.specs.Lists.{is_trimmed}
use Rattle.poly_laws.proofs.Trimming.{is_trimmed_trimmed}
use Rattle.poly_generic.proofs.polys.Poly.from_coefficients.Goals as goal

pub invariant_of-result : goal.invariant_of-result
invariant_of-result g c = record {
  ended = ap (is_trimmed g.R.Ring.algebra.ops) c.trim-list.ensures ∙ is_trimmed_trimmed g.R.Ring.algebra.ops (map g.R.Ring.meaning c.args.list.items);
  short = omega (arith, c.if-len-gt256.false);
}
