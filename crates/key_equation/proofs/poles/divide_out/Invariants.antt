use Rattle.std.proofs.Common.{◌≡◌, map}
use Rattle.ring_laws.specs.Meaning.{listed}
use Rattle.poly_laws.specs.PolyAlgebra.{poly_algebra}
use Rattle.poly_laws.specs.Powers.{power_in}
use Rattle.key_equation.proofs.poles.divide_out.Given as goal

-- so many times the polynomial was divided out
abbrev pub invariant-loop-times : goal.invariant-loop-times
invariant-loop-times g l =
    listed (map g.B.Ring.meaning l.fn.y.list.items)
    ≡ (poly_algebra g.B.Ring.algebra).ops.product (listed (map g.B.Ring.meaning l.rest.list.items))
    (power_in (poly_algebra g.B.Ring.algebra).ops (listed (map g.B.Ring.meaning l.by.list.items)) l.times)
