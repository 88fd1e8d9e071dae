use Rattle.std.proofs.Common.{map}
use Rattle.ring_laws.specs.Meaning.{listed}
use Rattle.poly_laws.specs.LongDivision.{DivisionInBounds}
use Rattle.poly_laws.specs.PolyAlgebra.{poly_algebra}
use Rattle.poly_laws.proofs.Belonging.{value_passes}
use Rattle.poly_laws.proofs.PolyMagnitudes.{poly_laws}
use Rattle.poly_generic.specs.declared.polys.Poly.{Poly}
use Rattle.division_laws.specs.Polynomials.{Polynomial}
use Rattle.key_equation.proofs.Dividing.{returned, not_yet, next_time, division_fault}
use Rattle.key_equation.proofs.poles.divide_out.Given.{Over}
use Rattle.key_equation.proofs.poles.divide_out.Goals as goal

-- a polynomial of the code as one of the ring
abbrev in_ring : (g : Over) → Poly g.row.B.Denot g.B.Ring → Polynomial g.B.Ring.algebra
in_ring g f = (listed (map g.B.Ring.meaning f.list.items), value_passes g.B.Ring.algebra g.B.Ring.meaning g.met.B.Ring.passes f.list.items f.ended)

pub loop-times-init : goal.loop-times-init
loop-times-init g c =
    not_yet (poly_algebra g.B.Ring.algebra) (poly_laws g.B.Ring.algebra g.met.B.Ring.laws) (in_ring g c.args.by.now) (in_ring g c.args.y)

pub returns-in_err-quotient-clause-too_large : goal.returns-in_err-quotient-clause-too_large
returns-in_err-quotient-clause-too_large g c =
    returned _ c.from_residual.result c.in_err-quotient.field-0.0 c.from_residual.ensures.1
    (division_fault (poly_algebra g.B.Ring.algebra) (poly_laws g.B.Ring.algebra g.met.B.Ring.laws) (in_ring g c.args.by.now) (in_ring g c.args.y)
    (DivisionInBounds g.B.Ring.algebra g.B.Domain.division_in_bounds) (in_ring g c.loop-times.rest) c.args.powers c.loop-times.times
    c.in_err-quotient.field-0.0 c.loop-times-test.true c.loop-times.invariant c.in_err-quotient.ensures.divides)

pub loop-times-preserved : goal.loop-times-preserved
loop-times-preserved g c =
    next_time (poly_algebra g.B.Ring.algebra) (poly_laws g.B.Ring.algebra g.met.B.Ring.laws) (in_ring g c.args.by.now) (in_ring g c.args.y)
    (in_ring g c.loop-times.rest) (in_ring g c.in-Some.quotient) c.loop-times.times c.loop-times.invariant
    (rw c.in-Some.is at c.in_ok-quotient.ensures.divides)
