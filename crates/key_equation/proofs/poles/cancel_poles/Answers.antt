use Rattle.std.proofs.Common.{map}
use Rattle.ring_laws.specs.Meaning.{listed}
use Rattle.poly_laws.specs.PolyAlgebra.{poly_algebra}
use Rattle.poly_laws.proofs.Belonging.{value_passes}
use Rattle.poly_generic.specs.declared.polys.Poly.{Poly}
use Rattle.division_laws.specs.Polynomials.{Polynomial}
use Rattle.lin_form.specs.ListOf.{list_of}
use Rattle.key_equation.specs.declared.poles.Cancelled.{Cancelled}
use Rattle.key_equation.specs.Cancelling.{CancelsInOrder, LeavesInOrder, of_nonzero}
use Rattle.key_equation.specs.Polynomials.{form_over}
use Rattle.key_equation.proofs.LeftOver.{answered, leaves_zero, some_of, needed}
use Rattle.key_equation.proofs.poles.cancel_poles.Given.{Over}
use Rattle.key_equation.proofs.poles.cancel_poles.Goals as goal

-- a polynomial of the code as one of the ring
abbrev in_ring : (g : Over) → Poly g.row.B.Denot g.B.Ring → Polynomial g.B.Ring.algebra
in_ring g f = (listed (map g.B.Ring.meaning f.list.items), value_passes g.B.Ring.algebra g.B.Ring.meaning g.met.B.Ring.passes f.list.items f.ended)

-- Y is zero
pub returns-then-is_zero-clause-leaves : goal.returns-then-is_zero-clause-leaves
returns-then-is_zero-clause-leaves g c =
    leaves_zero g.B.Ring.algebra g.met.B.Ring.laws g.B.FormRing.forms g.met.B.FormRing.form_laws (list_of c.args.poles.now).factors
    (in_ring g c.args.y) (list_of c.in_ok-poles.poles).factors (c.is_zero.ensures.test.0 c.if-is_zero.true) c.in_ok-poles.ensures.factors

pub returns-clause-leaves : goal.returns-clause-leaves
returns-clause-leaves g c =
    let a = g.B.Ring.algebra in
    let xs = (list_of c.args.poles.now).factors in
    answered
    (λ (r : Cancelled g.row.B.Denot g.B.Ring). CancelsInOrder (poly_algebra a) (form_over a g.B.FormRing.forms) xs (in_ring g c.args.y).0
    (in_ring g r.y).0 (list_of r.poles).factors)
    (λ (r : Cancelled g.row.B.Denot g.B.Ring). LeavesInOrder (poly_algebra a) (form_over a g.B.FormRing.forms) xs (in_ring g c.args.y).0
    (in_ring g r.y).0 (list_of r.poles).factors)
    c.cancel_forms.result
    (λ r h. of_nonzero (some_of a g.met.B.Ring.laws g.B.FormRing.forms g.met.B.FormRing.form_laws (in_ring g c.args.y).0 c.is_zero.result
    c.if-is_zero.false c.is_zero.ensures.test.1) h) c.cancel_forms.ensures.cancels

pub returns-clause-needed : goal.returns-clause-needed
returns-clause-needed g c =
    let a = g.B.Ring.algebra in
    let xs = (list_of c.args.poles.now).factors in
    answered
    (λ (r : Cancelled g.row.B.Denot g.B.Ring). CancelsInOrder (poly_algebra a) (form_over a g.B.FormRing.forms) xs (in_ring g c.args.y).0
    (in_ring g r.y).0 (list_of r.poles).factors)
    _ c.cancel_forms.result
    (λ r h sorted. needed a g.met.B.Ring.laws g.B.FormRing.forms g.met.B.FormRing.form_laws xs (in_ring g c.args.y) (in_ring g r.y).0
    (list_of r.poles).factors sorted h) c.cancel_forms.ensures.cancels
