use Rattle.std.proofs.Common.{map}
use Rattle.ring_laws.specs.Meaning.{listed}
use Rattle.poly_generic.specs.declared.polys.Poly.{Poly}
use Rattle.gosper_form.specs.PiecesOf.{pieces_held}
use Rattle.gosper_form.specs.NormalView.{normal_of}
use Rattle.key_sides.specs.Sides.{side_degrees, SidesInBounds}
use Rattle.key_sides.proofs.SideFaults.{tests_fault, order_sides}
use Rattle.key_sides.proofs.order_sides.sides.Goals as goal

pub returns-in_err-test_degrees-clause-faults : goal.returns-in_err-test_degrees-clause-faults
returns-in_err-test_degrees-clause-faults g c =
    tests_fault (side_degrees (normal_of c.args.normal.now) (pieces_held c.args.pieces.now))
    (SidesInBounds g.B.Ring.algebra g.B.FormRing.forms (normal_of c.args.normal.now) (pieces_held c.args.pieces.now)) c.from_residual.result
    c.in_err-test_degrees.field-0.0 c.from_residual.ensures.1 c.in_err-test_degrees.ensures.answers

pub returns-in-Ok-clause-sides : goal.returns-in-Ok-clause-sides
returns-in-Ok-clause-sides g c =
    order_sides g.B.Ring.algebra g.B.FormRing.forms (normal_of c.args.normal.now) (pieces_held c.args.pieces.now)
    (map (λ (f : Poly g.row.B.Denot g.B.Ring). listed (map g.B.Ring.meaning f.list.items)) c.in-Ok.sides.items) c.in-Ok.ensures.sides
