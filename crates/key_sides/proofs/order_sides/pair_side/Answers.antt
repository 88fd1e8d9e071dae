use Rattle.gosper_form.specs.PiecesOf.{pieces_held}
use Rattle.gosper_form.specs.NormalView.{normal_of}
use Rattle.key_sides.specs.Sides.{side_degrees}
use Rattle.key_sides.proofs.SideFaults.{tests_fault}
use Rattle.key_sides.proofs.order_sides.pair_side.Goals as goal

pub returns-in_err-test_degrees-clause-faults : goal.returns-in_err-test_degrees-clause-faults
returns-in_err-test_degrees-clause-faults g c =
    tests_fault (side_degrees (normal_of c.args.normal.now) (pieces_held c.args.pieces.now)) _ c.from_residual.result c.in_err-test_degrees.field-0.0
    c.from_residual.ensures.1 c.in_err-test_degrees.ensures.answers
