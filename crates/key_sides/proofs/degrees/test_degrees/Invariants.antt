use Rattle.std.proofs.Common.{◌≡◌, drop}
use Rattle.gosper_form.specs.PieceSteps.{each_within}
use Rattle.gosper_form.specs.PiecesOf.{pieces_held}
use Rattle.gosper_form.specs.NormalView.{normal_of}
use Rattle.key_sides.specs.Sides.{side_degrees}
use Rattle.key_sides.proofs.degrees.test_degrees.Given as goal

-- the tests that are left decide
abbrev pub invariant-loop-j : goal.invariant-loop-j
invariant-loop-j l = each_within (side_degrees (normal_of l.normal) (pieces_held l.pieces)) ≡ each_within (drop l.j (side_degrees (normal_of l.normal) (pieces_held l.pieces)))
