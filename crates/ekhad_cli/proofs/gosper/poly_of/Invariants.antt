use Rattle.std.proofs.Common.{◌≡◌, map, take}
use Rattle.ring_laws.specs.Meaning.{number}
use Rattle.ring_laws.specs.declared.wholes.Whole.{Whole}
use Rattle.ekhad_cli.proofs.gosper.poly_of.Given as goal

abbrev pub invariant-loop-coefficient : goal.invariant-loop-coefficient
invariant-loop-coefficient l = map (λ (w : Whole). number w.value) l.list.items ≡ map number (take l.coefficient-index l.coefficients)
