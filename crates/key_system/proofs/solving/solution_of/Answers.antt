use Rattle.std.proofs.Common.{map}
use Rattle.ring_laws.specs.Meaning.{listed}
use Rattle.key_system.specs.declared.solving.Solved.{Solved}
use Rattle.key_system.proofs.SolvParts.{parts_of_list}
use Rattle.key_system.proofs.solving.solution_of.Goals as goal

pub returns-clause-parts : goal.returns-clause-parts
returns-clause-parts g c =
    let M = g.B.Ring.meaning in
    parts_of_list g.B.Ring.algebra g.B.FormRing.forms M c.parts.result (λ (s : Solved g.row.B.Denot g.B.Ring). listed (map M s.y.list.items))
    (λ (s : Solved g.row.B.Denot g.B.Ring). map M s.multipliers.items) c.args.kernel.vector.items c.in_ok-vector.vector.items c.args.kernel.free
    c.args.count c.in_ok-vector.ensures.signed c.requires.room c.parts.ensures.y c.parts.ensures.multipliers
