use Rattle.std.proofs.Common.{◌≤◌, map, length, ap, sym, ◌∙◌}
use Rattle.std.proofs.lemmas.List.{take-map, drop-map}
use Rattle.ring_laws.specs.Meaning.{listed}
use Rattle.poly_laws.specs.Lists.{trimmed}
use Rattle.key_system.proofs.SolvParts.{only_memory, few_left}
use Rattle.key_system.proofs.vectors.parts.Goals as goal

pub returns-in_err-y-clause-memory : goal.returns-in_err-y-clause-memory
returns-in_err-y-clause-memory g c =
    only_memory (length (trimmed g.B.Ring.algebra.ops (map g.B.Ring.meaning c.split_off.new.self.items)) ≤ 256) c.from_residual.result
    c.in_err-y.field-0.0 c.from_residual.ensures.1
    (few_left g.B.Ring.algebra.ops g.B.Ring.meaning c.args.vector.items c.split_off.new.self.items c.args.count c.in-Ok.ensures.items
    c.requires.few)
    c.in_err-y.ensures.gives

pub returns-clause-y : goal.returns-clause-y
returns-clause-y g c =
    let o = g.B.Ring.algebra.ops in
    c.in_ok-y.ensures.gives.1
    ∙ ap (λ t. listed (trimmed o t))
    (ap (map g.B.Ring.meaning) c.in-Ok.ensures.items ∙ sym (take-map g.B.Ring.meaning c.args.count c.args.vector.items))

pub returns-clause-multipliers : goal.returns-clause-multipliers
returns-clause-multipliers g c = ap (map g.B.Ring.meaning) c.in-Ok.ensures.tail ∙ sym (drop-map g.B.Ring.meaning c.args.count c.args.vector.items)
