use Rattle.std.proofs.Common.{map, length}
use Rattle.ring_laws.specs.Meaning.{number, listed, items}
use Rattle.whole_roots.proofs.turns.+turns.Given as goal

-- the difference has fewer coefficients
abbrev pub decreases-turns : goal.decreases-turns
decreases-turns l = length (items (listed (map (λ w. number w.value) l.f.now.list.items)))
