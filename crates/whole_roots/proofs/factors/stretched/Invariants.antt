use Rattle.std.proofs.Common.{◌≡◌, ◌++◌, drop, map}
use Rattle.ring_laws.specs.Meaning.{number}
use Rattle.whole_roots.specs.FactorBounds.{stretched_list}
use Rattle.whole_roots.proofs.factors.stretched.Given as goal

-- the numbers so far, and those of the coefficients that are left
abbrev pub invariant-loop-index : goal.invariant-loop-index
invariant-loop-index l =
    map (λ w. number w.value) l.list.items ++ stretched_list l.slope-2 (map (λ w. number w.value) (drop l.index l.coefficients))
    ≡ stretched_list l.slope-2 (map (λ w. number w.value) l.coefficients)
