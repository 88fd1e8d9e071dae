use Rattle.std.proofs.Common.{◌<◌, map}
use Rattle.ring_laws.specs.Meaning.{number, listed}
use Rattle.whole_roots.specs.FactorSearch.{AreFactorsAmong}
use Rattle.whole_roots.proofs.factors.linear_factors.Given as goal

-- the factors of smaller slopes
abbrev pub invariant-loop-slope : goal.invariant-loop-slope
invariant-loop-slope l = AreFactorsAmong (λ u v. u < l.slope) (listed (map (λ w. number w.value) l.f.list.items)) l.factors.entries
