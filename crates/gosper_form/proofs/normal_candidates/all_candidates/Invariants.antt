use Rattle.std.proofs.Common.{drop}
use Rattle.lin_form.specs.ListOf.{list_of}
use Rattle.gosper_form.specs.NormalCandidates.{AreCandidates}
use Rattle.gosper_form.proofs.NormalCandidates.{LookedOver}
use Rattle.gosper_form.proofs.normal_candidates.all_candidates.Given as goal

-- the candidates as far as q0 was gone through
abbrev pub invariant-loop-index : goal.invariant-loop-index
invariant-loop-index l = record {
  candidates : AreCandidates l.found.items;
  looked : LookedOver (list_of l.q0).factors (list_of l.r0).factors (drop l.index (list_of l.q0).factors) l.found.items;
}
