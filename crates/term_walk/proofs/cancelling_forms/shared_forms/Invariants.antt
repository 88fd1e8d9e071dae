use Rattle.std.proofs.Common.{◌≡◌, pos, ◌++◌, drop}
use Rattle.hypergeometric.specs.FactorLists.{in_both}
use Rattle.lin_form.specs.ListOf.{list_of}
use Rattle.term_walk.proofs.cancelling_forms.shared_forms.Given as goal

-- what is gathered, followed by what the rest gives, is what the list gives
abbrev pub invariant-loop-index : goal.invariant-loop-index
invariant-loop-index l = record {
  scale : (list_of l.shared).scale ≡ pos 1;
  leads : in_both (list_of l.list).factors (list_of l.other).factors
      ≡ (list_of l.shared).factors ++ in_both (drop l.index (list_of l.list).factors) (list_of l.other).factors;
}
