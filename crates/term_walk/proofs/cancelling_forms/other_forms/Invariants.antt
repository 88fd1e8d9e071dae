use Rattle.std.proofs.Common.{◌≡◌, pos, ◌++◌, drop}
use Rattle.hypergeometric.specs.FactorLists.{without}
use Rattle.lin_form.specs.ListOf.{list_of}
use Rattle.term_walk.proofs.cancelling_forms.other_forms.Given as goal

-- what is gathered, followed by what the rest gives, is what the list gives
abbrev pub invariant-loop-index : goal.invariant-loop-index
invariant-loop-index l = record {
  scale : (list_of l.left).scale ≡ pos 1;
  leads : without (list_of l.list).factors (list_of l.taken).factors
      ≡ (list_of l.left).factors ++ without (drop l.index (list_of l.list).factors) (list_of l.taken).factors;
}
