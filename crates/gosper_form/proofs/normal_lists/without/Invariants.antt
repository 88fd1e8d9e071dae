use Rattle.std.proofs.Common.{◌≡◌, drop}
use Rattle.lin_form.specs.ListOf.{list_of}
use Rattle.gosper_form.proofs.NormalLeft.{LeftSoFar}
use Rattle.gosper_form.proofs.normal_lists.without.Given as goal

-- what is left as far as the list was gone through
abbrev pub invariant-loop-index : goal.invariant-loop-index
invariant-loop-index l = record {
  scale : (list_of l.left).scale ≡ (list_of l.whole).scale;
  left : LeftSoFar (list_of l.whole).factors (list_of l.taken).factors (drop l.index (list_of l.whole).factors) (list_of l.left).factors;
}
