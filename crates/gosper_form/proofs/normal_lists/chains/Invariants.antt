use Rattle.std.proofs.Common.{◌≡◌, pos, take}
use Rattle.hypergeometric.specs.LinearForm.{LinearForm}
use Rattle.hypergeometric.specs.FactorLists.{power_of}
use Rattle.term_pieces.specs.NormalForm.{power_within}
use Rattle.lin_form.specs.ListOf.{list_of}
use Rattle.gosper_form.specs.NormalLists.{forms_further}
use Rattle.gosper_form.specs.NormalView.{matches_of}
use Rattle.gosper_form.proofs.normal_lists.chains.Given as goal

-- the product of the chains so far
abbrev pub invariant-loop-entry : goal.invariant-loop-entry
invariant-loop-entry l = record {
  scale : (list_of l.product).scale ≡ pos 1;
  powers : (f : LinearForm) → power_of f (list_of l.product).factors ≡ power_within f (forms_further l.further (matches_of (take l.entry-index l.matches)));
}
