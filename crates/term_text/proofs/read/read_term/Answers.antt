use Rattle.std.proofs.Common.{subst, map}
use Rattle.grammar.specs.Several.{a_term}
use Rattle.grammar.specs.Reading.{HasTrees}
use Rattle.term_text.specs.View.{tree_of}
use Rattle.term_text.proofs.Counts.{one_term, none_of_term, has_trees}
use Rattle.term_text.proofs.read.read_term.Goals as goal

-- the text of a term has one tree
pub only-requires : goal.only-requires
only-requires c = record { one = one_term c.args.text.now c.in-Ok.contents.terms c.in-Ok.contents.bounds c.in-Ok.ensures.reads }

-- which is the only one, and no bounds
pub returns-in-Ok : goal.returns-in-Ok
returns-in-Ok c = record {
  reads = subst (λ l. HasTrees a_term c.args.text.now (map tree_of l)) c.only.ensures.only
      (has_trees a_term c.args.text.now c.in-Ok.contents.terms c.in-Ok.contents.bounds none_of_term c.in-Ok.ensures.reads);
}
