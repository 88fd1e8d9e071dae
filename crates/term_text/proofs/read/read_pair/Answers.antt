use Rattle.std.proofs.Common.{subst, map}
use Rattle.grammar.specs.Several.{a_pair}
use Rattle.grammar.specs.Reading.{HasTrees}
use Rattle.term_text.specs.View.{tree_of}
use Rattle.term_text.proofs.Counts.{two_terms, none_of_pair, has_trees}
use Rattle.term_text.proofs.read.read_pair.Goals as goal

-- the text of a pair has two trees
pub both-requires : goal.both-requires
both-requires c = record { two = two_terms c.args.text.now c.in-Ok.contents.terms c.in-Ok.contents.bounds c.in-Ok.ensures.reads }

-- which are the first and the last, and no bounds
pub returns-in-Ok : goal.returns-in-Ok
returns-in-Ok c = record {
  reads = subst (λ l. HasTrees a_pair c.args.text.now (map tree_of l)) c.both.ensures.both
      (has_trees a_pair c.args.text.now c.in-Ok.contents.terms c.in-Ok.contents.bounds none_of_pair c.in-Ok.ensures.reads);
}
