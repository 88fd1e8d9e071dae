use Rattle.grammar.specs.Several.{a_recurrence}
use Rattle.term_text.proofs.Counts.{none_of_recurrence, has_trees}
use Rattle.term_text.proofs.read.read_recurrence.Goals as goal

-- the trees, and no bounds
pub returns-in-Ok : goal.returns-in-Ok
returns-in-Ok c = record { reads = has_trees a_recurrence c.args.text.now c.in-Ok.contents.terms c.in-Ok.contents.bounds none_of_recurrence c.in-Ok.ensures.reads }
