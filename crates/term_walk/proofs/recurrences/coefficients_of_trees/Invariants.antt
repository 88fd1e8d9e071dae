use Rattle.term_walk.proofs.RecurrenceLaws.{LeadsOn}
use Rattle.term_walk.proofs.recurrences.coefficients_of_trees.Given as goal

abbrev pub invariant-loop-tree : goal.invariant-loop-tree
invariant-loop-tree l = LeadsOn l.trees l.tree-index l.coefficients.items
