use Rattle.std.proofs.Common.{drop}
use Rattle.term_text.specs.View.{tree_of, parts_of}
use Rattle.term_classes.specs.Walk.{walk_parts}
use Rattle.term_walk.specs.Views.{gathered_of}
use Rattle.steps.specs.Leads.{Leads}
use Rattle.term_walk.proofs.TreeSizes.{tree_size, parts_size}
use Rattle.term_walk.proofs.walk.+walk.Given as goal

abbrev pub decreases-walk_node : goal.decreases-walk_node
decreases-walk_node l = tree_size (tree_of l.tree.now)

abbrev pub decreases-walk_factors : goal.decreases-walk_factors
decreases-walk_factors l = parts_size (parts_of l.parts.now)

-- the walk over all parts leads to that over the parts that are left
abbrev pub invariant-walk_factors-loop-part : goal.invariant-walk_factors-loop-part
invariant-walk_factors-loop-part l = Leads (walk_parts (parts_of l.parts) l.power.value (gathered_of l.fn.gathered))
    (walk_parts (parts_of (drop l.part-index l.parts)) l.power.value (gathered_of l.gathered))
