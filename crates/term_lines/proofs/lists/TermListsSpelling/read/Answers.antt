use Rattle.std.specs.Prelude.{codes}
use Rattle.std.proofs.Common.{refl, ◌∙◌}
use Rattle.term_lines.specs.Fields.{parts_of_lists}
use Rattle.term_lines.specs.FieldLaws.{list_without, lists_told}
use Rattle.term_lines.proofs.lists.TermListsSpelling.read.Goals as goal

pub invariant_of-read : goal.invariant_of-read
invariant_of-read c = record { without = list_without (codes "over ") refl }

-- the lists of the fields
pub returns-in-Some-clause-read : goal.returns-in-Some-clause-read
returns-in-Some-clause-read c = λ v h e.
    lists_told _ v (c.gathered.ensures ∙ rw c.in-Some.is at (c.in_ok-items.ensures.read (parts_of_lists v) h e))

-- no fields
pub returns-in-None-clause-read : goal.returns-in-None-clause-read
returns-in-None-clause-read c = λ v h e. rw c.in-None.is at (c.in_ok-items.ensures.read (parts_of_lists v) h e)
