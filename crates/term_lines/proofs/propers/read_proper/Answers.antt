use Rattle.term_lines.specs.Fields.{parts_of_term}
use Rattle.term_lines.specs.TermLaws.{fields_have}
use Rattle.term_lines.proofs.propers.read_proper.Goals as goal

-- the term of the fields
pub returns-in-Some : goal.returns-in-Some
returns-in-Some c = record {
  read = λ t h e. c.proper_of.ensures.read t h (rw c.in-Some.is at (c.in_ok-items.ensures.read (parts_of_term t) (fields_have t h) e));
}

-- no fields
pub returns-in-None : goal.returns-in-None
returns-in-None c = record { read = λ t h e. rw c.in-None.is at (c.in_ok-items.ensures.read (parts_of_term t) (fields_have t h) e) }
