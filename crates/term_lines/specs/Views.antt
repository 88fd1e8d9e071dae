-- What values of the program stand for as the fields of a term.
use Rattle.lin_form.specs.ListOf.{list_of}
use Rattle.term_lines.specs.Fields.{FormLists}
use Rattle.term_lines.specs.declared.lists.Lists.{Lists}

-- the four lists
abbrev pub lists_said : Lists → FormLists
lists_said l = record { up = list_of l.up; down = list_of l.down; over = list_of l.over; guard = list_of l.guard }
