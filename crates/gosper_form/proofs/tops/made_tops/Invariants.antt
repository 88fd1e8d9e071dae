use Rattle.lin_form.proofs.Items.{each_of}
use Rattle.proper_term.specs.TermOf.{term_of}
use Rattle.gosper_form.specs.PiecesOf.{top_of}
use Rattle.gosper_form.proofs.TopLists.{TopsReached}
use Rattle.gosper_form.proofs.tops.made_tops.Given as goal

-- p_0 to p_(j - 1) are made
abbrev pub invariant-loop-j : goal.invariant-loop-j
invariant-loop-j l = TopsReached (each_of l.tops.items top_of) (term_of l.term) l.order l.j
