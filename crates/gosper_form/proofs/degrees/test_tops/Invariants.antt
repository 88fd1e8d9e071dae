use Rattle.std.proofs.Common.{◌≡◌, ◌-◌, suc}
use Rattle.proper_term.specs.TermOf.{term_of}
use Rattle.gosper_form.specs.PieceSteps.{top_degree, each_from, each_within}
use Rattle.gosper_form.proofs.degrees.test_tops.Given as goal

-- the tests that are left decide
abbrev pub invariant-loop-j : goal.invariant-loop-j
invariant-loop-j l = each_within (each_from (top_degree (term_of l.term) l.order) 0 (suc l.order))
    ≡ each_within (each_from (top_degree (term_of l.term) l.order) l.j (suc l.order - l.j))
