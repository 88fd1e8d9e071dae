use Rattle.std.proofs.Common.{rules, ◌∙◌}
use Rattle.ekhad_cli.proofs.Signed.{held}
use Rattle.ekhad_cli.proofs.Sums.{table_held}
use Rattle.ekhad_cli.proofs.antidifference.sixty_fold.Goals as goal

-- the table's lines, read back as they were computed
pub returns-clause-difference : goal.returns-clause-difference
returns-clause-difference c =
    table_held c.args.c.now _ _ _ _ _ (search rules) (held _ c.dot.ensures.small ∙ c.dot.ensures.value) (held _ c.dot-2.ensures.small ∙ c.dot-2.ensures.value)
    (held _ c.dot-3.ensures.small ∙ c.dot-3.ensures.value) (held _ c.dot-4.ensures.small ∙ c.dot-4.ensures.value)
    (held _ c.dot-5.ensures.small ∙ c.dot-5.ensures.value)
