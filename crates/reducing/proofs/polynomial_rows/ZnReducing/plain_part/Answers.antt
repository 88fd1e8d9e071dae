use Rattle.reducing.proofs.polynomial_rows.ZnReducing.plain_part.Goals as goal

-- the core is one beside some plain part
pub plain_beside-requires : goal.plain_beside-requires
plain_beside-requires c = record { not_zero = c.requires.not_zero; core = c.requires.core.split.is_core }
