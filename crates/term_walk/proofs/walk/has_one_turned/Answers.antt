use Rattle.term_walk.proofs.NodeRows.{many_parts}
use Rattle.term_walk.proofs.walk.has_one_turned.Goals as goal

-- two or more parts
pub returns-in_default : goal.returns-in_default
returns-in_default c = record { test = many_parts c.args.parts.now c.in_default.len_at_least }
