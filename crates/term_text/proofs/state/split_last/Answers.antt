use Rattle.std.proofs.Common.{sym, ap, ◌∙◌}
use Rattle.term_text.specs.Code.Steps.{split_last}
use Rattle.term_text.proofs.Images.{split_last-snoc}
use Rattle.term_text.proofs.state.split_last.Goals as goal

pub returns-in-Some : goal.returns-in-Some
returns-in-Some c = record { split = sym (ap split_last c.in-Some.ensures ∙ split_last-snoc c.pop.new.self c.in-Some.last) }
