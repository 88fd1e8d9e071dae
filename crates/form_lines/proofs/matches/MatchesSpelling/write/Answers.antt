use Rattle.exact_texts.proofs.Numerals.{naturals_spaceless}
use Rattle.form_lines.proofs.matches.MatchesSpelling.write.Goals as goal

pub invariant_of-write : goal.invariant_of-write
invariant_of-write c = record { spaceless = naturals_spaceless }
