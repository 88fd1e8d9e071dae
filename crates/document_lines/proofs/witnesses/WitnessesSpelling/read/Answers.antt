use Rattle.std.proofs.Common.{sym, ◌∙◌}
use Rattle.documents.specs.Documents.{unsought, no_number}
use Rattle.document_lines.specs.WitnessLaws.{witness_told}
use Rattle.document_lines.proofs.witnesses.WitnessesSpelling.read.Goals as goal

-- nothing was sought
pub returns-then-is_same-clause-read : goal.returns-then-is_same-clause-read
returns-then-is_same-clause-read c = λ v h e. witness_told unsought v tt h (sym (c.is_same.ensures.0 c.if-is_same.true) ∙ e)

-- no number shows it
pub returns-then-is_same-2-clause-read : goal.returns-then-is_same-2-clause-read
returns-then-is_same-2-clause-read c = λ v h e. witness_told no_number v tt h (sym (c.is_same-2.ensures.0 c.if-is_same-2.true) ∙ e)
