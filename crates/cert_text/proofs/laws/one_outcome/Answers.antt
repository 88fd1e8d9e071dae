use Rattle.cert_text.proofs.OneOutcome.{some_outcome, document_or_line, one_line}
use Rattle.cert_text.proofs.laws.one_outcome.Goals as goal

pub returns : goal.returns
returns c = record { some = some_outcome; apart = document_or_line; line = one_line }
