use Rattle.cert_text.proofs.OneDocument.{one_document}
use Rattle.cert_text.proofs.laws.text_determines_contents.Goals as goal

pub returns : goal.returns
returns c = record { one_document = one_document }
