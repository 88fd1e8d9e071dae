-- Cut into its lines, and each line into its pieces, the text gives the document.
use Rattle.document_text.proofs.Documents.{document_determined}
use Rattle.document_text.proofs.text_determines_document.Goals as goal

pub returns : goal.returns
returns c = record { one_document = document_determined }
