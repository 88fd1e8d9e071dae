use Rattle.std.proofs.Common.{ap}
use Rattle.documents.specs.Documents.{Document}
use Rattle.documents.specs.Views.{document_of}
use Rattle.documents.specs.declared.documents.Version.{Version}
use Rattle.documents.specs.declared.documents.Version.TheVariants.{One}
use Rattle.document_lines.proofs.DocumentSteps.{in_version_one}
use Rattle.document_lines.proofs.texts.read_doc.Goals as goal

-- what is read has this text, in the one version
pub returns-in-Ok-clause-document : goal.returns-in-Ok-clause-document
returns-in-Ok-clause-document c = in_version_one c.in-Ok.field-0-0 (document_of c.in-Ok.document) c.args.text.now c.in-Ok.ensures.item

-- what was printed
pub returns-in-Ok-clause-again : goal.returns-in-Ok-clause-again
returns-in-Ok-clause-again c = λ d h e. ap (λ (p : Version × Document). p.1) (c.in-Ok.ensures.again (One, d) h e)

-- no line is at fault in what was printed
pub returns-in-Err-Line-clause-again : goal.returns-in-Err-Line-clause-again
returns-in-Err-Line-clause-again c = λ d h e.
    let never = c.in-Err-Line.ensures.again (One, d) h e in
    let is = c.in-Err-Line.field-0-is in
    absurd cc
