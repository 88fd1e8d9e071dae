use Rattle.exact_texts.proofs.OneFirstBad.{one_first_bad_line, not_neither}
use Rattle.std.proofs.Common.{refl}
use Rattle.document_lines.specs.DocumentTexts.{document_lines}
use Rattle.document_lines.specs.DocumentLaws.{document_line_texts}
use Rattle.document_lines.proofs.laws.first_bad_line_of_documents.Goals as goal

-- of two bad lines the lines in front of one don't go beyond those in front of the other
pub returns-clause-one : goal.returns-clause-one
returns-clause-one c = one_first_bad_line document_lines

-- the text of a document has none
pub returns-clause-not_both : goal.returns-clause-not_both
returns-clause-not_both c = λ v d at h bad. bad.refused (v, d) h refl

-- each further line would begin a document's text again, up to the end
pub returns-clause-not_neither : goal.returns-clause-not_neither
returns-clause-not_neither c = λ text absent none. not_neither document_lines text (λ p h. absent p.0 p.1 h) none document_line_texts.some
