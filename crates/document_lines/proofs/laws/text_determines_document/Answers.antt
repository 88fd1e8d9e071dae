use Rattle.std.proofs.Common.{[], ap, ◌++◌}
use Rattle.document_lines.specs.DocumentLaws.{document_line_texts}
use Rattle.document_lines.proofs.laws.text_determines_document.Goals as goal

-- the lines tell the document
pub returns : goal.returns
returns c = record {
  one_document = λ v w a b h k e.
      let same = (document_line_texts.exact (v, a) (w, b) [] [] h k (ap (λ t. t ++ []) e)).0 in
      (ap (λ p. p.0) same, ap (λ p. p.1) same);
}
