use Rattle.std.proofs.Common.{ap, ◌∙◌, ◌++◌}
use Rattle.ring_laws.specs.Meaning.{listed}
use Rattle.document_text.specs.Spelling.{polynomial_text}
use Rattle.cert_text.specs.PolynomialDocument.{in_k}
use Rattle.cert_text.specs.Printing.{numbers}
use Rattle.cert_text.proofs.printing.polynomial_string.Goals as goal

-- the text begins empty
pub returns : goal.returns
returns c =
    c.in_ok-push_polynomial.ensures ∙ ap (λ t. t ++ polynomial_text (in_k (listed (numbers c.args.coefficients.now)))) c.new-text.ensures.bytes
