use Rattle.polynomial_lines.proofs.DocumentTexts.{in_n_alike, in_n_k_alike}
use Rattle.polynomial_lines.proofs.laws.polynomials_have_their_texts_in_documents.Goals as goal

pub returns : goal.returns
returns c = record { in_n = in_n_alike; in_n_and_k = in_n_k_alike }
