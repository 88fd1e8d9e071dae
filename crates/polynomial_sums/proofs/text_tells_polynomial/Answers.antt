use Rattle.polynomial_sums.proofs.Bounds.{n_k_within_line, n_k_x_within_line}
use Rattle.polynomial_sums.proofs.text_tells_polynomial.Goals as goal

-- the letters of each list are distinct, and 0 is a polynomial in them
pub returns : goal.returns
returns c = record {
  without_x = n_k_within_line.determined;
  with_x = n_k_x_within_line.determined;
  one_line_without_x = n_k_within_line;
  one_line_with_x = n_k_x_within_line;
}
