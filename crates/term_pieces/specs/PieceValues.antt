-- What the pieces of a term are good for: where the term is defined at n, .., n + J, one value is behind all of them and behind the carrier.
use Rattle.std.specs.Prelude.{ℕ, ◌≤◌, ℤ, pos, negsuc, ◌*ℤ◌}
use Rattle.hypergeometric.specs.Point.{Point, later_n, later_k}
use Rattle.hypergeometric.specs.Fraction.{Fraction, ◌≈◌, of_whole, fraction_product}
use Rattle.hypergeometric.specs.LinearForm.{factor_list_value}
use Rattle.hypergeometric.specs.ProperTerm.{ProperTerm, IsDefinedAt, proper_value, poly_value}
use Rattle.term_pieces.specs.Pieces.{Top, Pieces, top_at}

-- p_j
abbrev pub top_value : Top → Point → ℤ
top_value top p = poly_value top.poly p *ℤ factor_list_value top.factors p

-- H, with F(n+j,k) = p_j H for all j up to J, K(n,k) = r0(k-1) H and K(n,k+1) = q0(k) H. All are defined, the term K itself among them.
pub record ShareValue (f : ProperTerm) (pieces : Pieces) (order : ℕ) (p : Point) : Type 0 where
  pub common : Fraction
  pub tops : (j : ℕ) → j ≤ order → proper_value f (later_n p (pos j)) ≈ fraction_product (of_whole (top_value (top_at pieces j) p)) common
  pub carrier_here : proper_value pieces.carrier p ≈ fraction_product (of_whole (factor_list_value pieces.r0 (later_k p (negsuc 0)))) common
  pub carrier_next : proper_value pieces.carrier (later_k p (pos 1)) ≈ fraction_product (of_whole (factor_list_value pieces.q0 p)) common
  pub defined_here : IsDefinedAt pieces.carrier p
  pub defined_next : IsDefinedAt pieces.carrier (later_k p (pos 1))
