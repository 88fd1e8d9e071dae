use Rattle.tree_polynomials.proofs.NoConstants.{no_constant_in_k}
use Rattle.proper_term.proofs.FieldPolynomials.{coefficient}
use Rattle.tree_polynomials.proofs.polynomials.constant_of.Goals as goal

pub returns-in_default : goal.returns-in_default
returns-in_default c = record {
  constant = no_constant_in_k c.coefficients.result.now coefficient _ c.in_default.len_at_least c.coefficients.ensures.coefficients;
}
