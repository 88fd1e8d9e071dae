use Rattle.ring_laws.specs.Meaning.{number}
use Rattle.tree_polynomials.proofs.NoConstants.{no_constant_in_n}
use Rattle.tree_polynomials.proofs.polynomials.constant_of_coefficient.Goals as goal

pub returns-in_default : goal.returns-in_default
returns-in_default c = record {
  constant = no_constant_in_n c.coefficients.result.now (λ w. number w.value) _ c.in_default.len_at_least c.coefficients.ensures.coefficients;
}
