-- When the polynomial and the fractions of a term are in bounds.
use Rattle.poly_laws.specs.Values.{level}
use Rattle.hypergeometric.specs.Fraction.{Fraction}
use Rattle.hypergeometric.specs.ProperTerm.{ProperTerm}
use Rattle.hypergeometric.specs.TermFacts.{IsNumber}

-- numerator and denominator are below 2^127 in magnitude
pub record IsFractionInBounds (f : Fraction) : Type 0 where
  pub top : IsNumber f.top
  pub bottom : IsNumber f.bottom

-- the polynomial of the term fits, and its scale and its bases have numbers below 2^127 in magnitude
pub record IsTermInBounds (f : ProperTerm) : Type 0 where
  pub poly : (level 2).ops.Fits f.poly
  pub scale : IsFractionInBounds f.scale
  pub n_base : IsFractionInBounds f.n_base
  pub k_base : IsFractionInBounds f.k_base
