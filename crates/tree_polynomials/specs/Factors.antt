-- What the factors of a product stand for.
use Rattle.std.specs.Prelude.{List, map}
use Rattle.term_classes.specs.Finding.{FractionFactor}
use Rattle.tree_polynomials.specs.Views.{fraction_value}
use Rattle.tree_polynomials.specs.declared.factors.Factor.{Factor}

-- the fraction that a factor of the code stands for, and whether it is divided by
abbrev pub factor_of : Factor → FractionFactor
factor_of factor = (factor.turned, fraction_value factor.fraction)

-- the factors that those of the code stand for, in their order
abbrev pub factors_of : List Factor → List FractionFactor
factors_of factors = map factor_of factors
