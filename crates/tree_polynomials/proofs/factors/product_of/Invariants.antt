use Rattle.std.proofs.Common.{drop}
use Rattle.tree_polynomials.specs.Factors.{factors_of}
use Rattle.tree_polynomials.specs.Views.{fraction_value}
use Rattle.tree_polynomials.proofs.FactorProducts.{IsLeft}
use Rattle.tree_polynomials.proofs.factors.product_of.Given as goal

-- the factors from here on are left
abbrev pub invariant-loop-factor : goal.invariant-loop-factor
invariant-loop-factor l = IsLeft (fraction_value l.product) (factors_of (drop l.factor-index l.factors)) (factors_of l.factors)
