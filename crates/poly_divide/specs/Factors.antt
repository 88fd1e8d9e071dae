-- A common factor of two values of a domain.
use Rattle.ring_laws.specs.Meaning.{Meaning}
use Rattle.ring_laws.specs.Algebra.{Algebra, SumInBounds, ProductInBounds}

-- c*x, c*y, their sum and its division by c are in bounds
pub record FactorInBounds (a : Algebra) (InBounds : Meaning → Meaning → Type 0) (c x y : Meaning) : Type 0 where
  pub first : ProductInBounds a c x
  pub second : ProductInBounds a c y
  pub sum : SumInBounds a (a.ops.product c x) (a.ops.product c y)
  pub division : InBounds (a.ops.sum (a.ops.product c x) (a.ops.product c y)) c
