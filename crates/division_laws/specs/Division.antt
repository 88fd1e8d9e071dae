-- Division of polynomials in k with a remainder, and common divisors, up to a factor that is free of k and not zero.
use Rattle.std.specs.Prelude.{◌≡◌, ℕ, ◌≤◌}
use Rattle.ring_laws.specs.Algebra.{Algebra}
use Rattle.poly_laws.specs.PolyAlgebra.{poly_ops}
use Rattle.division_laws.specs.Polynomials.{Polynomial, coefficient_of}
use Rattle.division_laws.specs.Divisors.{HasDegree, Divides}

-- f divided by g, which has the degree m: some multiple of f by a factor free of k is a multiple of g and a remainder of a degree below m
pub record Remainder (a : Algebra) (f g : Polynomial a) (m : ℕ) : Type 0 where
  pub factor : Polynomial a
  pub free : HasDegree a factor 0
  pub quotient : Polynomial a
  pub rest : Polynomial a
  pub is : (poly_ops a.ops).product factor.0 f.0 ≡ (poly_ops a.ops).sum ((poly_ops a.ops).product quotient.0 g.0) rest.0
  pub below : (i : ℕ) → m ≤ i → coefficient_of a.ops rest.0 i ≡ a.ops.nought

-- a divisor of f and g that is a combination of them and isn't zero
pub record CommonDivisor (a : Algebra) (f g : Polynomial a) : Type 0 where
  pub divisor : Polynomial a
  pub left : Polynomial a
  pub right : Polynomial a
  pub is : divisor.0 ≡ (poly_ops a.ops).sum ((poly_ops a.ops).product left.0 f.0) ((poly_ops a.ops).product right.0 g.0)
  pub of_first : Divides a divisor f
  pub of_second : Divides a divisor g
  pub some : ¬ (divisor.0 ≡ (poly_ops a.ops).nought)
