-- Degrees of polynomials in k, their divisors and primes, up to a factor that is free of k and not zero: so the ring of the coefficients needs
-- no fractions.
use Rattle.std.specs.Prelude.{◌≡◌, ℕ, suc, ◌<◌}
use Rattle.ring_laws.specs.Algebra.{Algebra}
use Rattle.poly_laws.specs.PolyAlgebra.{poly_ops}
use Rattle.division_laws.specs.Polynomials.{Polynomial, coefficient_of}

-- f has the degree m: the coefficient of k^m isn't zero, and those above are
pub record HasDegree (a : Algebra) (f : Polynomial a) (m : ℕ) : Type 0 where
  pub lead : ¬ (coefficient_of a.ops f.0 m ≡ a.ops.nought)
  pub above : (i : ℕ) → m < i → coefficient_of a.ops f.0 i ≡ a.ops.nought

-- p divides f: some multiple of f by a factor free of k, which isn't zero, is a multiple of p
pub record Divides (a : Algebra) (p f : Polynomial a) : Type 0 where
  pub factor : Polynomial a
  pub free : HasDegree a factor 0
  pub quotient : Polynomial a
  pub is : (poly_ops a.ops).product factor.0 f.0 ≡ (poly_ops a.ops).product p.0 quotient.0

-- p is prime: it has a positive degree, and in each product that it is, up to a factor free of k, one factor is free of k
pub record IsPrime (a : Algebra) (p : Polynomial a) : Type 0 where
  pub below : ℕ
  pub degree : HasDegree a p (suc below)
  pub minimal : (c e h : Polynomial a) → HasDegree a c 0 → (poly_ops a.ops).product c.0 p.0 ≡ (poly_ops a.ops).product e.0 h.0
      → (n : ℕ) → HasDegree a e (suc n) → HasDegree a h 0
