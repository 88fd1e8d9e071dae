-- When the steps of a key equation are in bounds: from its polynomials to the degree bound, the rows, and the vector. b stands for r(k-1).
use Rattle.std.specs.Prelude.{ℕ, ◌+◌, ◌<◌, ◌≤◌, List, [], ◌∷◌, length, Option}
use Rattle.ring_laws.specs.Meaning.{Meaning}
use Rattle.ring_laws.specs.Algebra.{Algebra, SumInBounds}
use Rattle.poly_laws.specs.PolyAlgebra.{poly_algebra}
use Rattle.division_laws.specs.Polynomials.{at_next, coefficient_before}
use Rattle.kernel_laws.specs.Reduction.{Reduction}
use Rattle.kernel_laws.specs.Answers.{VectorInBounds}
use Rattle.key_laws.specs.DegreeBounds.{IsGreatestDegree, Agree, IsDegreeBound, coefficient_count}
use Rattle.key_laws.specs.KeyRows.{key_rows, power_of_k}

-- the one operation of the degree bound, B - A for the coefficients A and B of q and b below their greatest power, where those there agree
abbrev pub BoundInBounds : Algebra → (q b : Meaning) → Type 0
BoundInBounds a q b =
    (m : ℕ) → IsGreatestDegree a.ops (q ∷ b ∷ []) m → Agree a.ops q b m
    → SumInBounds a (coefficient_before a.ops b m) (coefficient_before a.ops q m)

-- one operation: |q| (k+1)^i + |b| k^i fits
abbrev pub ColumnInBounds : Algebra → (q b : Meaning) → ℕ → Type 0
ColumnInBounds a q b i =
    let o = (poly_algebra a).ops in
    o.Fits (o.sum (o.product (o.magnitude q) (o.magnitude (at_next a.ops (power_of_k a.ops i))))
    (o.product (o.magnitude b) (o.magnitude (power_of_k a.ops i))))

-- so for each of so many coefficients of Y
abbrev pub RowsInBounds : Algebra → (q b : Meaning) → ℕ → Type 0
RowsInBounds a q b count = (i : ℕ) → i < count → ColumnInBounds a q b i

-- the steps of solving: the bound, and where the columns are within their limit, the rows and the vector
pub record SolvingInBounds (InBounds : Meaning → Meaning → Type 0) (a : Algebra) (r : Reduction) (q b : Meaning) (sides : List Meaning) : Type 0 where
  pub bound : BoundInBounds a q b
  pub rows : (bound : Option ℕ) → IsDegreeBound a.ops q b sides bound → coefficient_count bound + length sides ≤ 48
      → RowsInBounds a q b (coefficient_count bound)
  pub vector : (bound : Option ℕ) → IsDegreeBound a.ops q b sides bound → coefficient_count bound + length sides ≤ 48
      → VectorInBounds InBounds a r (coefficient_count bound + length sides) (coefficient_count bound)
      (key_rows a.ops q b (coefficient_count bound) sides)
