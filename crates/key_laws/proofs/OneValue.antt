-- Over polynomials: where the values of the key rows at one value of the variable have a pivot in each column, the equation is insoluble.
use Rattle.std.specs.Prelude.{◌≡◌, ℕ, ◌+◌, Option, List, map, length}
use Rattle.std.proofs.Common.{sym, ◌∙◌, subst, arith, ap}
use Rattle.std.proofs.lemmas.List.{length-map}
use Rattle.ring_laws.specs.Algebra.{Algebra, Passing, within, Laws}
use Rattle.ring_laws.specs.Division.{DomainLaws}
use Rattle.poly_laws.specs.PolyAlgebra.{poly_algebra}
use Rattle.poly_laws.proofs.PolyDomain.{poly_domain}
use Rattle.poly_laws.proofs.PolyMagnitudes.{poly_laws}
use Rattle.kernel_laws.specs.Rows.{InKernel}
use Rattle.kernel_laws.specs.Answers.{meant, AllPivots}
use Rattle.kernel_laws.specs.Reduction.{bare}
use Rattle.key_laws.specs.EvaluatedRows.{rows_at}
use Rattle.key_laws.proofs.EvaluatedKernels.{pivots_at_one_value}
use Rattle.key_laws.specs.DegreeBounds.{IsDegreeBound, coefficient_count}
use Rattle.key_laws.specs.KeyEquation.{InsolubleWith}
use Rattle.key_laws.specs.KeyRows.{joined, key_rows, rows_below, longest}
use Rattle.key_laws.proofs.Columns.{columns, key_rows_meant}
use Rattle.key_laws.proofs.DegreeBound.{solutions_are_within}
use Rattle.key_laws.proofs.Kernels.{joined_later, solution_in_kernel}
use Rattle.division_laws.proofs.Polynomials.{part}

module _ (c : Algebra) (lc : Laws c) (dc : DomainLaws c) (q b : Passing (poly_algebra (poly_algebra c)))
    (sides : List (Passing (poly_algebra (poly_algebra c)))) (bound : Option ℕ)
    (is_bound : IsDegreeBound (poly_algebra c).ops q.0 b.0 (bare (poly_algebra (poly_algebra c)) sides) bound) (v : Passing c) where
  abbrev a : Algebra
  a = poly_algebra c

  l : Laws (poly_algebra c)
  l = poly_laws c lc

  abbrev count : ℕ
  count = coefficient_count bound

  pub value_insoluble : (rank : ℕ)
      → AllPivots c (coefficient_count bound + length sides) 0
      (rows_at c.ops v.0 (key_rows (poly_algebra c).ops q.0 b.0 (coefficient_count bound) (bare (poly_algebra (poly_algebra c)) sides))) rank
      → InsolubleWith (poly_algebra c) q.0 b.0 (bare (poly_algebra (poly_algebra c)) sides)
  value_insoluble rank pivots y multipliers solves j e =
      sym (ap (λ (t : Passing a). t.0) (joined_later count (part a l y) multipliers (count + j) j (omega arith)))
      ∙ pivots_at_one_value c lc dc (count + length sides) rows v rank
      (subst (λ r. AllPivots c (count + length sides) 0 (rows_at c.ops v.0 r) rank) same pivots)
      (joined count (part a l y) multipliers)
      (subst (λ r. InKernel a.ops (count + length sides) r (meant a (joined count (part a l y) multipliers))) same
      (solution_in_kernel a l q b count sides y multipliers solves
      (solutions_are_within a l (poly_domain c lc dc) q b sides bound is_bound y multipliers solves)))
      (count + j) (omega (arith, e, length-map sides (λ (f : Passing (poly_algebra a)). f.0)))
    where
      rows : List (List (Passing a))
      rows = rows_below (within a l.closed) (columns a l q b count sides) (longest (columns a l q b count sides))

      same : key_rows a.ops q.0 b.0 count (bare (poly_algebra a) sides)
          ≡ map (bare a) (rows_below (within a l.closed) (columns a l q b count sides) (longest (columns a l q b count sides)))
      same = key_rows_meant a l q b count sides
