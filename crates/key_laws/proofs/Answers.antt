-- What elimination says of the key rows, said of the key equation.
use Rattle.std.specs.Prelude.{◌≡◌, ℕ, ◌+◌, ◌-◌, Option, List, length, refl}
use Rattle.std.proofs.Common.{ap, sym, ◌∙◌, subst, arith}
use Rattle.std.proofs.lemmas.List.{length-map}
use Rattle.ring_laws.specs.Meaning.{Meaning}
use Rattle.ring_laws.specs.Algebra.{Ops, Algebra, Passing, within, Laws}
use Rattle.ring_laws.specs.Division.{DomainLaws}
use Rattle.poly_laws.specs.PolyAlgebra.{poly_algebra}
use Rattle.kernel_laws.specs.Rows.{entry_at, InKernel}
use Rattle.kernel_laws.specs.Kernels.{EndsAt}
use Rattle.kernel_laws.specs.Answers.{Vector, meant, FreeVector, AllPivots}
use Rattle.kernel_laws.specs.Reduction.{bare}
use Rattle.kernel_laws.proofs.Belonging.{bare_at}
use Rattle.key_laws.specs.DegreeBounds.{IsDegreeBound, coefficient_count}
use Rattle.key_laws.specs.KeyEquation.{SolvesWith, InsolubleWith}
use Rattle.key_laws.specs.KeyRows.{joined, polynomial_of, key_rows}
use Rattle.key_laws.specs.Solutions.{IsLeastSolution}
use Rattle.key_laws.proofs.DegreeBound.{solutions_are_within}
use Rattle.key_laws.proofs.Kernels.{joined_later, y_in, kernel_solves, solution_in_kernel}
use Rattle.division_laws.proofs.Polynomials.{part}

module _ (a : Algebra) (l : Laws a) (d : DomainLaws a) (q b : Passing (poly_algebra a)) (sides : List (Passing (poly_algebra a)))
    (bound : Option ℕ) (is_bound : IsDegreeBound a.ops q.0 b.0 (bare (poly_algebra a) sides) bound) where
  abbrev base : Ops (Passing a)
  base = within a l.closed

  abbrev count : ℕ
  count = coefficient_count bound

  abbrev width : ℕ
  width = count + length sides

  abbrev meanings : List Meaning
  meanings = bare (poly_algebra a) sides

  abbrev rows : List (List Meaning)
  rows = key_rows a.ops q.0 b.0 count meanings

  as_many : length meanings ≡ length sides
  as_many = length-map sides (λ (f : Passing (poly_algebra a)). f.0)

  abbrev vector_of : Passing (poly_algebra a) → Vector a → Vector a
  vector_of y multipliers = joined count (part a l y) multipliers

  -- each solution is a vector of the kernel
  in_kernel : (y : Passing (poly_algebra a)) (multipliers : Vector a) → SolvesWith a.ops q.0 b.0 meanings y.0 (meant a multipliers)
      → InKernel a.ops width rows (meant a (vector_of y multipliers))
  in_kernel y multipliers solves =
      solution_in_kernel a l q b count sides y multipliers solves (solutions_are_within a l d q b sides bound is_bound y multipliers solves)

  multiplier_at : (y : Passing (poly_algebra a)) (multipliers : Vector a) (k j : ℕ) → k ≡ count + j → (vector_of y multipliers k).0 ≡ (multipliers j).0
  multiplier_at y multipliers k j e = ap (λ (t : Passing a). t.0) (joined_later count (part a l y) multipliers k j e)

  -- pivots from the first multiplier on: no solution has a multiplier that isn't zero
  pub pivots_insoluble : (rank : ℕ)
      → AllPivots a (coefficient_count bound + length sides) (coefficient_count bound)
      (key_rows a.ops q.0 b.0 (coefficient_count bound) (bare (poly_algebra a) sides)) rank
      → InsolubleWith a q.0 b.0 (bare (poly_algebra a) sides)
  pivots_insoluble rank pivots y multipliers solves j c =
      sym (multiplier_at y multipliers (count + j) j refl)
      ∙ pivots.zero (vector_of y multipliers) (in_kernel y multipliers solves) (count + j) (omega arith) (omega (arith, c, as_many))

  ends_later : (y : Passing (poly_algebra a)) (multipliers : Vector a) (j : ℕ) → EndsAt a.ops (length meanings) (meant a multipliers) j
      → EndsAt a.ops width (meant a (vector_of y multipliers)) (count + j)
  ends_later y multipliers j e = record {
    within = omega (arith, e.within, as_many);
    here = λ z. e.here (sym (multiplier_at y multipliers (count + j) j refl) ∙ z);
    later = λ k c h.
        let back : k ≡ count + (k - count) = omega (arith, c) in
        multiplier_at y multipliers k (k - count) back ∙ e.later (k - count) (omega (arith, c)) (omega (arith, c, h, as_many));
  }

  -- a vector of the kernel that ends at a multiplier, the first at which one ends: a solution with that last multiplier, and none with an earlier
  module _ (row : List (Passing a)) (free : ℕ)
      (found : FreeVector a (coefficient_count bound + length sides) (coefficient_count bound)
      (key_rows a.ops q.0 b.0 (coefficient_count bound) (bare (poly_algebra a) sides)) (bare a row) free) where
    entries : (k : ℕ) → entry_at a.ops (bare a row) k ≡ (entry_at base row k).0
    entries k = bare_at a l.closed width row k

    same_entries : entry_at a.ops (bare a row) ≡ meant a (entry_at base row)
    same_entries = λ i k. entries k i

    place : free ≡ count + (free - count)
    place = omega (arith, found.from)

    kernel_within : InKernel a.ops width rows (meant a (entry_at base row))
    kernel_within = subst (λ (w : ℕ → Meaning). InKernel a.ops width rows w) same_entries found.kernel

    -- so the equation is soluble
    pub free_soluble : ¬ InsolubleWith a q.0 b.0 (bare (poly_algebra a) sides)
    free_soluble none =
        found.ends.here (ap (entry_at a.ops (bare a row)) place ∙ entries (count + (free - count))
        ∙ none (y_in a l q b count sides (entry_at base row)) (λ j. entry_at base row (count + j))
        (kernel_solves a l q b count sides (entry_at base row) kernel_within) (free - count) (omega (arith, found.ends.within, found.from, as_many)))

    pub free_solution : IsLeastSolution a q.0 b.0 (bare (poly_algebra a) sides) (polynomial_of a.ops (coefficient_count bound) (entry_at a.ops (bare a row)))
        (λ j. entry_at a.ops (bare a row) (coefficient_count bound + j)) (free - coefficient_count bound)
    free_solution = record {
      solves =
          subst (λ (w : ℕ → Meaning). SolvesWith a.ops q.0 b.0 meanings (polynomial_of a.ops count w) (λ j. w (count + j))) (sym same_entries)
          (kernel_solves a l q b count sides (entry_at base row) kernel_within);
      ends = record {
        within = omega (arith, found.ends.within, found.from, as_many);
        here = λ z. found.ends.here (ap (entry_at a.ops (bare a row)) place ∙ z);
        later = λ k c h. found.ends.later (count + k) (omega (arith, c)) (omega (arith, h, as_many));
      };
      least = λ j c y multipliers solves ends.
          found.least (count + j) (omega arith) (omega (arith, c)) (vector_of y multipliers) (in_kernel y multipliers solves)
          (ends_later y multipliers j ends);
    }
