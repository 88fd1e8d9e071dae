-- The laws for values of the code, by what they mean.
use Rattle.std.specs.Prelude.{◌≡◌, ℕ, ◌+◌, ◌-◌, IsTrue, Option, List, [], ◌∷◌, map, length, refl}
use Rattle.std.proofs.Common.{ap, sym, subst}
use Rattle.std.proofs.lemmas.List.{length-map}
use Rattle.ring_laws.specs.Meaning.{Meaning}
use Rattle.ring_laws.specs.Algebra.{Algebra, Passing, Laws}
use Rattle.ring_laws.specs.Division.{DomainLaws}
use Rattle.poly_laws.specs.PolyAlgebra.{poly_algebra}
use Rattle.kernel_laws.specs.Rows.{entry_at}
use Rattle.kernel_laws.specs.Answers.{FreeVector, AllPivots}
use Rattle.kernel_laws.specs.Reduction.{bare}
use Rattle.key_laws.specs.DegreeBounds.{IsDegreeBound, coefficient_count}
use Rattle.division_laws.specs.Polynomials.{Polynomial}
use Rattle.key_laws.specs.KeyEquation.{InsolubleWith}
use Rattle.key_laws.specs.KeyRows.{key_rows, polynomial_of}
use Rattle.key_laws.specs.Solutions.{IsLeastSolution}
use Rattle.key_laws.proofs.Answers.{pivots_insoluble, free_solution, free_soluble}

-- values with the proofs that their meanings belong to the ring
abbrev pub values_of : {T : Type 0} (a : Algebra) (meaning : T → Meaning) → ((x : T) → IsTrue (a.passes (meaning x))) → List T → List (Passing a)
values_of a meaning passes xs = map (λ x. (meaning x, passes x)) xs

pub bare_values : {T : Type 0} (a : Algebra) (meaning : T → Meaning) (passes : (x : T) → IsTrue (a.passes (meaning x))) (xs : List T)
    → bare a (values_of a meaning passes xs) ≡ map meaning xs
bare_values a meaning passes [] = refl
bare_values a meaning passes (x ∷ xs) = ap (λ t. meaning x ∷ t) (bare_values a meaning passes xs)

module _ {T E : Type 0} (a : Algebra) (l : Laws a) (d : DomainLaws a) (meaning : T → Meaning) (passes : (x : T) → IsTrue ((poly_algebra a).passes (meaning x)))
    (value : E → Meaning) (value_passes : (x : E) → IsTrue (a.passes (value x))) (q b : T) (sides : List T) (bound : Option ℕ)
    (is_bound : IsDegreeBound a.ops (meaning q) (meaning b) (map meaning sides) bound) where
  q_in : Polynomial a
  q_in = (meaning q, passes q)

  b_in : Polynomial a
  b_in = (meaning b, passes b)

  abbrev sides_in : List (Polynomial a)
  sides_in = values_of (poly_algebra a) meaning passes sides

  same : bare (poly_algebra a) (values_of (poly_algebra a) meaning passes sides) ≡ map meaning sides
  same = bare_values (poly_algebra a) meaning passes sides

  as_many : length (values_of (poly_algebra a) meaning passes sides) ≡ length sides
  as_many = length-map sides (λ x. (meaning x, passes x))

  bound_in : IsDegreeBound a.ops (meaning q) (meaning b) (bare (poly_algebra a) sides_in) bound
  bound_in = subst (λ s. IsDegreeBound a.ops (meaning q) (meaning b) s bound) (sym same) is_bound

  abbrev count : ℕ
  count = coefficient_count bound

  pub code_insoluble : (rank : ℕ)
      → AllPivots a (coefficient_count bound + length sides) (coefficient_count bound)
      (key_rows a.ops (meaning q) (meaning b) (coefficient_count bound) (map meaning sides)) rank
      → InsolubleWith a (meaning q) (meaning b) (map meaning sides)
  code_insoluble rank h =
      subst (λ s. InsolubleWith a (meaning q) (meaning b) s) same
      (pivots_insoluble a l d (meaning q, passes q) (meaning b, passes b) sides_in bound bound_in rank
      (subst (λ n. AllPivots a (count + n) count (key_rows a.ops (meaning q) (meaning b) count (bare (poly_algebra a) sides_in)) rank) (sym as_many)
      (subst (λ s. AllPivots a (count + length sides) count (key_rows a.ops (meaning q) (meaning b) count s) rank) (sym same) h)))

  module _ (row : List E) (free : ℕ)
      (found : FreeVector a (coefficient_count bound + length sides) (coefficient_count bound)
      (key_rows a.ops (meaning q) (meaning b) (coefficient_count bound) (map meaning sides)) (map value row) free) where
    found_in : FreeVector a (count + length sides_in) count (key_rows a.ops (meaning q) (meaning b) count (bare (poly_algebra a) sides_in))
        (bare a (values_of a value value_passes row)) free
    found_in =
        subst (λ n. FreeVector a (count + n) count (key_rows a.ops (meaning q) (meaning b) count (bare (poly_algebra a) sides_in))
        (bare a (values_of a value value_passes row)) free) (sym as_many)
        (subst (λ s. FreeVector a (count + length sides) count (key_rows a.ops (meaning q) (meaning b) count s)
        (bare a (values_of a value value_passes row)) free) (sym same)
        (subst (λ v. FreeVector a (count + length sides) count (key_rows a.ops (meaning q) (meaning b) count (map meaning sides)) v free)
        (sym (bare_values a value value_passes row)) found))

    pub code_solution : IsLeastSolution a (meaning q) (meaning b) (map meaning sides)
        (polynomial_of a.ops (coefficient_count bound) (entry_at a.ops (map value row)))
        (λ j. entry_at a.ops (map value row) (coefficient_count bound + j)) (free - coefficient_count bound)
    code_solution =
        subst (λ v. IsLeastSolution a (meaning q) (meaning b) (map meaning sides) (polynomial_of a.ops count (entry_at a.ops v))
        (λ j. entry_at a.ops v (count + j)) (free - count)) (bare_values a value value_passes row)
        (subst (λ s. IsLeastSolution a (meaning q) (meaning b) s
        (polynomial_of a.ops count (entry_at a.ops (bare a (values_of a value value_passes row))))
        (λ j. entry_at a.ops (bare a (values_of a value value_passes row)) (count + j)) (free - count)) same
        (free_solution a l d (meaning q, passes q) (meaning b, passes b) sides_in bound bound_in (values_of a value value_passes row) free found_in))

    pub code_soluble : ¬ InsolubleWith a (meaning q) (meaning b) (map meaning sides)
    code_soluble h =
        free_soluble a l d (meaning q, passes q) (meaning b, passes b) sides_in bound bound_in (values_of a value value_passes row) free found_in
        (subst (λ s. InsolubleWith a (meaning q) (meaning b) s) (sym same) h)
