-- The parts of the vector of the first free column: the least solution with its sign, and the one by the steps.
use Rattle.std.specs.Prelude.{◌≡◌, ℕ, ◌+◌, ◌-◌, pos, ◌<ℤ◌, IsTrue, Vec, All, Option, List, [], ◌∷◌, map, length, drop, get_or, refl}
use Rattle.std.proofs.Common.{ap, sym, ◌∙◌, ⊎_elim, subst, arith}
use Rattle.std.proofs.lemmas.List.{length-map, length-drop, get_or-drop}
use Rattle.ring_laws.specs.Meaning.{Meaning}
use Rattle.ring_laws.specs.Algebra.{Ops, Algebra, Passing, within, Laws}
use Rattle.ring_laws.specs.Division.{DomainLaws}
use Rattle.poly_laws.specs.PolyAlgebra.{poly_algebra}
use Rattle.kernel_laws.specs.Rows.{entry_at}
use Rattle.kernel_laws.specs.Reduction.{Reduction, ReductionLaws, bare}
use Rattle.kernel_laws.specs.Answers.{FreeVector, AllPivots, VectorOf}
use Rattle.key_laws.specs.DegreeBounds.{IsDegreeBound, coefficient_count}
use Rattle.key_laws.specs.KeyEquation.{InsolubleWith}
use Rattle.key_laws.specs.KeyRows.{key_rows, polynomial_of, listing}
use Rattle.key_laws.specs.Solutions.{IsLeastSolution}
use Rattle.key_laws.proofs.NegatedVectors.{negated_vector}
use Rattle.key_laws.proofs.ValuesOfCode.{values_of, bare_values, code_insoluble, code_solution, code_soluble}
use Rattle.form_rings.specs.Forms.{Forms}
use Rattle.fraction_free.specs.RowAnswers.{rows_meant}
use Rattle.key_system.specs.Answers.{IsLeastWithSign}
use Rattle.key_system.specs.Solved.{AreParts, IsChosen}
use Rattle.key_system.proofs.SolvFirst.{belonging, rows_belong, sizes_belong, first_free}
use Rattle.key_system.proofs.SolvParts.{as_many, drop_listing}

module _ {T E Z : Type 0} (a : Algebra) (l : Laws a) (dl : DomainLaws a) (meaning : T → Meaning)
    (passes : (x : T) → IsTrue ((poly_algebra a).passes (meaning x)))
    (value : E → Meaning) (value_passes : (x : E) → IsTrue (a.passes (value x))) (q b : T) (sides : List T) (bound : Option ℕ)
    (is_bound : IsDegreeBound a.ops (meaning q) (meaning b) (map meaning sides) bound) (rows : List (Vec E Z)) (width : ℕ)
    (width_is : width ≡ coefficient_count bound + length sides)
    (rows_are : rows_meant value rows ≡ key_rows a.ops (meaning q) (meaning b) (coefficient_count bound) (map meaning sides)) where
  abbrev base : Ops (Passing a)
  base = within a l.closed

  abbrev count : ℕ
  count = coefficient_count bound

  abbrev keyed : List (List Meaning)
  keyed = key_rows a.ops (meaning q) (meaning b) (coefficient_count bound) (map meaning sides)

  -- pivots in all columns of multipliers
  pub found_insoluble : (rank : ℕ) → AllPivots a width count (rows_meant value rows) rank → InsolubleWith a (meaning q) (meaning b)
      (map meaning sides)
  found_insoluble rank h =
      code_insoluble a l dl meaning passes value value_passes q b sides bound is_bound rank
      (subst (λ n. AllPivots a n count keyed rank) width_is (subst (λ t. AllPivots a width count t rank) rows_are h))

  module _ (row : List E) (free : ℕ) (found : FreeVector a width count (rows_meant value rows) (map value row) free) where
    found_keyed : FreeVector a (count + length sides) count keyed (map value row) free
    found_keyed = subst (λ n. FreeVector a n count keyed (map value row) free) width_is
        (subst (λ t. FreeVector a width count t (map value row) free) rows_are found)

    pub found_soluble : ¬ InsolubleWith a (meaning q) (meaning b) (map meaning sides)
    found_soluble = code_soluble a l dl meaning passes value value_passes q b sides bound is_bound row free found_keyed

    abbrev made : List (Passing a)
    made = values_of a value value_passes row

    made_is : bare a (values_of a value value_passes row) ≡ map value row
    made_is = bare_values a value value_passes row

    -- a vector that ends there, whose entries belong to the ring
    record Vectors (vector : List Meaning) : Type 0 where
      pub entries : List (Passing a)
      pub entries_are : bare a entries ≡ vector
      pub free_vector : FreeVector a (count + length sides) count keyed (bare a entries) free

    same_rows : map (bare a) (belonging {E = E} {Z = Z} a value value_passes rows) ≡ keyed
    same_rows = rows_belong a value value_passes rows ∙ rows_are

    made_vector : FreeVector a (count + length sides) count keyed (bare a (values_of a value value_passes row)) free
    made_vector = subst (λ v. FreeVector a (count + length sides) count keyed v free) (sym made_is) found_keyed

    negatives_are : (xs : List (Passing a)) → bare a (map base.neg xs) ≡ map a.ops.neg (bare a xs)
    negatives_are [] = refl
    negatives_are (x ∷ xs) = ap (λ t. a.ops.neg x.0 ∷ t) (negatives_are xs)

    negative_vector : FreeVector a (count + length sides) count keyed (bare a (map base.neg (values_of a value value_passes row))) free
    negative_vector =
        subst (λ t. FreeVector a (count + length sides) count t (bare a (map base.neg made)) free) same_rows
        (negated_vector a l (count + length sides) count free (belonging {E = E} {Z = Z} a value value_passes rows) made
        (subst (λ t. FreeVector a (count + length sides) count t (bare a made) free) (sym same_rows) made_vector))

    module _ (forms : Forms) (others : ℕ) (others_are : others ≡ length sides) (y : Meaning) (multipliers : List Meaning)
        (parts : AreParts a forms (map value row) free count others y multipliers) where
      vectors : Vectors parts.vector
      vectors =
          ⊎_elim (λ e. record { entries = made; entries_are = made_is ∙ sym e; free_vector = made_vector })
          (λ e. record {
            entries = map base.neg made;
            entries_are = negatives_are made ∙ ap (map a.ops.neg) made_is ∙ sym e;
            free_vector = negative_vector;
          }) parts.signed.is

      solution : IsLeastSolution a (meaning q) (meaning b) (map meaning sides) (polynomial_of a.ops count (entry_at a.ops parts.vector))
          (λ j. entry_at a.ops parts.vector (count + j)) (free - count)
      solution =
          subst (λ v. IsLeastSolution a (meaning q) (meaning b) (map meaning sides) (polynomial_of a.ops count (entry_at a.ops v))
          (λ j. entry_at a.ops v (count + j)) (free - count)) vectors.entries_are
          (code_solution a l dl meaning passes (λ (x : Passing a). x.0) (λ x. x.1) q b sides bound is_bound vectors.entries free
          vectors.free_vector)

      long : length parts.vector ≡ count + length sides
      long = as_many a forms (map value row) parts.vector free parts.signed ∙ found_keyed.size

      dropped : multipliers ≡ drop count parts.vector
      dropped =
          let n : others ≡ length parts.vector - count = omega (arith, others_are, long) in
          parts.multipliers_are ∙ ap (λ m. listing m (λ j. get_or parts.vector (count + j) a.ops.nought)) n
          ∙ sym (drop_listing a.ops.nought count parts.vector)

      entries : (j : ℕ) → entry_at a.ops multipliers j ≡ entry_at a.ops parts.vector (count + j)
      entries j = ap (λ t. entry_at a.ops t j) dropped ∙ get_or-drop count parts.vector j a.ops.nought

      place : count + (free - count) ≡ free
      place = omega (arith, found.from)

      pub least_with_sign : IsLeastWithSign a forms (meaning q) (meaning b) (map meaning sides) y multipliers
      least_with_sign = record {
        size = omega (arith, ap length dropped, length-drop count parts.vector, long, length-map sides meaning);
        last = free - count;
        least = subst (λ t. IsLeastSolution a (meaning q) (meaning b) (map meaning sides) t (entry_at a.ops multipliers) (free - count))
            (sym parts.y_is)
            (subst (λ w. IsLeastSolution a (meaning q) (meaning b) (map meaning sides) (polynomial_of a.ops count (entry_at a.ops parts.vector)) w
            (free - count)) (sym (λ i j. entries j i)) solution);
        positive = subst (λ t. pos 0 <ℤ forms.lead t) (sym (entries (free - count) ∙ ap (entry_at a.ops parts.vector) place)) parts.signed.positive;
      }

      pub chosen : (r : Reduction) → ReductionLaws a r → All (λ (v : Vec E Z). length v.items ≡ width) rows
          → VectorOf a r width (rows_meant value rows) free (map value row)
          → IsChosen a r forms (meaning q) (meaning b) (map meaning sides) y multipliers
      chosen r rl sizes steps =
          let many : length (map meaning sides) ≡ length sides = length-map sides meaning in
          let there : VectorOf a r (count + length (map meaning sides)) keyed free (bare a made) =
          subst (λ n. VectorOf a r n keyed free (bare a made)) (width_is ∙ ap (λ n. count + n) (sym many))
          (subst (λ t. VectorOf a r width t free (bare a made)) rows_are
          (subst (λ v. VectorOf a r width (rows_meant value rows) free v) (sym made_is) steps)) in
          let free_there : FreeVector a (count + length (map meaning sides)) count keyed (map value row) free =
          subst (λ n. FreeVector a (count + n) count keyed (map value row) free) (sym many) found_keyed in
          let sized : All (λ (v : Vec E Z). length v.items ≡ count + length (map meaning sides)) rows =
          subst (λ n. All (λ (v : Vec E Z). length v.items ≡ n) rows) (width_is ∙ ap (λ n. count + n) (sym many)) sizes in
          record {
            bound = bound;
            free = free;
            row = made;
            by_steps = record {
              is_bound = is_bound;
              by_steps = there;
              first_free = first_free a l dl r rl (count + length (map meaning sides)) count free
                  (belonging {E = E} {Z = Z} a value value_passes rows)
                  (sizes_belong a value value_passes (count + length (map meaning sides)) rows sized) keyed same_rows (map value row) (bare a made)
                  free_there there;
            };
            parts = subst (λ n. AreParts a forms (bare a made) free count n y multipliers) (others_are ∙ sym many)
                (subst (λ v. AreParts a forms v free count others y multipliers) (sym made_is) parts);
          }
