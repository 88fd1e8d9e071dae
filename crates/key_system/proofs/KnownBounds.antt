-- Equations over the whole numbers of which it is known whether each step that solves them is in bounds.
use Rattle.std.specs.Prelude.{◌≡◌, ℕ, zero, suc, ◌+◌, ◌<◌, ◌≤◌, ◌^◌, pos, negsuc, List, [], ◌∷◌, length, Option, Some, refl}
use Rattle.std.proofs.Common.{arith, lit<}
use Rattle.ring_laws.specs.Meaning.{Meaning, number, listed, items}
use Rattle.ring_laws.specs.Algebra.{Ops}
use Rattle.ring_laws.specs.Wholes.{whole_algebra}
use Rattle.poly_laws.specs.Lists.{coefficient_at}
use Rattle.kernel_laws.specs.Answers.{VectorInBounds}
use Rattle.reducing.specs.WholeRows.{whole_reduction}
use Rattle.fraction_free.proofs.KnownSteps.{Always}
use Rattle.fraction_free.proofs.KnownVectors.{vector_in}
use Rattle.key_laws.specs.DegreeBounds.{HaveZeros, IsGreatestDegree, IsDegreeBound, coefficient_count}
use Rattle.key_laws.specs.KeyRows.{key_rows}
use Rattle.key_laws.proofs.FindingBounds.{bound_by_degrees}
use Rattle.key_system.specs.Reckoning.{BoundInBounds, ColumnInBounds, RowsInBounds, SolvingInBounds}
use Rattle.key_system.proofs.SolvFaults.{at_bound}

abbrev o : Ops Meaning
o = whole_algebra.ops

too_large : ¬ (2 ^ 127 < 2 ^ 127)
too_large h = omega (arith, h)

-- ---- (k + 3) Y(k+1) - Y(k) = a_0 (-2k - 4): Y has one coefficient, and the rows are (1, 2) and (2, 4)
abbrev q : Meaning
q = listed (number (pos 3) ∷ number (pos 1) ∷ [])

abbrev b : Meaning
b = listed (number (pos 1) ∷ [])

abbrev side : Meaning
side = listed (number (negsuc 3) ∷ number (negsuc 1) ∷ [])

-- the greatest degree of q and b, and of the side, is 1
degree_of_both : IsGreatestDegree o (q ∷ b ∷ []) 1
degree_of_both = record { lead = λ h. absurd (cc h.0); above = above }
  where
    above : (i : ℕ) → 1 < i → HaveZeros o (q ∷ b ∷ []) i
    above zero h = absurd (omega (arith, h))
    above (suc zero) h = absurd (omega (arith, h))
    above (suc (suc i)) h = (refl, (refl, tt))

degree_of_side : IsGreatestDegree o (side ∷ []) 1
degree_of_side = record { lead = λ h. absurd (cc h.0); above = above }
  where
    above : (i : ℕ) → 1 < i → HaveZeros o (side ∷ []) i
    above zero h = absurd (omega (arith, h))
    above (suc zero) h = absurd (omega (arith, h))
    above (suc (suc i)) h = (refl, tt)

bound_is : IsDegreeBound o q b (side ∷ []) (Some 0)
bound_is = record {
  degree = 1;
  is_degree = degree_of_both;
  bounds = bound_by_degrees o q b (side ∷ []) 1 (λ e. absurd (cc e)) (Some 0) (1, degree_of_side, refl);
}

bound_in : BoundInBounds whole_algebra q b
bound_in zero g e = lit< tt
bound_in (suc zero) g e = lit< tt
bound_in (suc (suc m)) g e = absurd (g.lead (degree_of_both.above (suc (suc m)) (omega arith)))

column_in : ColumnInBounds whole_algebra q b 0
column_in = (omega arith, fits)
  where
    -- |q| + |b| is k + 4
    whole : Meaning
    whole = listed (number (pos 4) ∷ number (pos 1) ∷ [])

    fits : (i : ℕ) → o.Fits (coefficient_at o (items whole) i)
    fits zero = lit< tt
    fits (suc zero) = lit< tt
    fits (suc (suc i)) = lit< tt

rows_in : RowsInBounds whole_algebra q b 1
rows_in zero h = column_in
rows_in (suc i) h = absurd (omega (arith, h))

solving_in : SolvingInBounds Always whole_algebra whole_reduction q b (side ∷ [])
solving_in = record {
  bound = bound_in;
  rows = at_bound o q b (side ∷ []) (λ bound. coefficient_count bound + 1 ≤ 48 → RowsInBounds whole_algebra q b (coefficient_count bound)) (Some 0)
      bound_is (λ few. rows_in);
  vector = at_bound o q b (side ∷ []) (λ bound. coefficient_count bound + 1 ≤ 48
      → VectorInBounds Always whole_algebra whole_reduction (coefficient_count bound + 1) (coefficient_count bound)
      (key_rows o q b (coefficient_count bound) (side ∷ []))) (Some 0) bound_is (λ few. vector_in 1);
}

-- ---- (k + 2^126) Y(k+1) - (k + 2^126) Y(k) = a_0: of the difference of the two coefficients 2^126 the counterpart is 2^127
abbrev steep : Meaning
steep = listed (number (pos (2 ^ 126)) ∷ number (pos 1) ∷ [])

degree_of_steep : IsGreatestDegree o (steep ∷ steep ∷ []) 1
degree_of_steep = record { lead = λ h. absurd (cc h.0); above = above }
  where
    above : (i : ℕ) → 1 < i → HaveZeros o (steep ∷ steep ∷ []) i
    above zero h = absurd (omega (arith, h))
    above (suc zero) h = absurd (omega (arith, h))
    above (suc (suc i)) h = (refl, (refl, tt))

bound_out : ¬ (BoundInBounds whole_algebra steep steep)
bound_out h = too_large (h 1 degree_of_steep refl)

-- so is that of the first column, q(k) - b(k)
column_out : ¬ (ColumnInBounds whole_algebra steep steep 0)
column_out h = too_large (h.1 0)

rows_out : ¬ (RowsInBounds whole_algebra steep steep 1)
rows_out h = column_out (h 0 (omega arith))

solving_out : ¬ (SolvingInBounds Always whole_algebra whole_reduction steep steep (listed (number (pos 1) ∷ []) ∷ []))
solving_out h = bound_out h.bound
