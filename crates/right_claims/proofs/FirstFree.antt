-- What elimination answers meets the definition: where a vector of the kernel of the key rows ends at the least column of a multiplier that there is,
-- that column is the first free one of every run.
use Rattle.std.proofs.Common.{◌≡◌, ℕ, suc, ◌+◌, ◌<◌, ◌≤◌, List, [], ◌∷◌, map, length, refl, subst, arith, inl, inr, ⊎_elim}
use Rattle.std.proofs.lemmas.Bool.{cases_lt}
use Rattle.std.specs.Prelude.{◌⊎◌, Option}
use Rattle.ring_laws.specs.Meaning.{Meaning}
use Rattle.ring_laws.specs.Algebra.{Ops, Passing, within}
use Rattle.poly_laws.specs.Values.{level}
use Rattle.kernel_laws.specs.Pivots.{IsPivotColumn}
use Rattle.kernel_laws.specs.Reduction.{bare}
use Rattle.kernel_laws.specs.Elimination.{Run}
use Rattle.kernel_laws.specs.Answers.{meant, FreeVector, VectorOf, IsFirstFree}
use Rattle.kernel_laws.proofs.Belonging.{kernel_down, ends_down}
use Rattle.kernel_laws.proofs.ClearedRows.{domain as row_domain}
use Rattle.kernel_laws.proofs.Echelon.{ends_at_free}
use Rattle.kernel_laws.proofs.PartRuns.{pivot_rows_stand, pivots_back, isnt_pivot}
use Rattle.key_laws.specs.DegreeBounds.{coefficient_count}
use Rattle.reducing.specs.Laws.FactorLists.{laws, domain}
use Rattle.reducing.specs.PolynomialRows.{polynomial_reduction}
use Rattle.reducing.specs.Laws.PolynomialReduction.{polynomial_reduction_laws}
use Rattle.term_pieces.specs.NormalForm.{Normal}
use Rattle.right_claims.specs.KeySolutions.{rows_of_key}
use Rattle.right_claims.proofs.FreeVectors.{rows_in, rows_are, rows_long, unit_some}

abbrev W : Ops (Passing (level 1))
W = within (level 1) laws.closed

-- a column is a pivot's or it isn't
decided : (j : ℕ) (ps : List (ℕ × List Meaning)) → IsPivotColumn j ps ⊎ (¬ (IsPivotColumn j ps))
decided j [] = inr (λ h. absurd h)
decided j (p ∷ ps) = by (decided j ps) (cases_lt j p.0) (cases_lt p.0 j)
  where
    by : IsPivotColumn j ps ⊎ (¬ (IsPivotColumn j ps)) → (j < p.0) ⊎ (p.0 ≤ j) → (p.0 < j) ⊎ (j ≤ p.0)
        → IsPivotColumn j (p ∷ ps) ⊎ (¬ (IsPivotColumn j (p ∷ ps)))
    by (inl h) a b = inl (inr h)
    by (inr m) (inl a) b = inr (λ h. ⊎_elim (λ e. omega (arith, a, e)) m h)
    by (inr m) (inr a) (inl b) = inr (λ h. ⊎_elim (λ e. omega (arith, b, e)) m h)
    by (inr m) (inr a) (inr b) = inl (inl (omega (arith, a, b)))

module _ (normal : Normal) (tops : List Meaning) (count : ℕ) (size : length tops ≡ count) (bound : Option ℕ) (free : ℕ) (row : List (Passing (level 1)))
    (found : FreeVector (level 1) (coefficient_count bound + count) (coefficient_count bound)
    (rows_of_key normal tops (coefficient_count bound)) (bare (level 1) row) free)
    (steps : VectorOf (level 1) polynomial_reduction (coefficient_count bound + count) (rows_of_key normal tops (coefficient_count bound)) free
    (bare (level 1) row)) where
  abbrev first : ℕ
  first = coefficient_count bound

  abbrev n : ℕ
  n = first + count

  abbrev rows : List (List (Passing (level 1)))
  rows = rows_in normal tops first

  run : Run (level 1) polynomial_reduction (map (bare (level 1)) rows) (suc free) steps.ran.open_rows steps.pivots steps.ran.divisor
  run = subst (λ rs. Run (level 1) polynomial_reduction rs (suc free) steps.ran.open_rows steps.pivots steps.ran.divisor) (rows_are normal tops first)
      steps.ran.run

  moved : FreeVector (level 1) n first (map (bare (level 1)) rows) (bare (level 1) row) free
  moved = subst (λ rs. FreeVector (level 1) n first rs (bare (level 1) row) free) (rows_are normal tops first) found

  up_to : suc free ≤ n
  up_to = omega (arith, moved.ends.within)

  -- a vector ends at each column that is none of a pivot
  pivot_before : (j : ℕ) → first ≤ j → j < free → IsPivotColumn j steps.pivots
  pivot_before j a b = ⊎_elim (λ h. h) (λ m. absurd (ends m)) (decided j steps.pivots)
    where
      ends : ¬ (IsPivotColumn j steps.pivots) → ⊥
      ends m =
          let long = rows_long normal tops first count size in
          let e = ends_at_free W laws.ring (row_domain (level 1) laws domain n) n unit_some
          (pivot_rows_stand (level 1) laws domain polynomial_reduction polynomial_reduction_laws unit_some n rows long (suc free) up_to
          steps.ran.open_rows steps.pivots steps.ran.divisor run) j (omega arith) (omega (arith, b, moved.ends.within))
          (isnt_pivot (level 1) laws domain polynomial_reduction polynomial_reduction_laws unit_some n rows long (suc free) up_to
          steps.ran.open_rows steps.pivots steps.ran.divisor run j m) in
          let back = pivots_back (level 1) laws domain polynomial_reduction polynomial_reduction_laws unit_some n rows long (suc free) up_to
          steps.ran.open_rows steps.pivots steps.ran.divisor run e.vector (λ k c d. e.ends.later k (omega (arith, b, c)) d) e.kernel in
          moved.least j a b e.vector (kernel_down (level 1) laws.closed n rows e.vector (meant (level 1) e.vector) (λ k. refl) back)
          (ends_down (level 1) laws.closed n e.vector (meant (level 1) e.vector) j (λ k. refl) e.ends)

  pub first_free : IsFirstFree (coefficient_count bound + count) (coefficient_count bound) steps.pivots free
  first_free = record {
    free = record { within = moved.ends.within; free = steps.is_free };
    from = moved.from;
    before = pivot_before;
  }
