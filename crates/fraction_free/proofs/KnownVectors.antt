-- Vectors and bases over the whole numbers of which it is known whether each step that gives them is in bounds.
use Rattle.std.specs.Prelude.{◌≡◌, ℕ, zero, suc, ◌<◌, ℤ, pos, ◌*ℤ◌, List, [], ◌∷◌, IsTrue, refl}
use Rattle.std.proofs.Common.{ap, sym, subst, arith, lit<, inl}
use Rattle.std.proofs.lemmas.Int.{ints}
use Rattle.std.proofs.lemmas.List.Elements.{All-nil, All-cons}
use Rattle.ring_laws.specs.Meaning.{Meaning, number, several}
use Rattle.ring_laws.specs.Wholes.{is_number, whole_algebra}
use Rattle.ring_laws.specs.WholeLaws.{whole_laws}
use Rattle.ring_laws.specs.WholeDomain.{whole_domain}
use Rattle.kernel_laws.specs.Rows.{entry_at}
use Rattle.kernel_laws.specs.Pivots.{IsPivotColumn}
use Rattle.kernel_laws.specs.RowSteps.{HasQuotient, divided}
use Rattle.kernel_laws.specs.Elimination.{changes, Run, begin, pass, climb, Ran}
use Rattle.kernel_laws.specs.BackSubstitution.{Absorbed, quotient, multiple, AbsorbingInBounds, BackStepInBounds, BackRun, begin as first_vector, step, BackInBounds}
use Rattle.kernel_laws.specs.Answers.{IsFreeColumn, IsFirstFree, VectorInBounds, BasisInBounds}
use Rattle.kernel_laws.proofs.OneRun.{one_ran}
use Rattle.reducing.specs.WholeRows.{WholeSplit, whole_reduction}
use Rattle.reducing.specs.Laws.WholeReduction.{whole_reduction_laws}
use Rattle.fraction_free.proofs.KnownSteps.{Always, two}
use Rattle.fraction_free.proofs.KnownRuns.{rows, pivot_row, first_reduced, second_reduced, zeros_reduced, run_in}

-- 1 divides each number
by_one : (s : Meaning) → IsTrue (is_number s) → HasQuotient whole_algebra (number (pos 1)) s
by_one (number z) p = record { quotient = (number z, refl); is = ap number (times_one z) }
  where
    times_one : (z : ℤ) → z *ℤ pos 1 ≡ z
    times_one z = omega (arith, ints)
by_one (several xs) p = absurd (cc p)

-- what is left of a number is a number
rest_is : {t s rest : Meaning} {vector middle : List Meaning} → Absorbed whole_algebra t s vector rest middle → IsTrue (is_number s)
    → IsTrue (is_number rest)
rest_is (quotient q e) p = q.1
rest_is (multiple n) p = p

-- so 1 is absorbed without a product
absorbing_one : (t s : Meaning) (vector : List Meaning) → t ≡ number (pos 1) → IsTrue (is_number s)
    → AbsorbingInBounds Always whole_algebra t s vector
absorbing_one t s vector e p = record {
  division = tt;
  products = λ n k b. absurd (n (subst (λ d. HasQuotient whole_algebra d s) (sym e) (by_one s p)));
}

-- ---- a vector that is in bounds: with the pivot row (1, 2) the free column 1 has the vector (-2, 1)
back_step_in : BackStepInBounds Always whole_algebra whole_reduction 2 0 pivot_row (two (pos 0) (pos 1))
back_step_in = record {
  times = lit< tt;
  splitting = tt;
  core = λ plain core s. absorbing_one core _ _ s.core_is refl;
  plain = λ plain core rest middle s h. absorbing_one plain rest middle (plain_is plain core s) (rest_is h refl);
  reduction = λ plain core rest entry middle last s h k. tt;
}
  where
    plain_is : (plain core : Meaning) → WholeSplit (number (pos 1)) plain core → plain ≡ number (pos 1)
    plain_is plain core s = cc (s.plain_is, s.value_is)

begun : {pivots : List (ℕ × List Meaning)} {old : List Meaning} → BackRun whole_algebra whole_reduction 2 1 pivots old → pivots ≡ []
    → old ≡ two (pos 0) (pos 1)
begun first_vector e = refl
begun (step b s) e = cc

back_in : BackInBounds Always whole_algebra whole_reduction 2 1 ((0, pivot_row) ∷ [])
back_in = (tt, λ old run. subst (BackStepInBounds Always whole_algebra whole_reduction 2 0 pivot_row) (sym (begun run refl)) back_step_in)

-- the run of the rows (1, 2) and (2, 4): after column 0 the other row is zero, and column 1 is free
pub one_in_parts : WholeSplit (number (pos 1)) (number (pos 1)) (number (pos 1))
one_in_parts = record { value = pos 1; value_is = refl; plain_is = refl; core_is = refl }

after_one : Run whole_algebra whole_reduction rows 1 (two (pos 0) (pos 0) ∷ []) ((0, pivot_row) ∷ []) (number (pos 1))
after_one = climb [] (pivot_row ∷ []) pivot_row (number (pos 1)) (begin (first_reduced, (second_reduced, tt)))
    (record { within = omega arith; candidate = refl; least = λ k b h. omega arith; first = λ k b. absurd (omega (arith, b)) }) (
      changes refl (record {
        middle = (number (pos 0), refl) ∷ (number (pos 0), refl) ∷ [];
        divided = divided (two (pos 0) (pos 0)) (refl, (refl, tt));
        reduced = zeros_reduced;
      }),
      tt,
    ) one_in_parts

after_two : Run whole_algebra whole_reduction rows 2 (two (pos 0) (pos 0) ∷ []) ((0, pivot_row) ∷ []) (number (pos 1))
after_two = pass after_one (All-cons P (two (pos 0) (pos 0)) [] refl (All-nil P))
  where
    P : List Meaning → Type 0
    P row = IsTrue (whole_algebra.ops.is_nought (entry_at whole_algebra.ops row 1))

-- so the free column is 1
one_back : (free : ℕ) → free < 2 → ¬ (IsPivotColumn free ((0, pivot_row) ∷ []))
    → BackInBounds Always whole_algebra whole_reduction 2 free ((0, pivot_row) ∷ [])
one_back zero b n = absurd (n (inl refl))
one_back (suc zero) b n = back_in
one_back (suc (suc k)) b n = absurd (omega (arith, b))

pub vector_in : (first : ℕ) → VectorInBounds Always whole_algebra whole_reduction 2 first rows
vector_in first = record { run = run_in first; vector = vector }
  where
    one : (free : ℕ) → free < 2 → (pivots : List (ℕ × List Meaning)) → Ran whole_algebra whole_reduction (suc free) rows pivots
        → (0, pivot_row) ∷ [] ≡ pivots
    one zero b pivots h = one_ran whole_algebra whole_laws whole_domain whole_reduction whole_reduction_laws 1 rows ((0, pivot_row) ∷ []) pivots
        (record { open_rows = two (pos 0) (pos 0) ∷ []; divisor = number (pos 1); run = after_one }) h
    one (suc zero) b pivots h = one_ran whole_algebra whole_laws whole_domain whole_reduction whole_reduction_laws 2 rows ((0, pivot_row) ∷ []) pivots
        (record { open_rows = two (pos 0) (pos 0) ∷ []; divisor = number (pos 1); run = after_two }) h
    one (suc (suc k)) b pivots h = absurd (omega (arith, b))

    vector : (free : ℕ) (pivots : List (ℕ × List Meaning)) → Ran whole_algebra whole_reduction (suc free) rows pivots
        → IsFirstFree 2 first pivots free → BackInBounds Always whole_algebra whole_reduction 2 free pivots
    vector free pivots h f =
        let e = one free f.free.within pivots h in
        subst (BackInBounds Always whole_algebra whole_reduction 2 free) e
        (one_back free f.free.within (subst (λ ps. ¬ (IsPivotColumn free ps)) (sym e) f.free.free))

basis_in : BasisInBounds Always whole_algebra whole_reduction 2 rows
basis_in = record { run = run_in 2; vectors = vectors }
  where
    vectors : (column : ℕ) (pivots : List (ℕ × List Meaning)) → Ran whole_algebra whole_reduction 2 rows pivots → IsFreeColumn 2 pivots column
        → BackInBounds Always whole_algebra whole_reduction 2 column pivots
    vectors column pivots h f =
        let e = one_ran whole_algebra whole_laws whole_domain whole_reduction whole_reduction_laws 2 rows ((0, pivot_row) ∷ []) pivots
        (record { open_rows = two (pos 0) (pos 0) ∷ []; divisor = number (pos 1); run = after_two }) h in
        subst (BackInBounds Always whole_algebra whole_reduction 2 column) e
        (one_back column f.within (subst (λ ps. ¬ (IsPivotColumn column ps)) (sym e) f.free))
