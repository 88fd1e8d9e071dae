-- Runs of elimination and of back substitution over the whole numbers of which it is known whether each step is in bounds.
use Rattle.std.specs.Prelude.{◌≡◌, ℕ, zero, suc, ◌<◌, ◌≤◌, ◌^◌, ◌+◌, pos, List, [], ◌∷◌, ◌++◌, length, IsTrue, All, refl, ⊤}
use Rattle.std.specs.List.{AllZip}
use Rattle.std.proofs.Common.{ap, sym, subst, arith, lit<}
use Rattle.std.proofs.Math.Nat.{one-dvd}
use Rattle.std.proofs.lemmas.List.{length-append}
use Rattle.std.proofs.lemmas.List.Elements.{All-nil, All-cons}
use Rattle.std.proofs.lemmas.Nat.Gcd.{dvd_refl, dvd_of_mod-eq-zero}
use Rattle.ring_laws.specs.Meaning.{Meaning, number}
use Rattle.ring_laws.specs.Wholes.{is_zero, whole_algebra}
use Rattle.kernel_laws.specs.Pivots.{ArePivotColumns}
use Rattle.kernel_laws.specs.RowSteps.{CrossingInBounds}
use Rattle.kernel_laws.specs.Elimination.{Cleared, ClearingInBounds, Chosen, IsFree, Run, begin, pass, climb, RunInBounds}
use Rattle.reducing.specs.WholeRows.{WholeReduced, whole_reduction}
use Rattle.reducing.specs.Laws.OneWholeRow.{one_whole_row}
use Rattle.fraction_free.specs.RoundAnswers.{RoundInBounds}
use Rattle.fraction_free.proofs.KnownSteps.{Always, two, row_steps_in, clearing_out}

-- ---- one round
-- the rows (1, 2) and (2, 1), of which the first is the pivot row
round_in : RoundInBounds Always whole_algebra whole_reduction (number (pos 1)) 0 (two (pos 1) (pos 2) ∷ two (pos 2) (pos 1) ∷ []) 0
round_in [] after pivot e place = (
  subst (λ rest. All (ClearingInBounds Always whole_algebra whole_reduction (number (pos 1)) 0 pivot) rest) (tails e)
      (subst (λ p. All (ClearingInBounds Always whole_algebra whole_reduction (number (pos 1)) 0 p) (two (pos 2) (pos 1) ∷ [])) (heads e)
      (All-cons P (two (pos 2) (pos 1)) [] (λ some. row_steps_in) (All-nil P))),
  tt,
)
  where
    P : List Meaning → Type 0
    P = ClearingInBounds Always whole_algebra whole_reduction (number (pos 1)) 0 (two (pos 1) (pos 2))

    heads : {x y : List Meaning} {xs ys : List (List Meaning)} → x ∷ xs ≡ y ∷ ys → x ≡ y
    heads e = cc

    tails : {x y : List Meaning} {xs ys : List (List Meaning)} → x ∷ xs ≡ y ∷ ys → xs ≡ ys
    tails e = cc
round_in (x ∷ xs) after pivot e place = absurd (omega (arith, place))

-- the rows (1, 2^126) and (2, 1)
round_out : ¬ (RoundInBounds Always whole_algebra whole_reduction (number (pos 1)) 0 (two (pos 1) (pos (2 ^ 126)) ∷ two (pos 2) (pos 1) ∷ []) 0)
round_out h = clearing_out ((h [] (two (pos 2) (pos 1) ∷ []) (two (pos 1) (pos (2 ^ 126))) refl refl).0 0 [] (omega arith))

-- ---- a run that is in bounds: the rows (1, 2) and (2, 4), which both are (1, 2) once they are reduced
abbrev pub rows : List (List Meaning)
rows = two (pos 1) (pos 2) ∷ two (pos 2) (pos 4) ∷ []

abbrev pub pivot_row : List Meaning
pivot_row = two (pos 1) (pos 2)

pub first_reduced : WholeReduced (two (pos 1) (pos 2)) pivot_row
first_reduced = record {
  numbers = pos 1 ∷ pos 2 ∷ [];
  numbers_are = refl;
  content = 1;
  is_content = record { divides = (one-dvd 1, (one-dvd 2, tt)); greatest = λ d h. h.0 };
  quotients = pos 1 ∷ pos 2 ∷ [];
  quotients_are = refl;
  times = refl;
  zeros_stay = λ e. cc;
}

pub second_reduced : WholeReduced (two (pos 2) (pos 4)) pivot_row
second_reduced = record {
  numbers = pos 2 ∷ pos 4 ∷ [];
  numbers_are = refl;
  content = 2;
  is_content = record { divides = (dvd_refl 2, (dvd_of_mod-eq-zero 2 refl, tt)); greatest = λ d h. h.0 };
  quotients = pos 1 ∷ pos 2 ∷ [];
  quotients_are = refl;
  times = refl;
  zeros_stay = λ e. cc;
}

pub zeros_reduced : WholeReduced (two (pos 0) (pos 0)) (two (pos 0) (pos 0))
zeros_reduced = record {
  numbers = pos 0 ∷ pos 0 ∷ [];
  numbers_are = refl;
  content = 0;
  is_content = record { divides = (dvd_refl 0, (dvd_refl 0, tt)); greatest = λ d h. h.0 };
  quotients = pos 0 ∷ pos 0 ∷ [];
  quotients_are = refl;
  times = refl;
  zeros_stay = λ e. refl;
}

-- each open row of the start
start_rows : (open_rows : List (List Meaning)) → AllZip WholeReduced rows open_rows → open_rows ≡ pivot_row ∷ pivot_row ∷ []
start_rows [] h = absurd h
start_rows (x ∷ []) h = absurd h.1
start_rows (x ∷ y ∷ []) h =
    cc (one_whole_row (two (pos 1) (pos 2)) x pivot_row h.0 first_reduced, one_whole_row (two (pos 2) (pos 4)) y pivot_row h.1.0 second_reduced)
start_rows (x ∷ y ∷ z ∷ zs) h = absurd h.1.1

start : {j : ℕ} {open_rows : List (List Meaning)} {pivots : List (ℕ × List Meaning)} {t : Meaning}
    → Run whole_algebra whole_reduction rows j open_rows pivots t → j ≡ 0 → open_rows ≡ pivot_row ∷ pivot_row ∷ []
start (begin {open_rows} h) e = start_rows open_rows h
start (pass q h) e = absurd (omega (arith, e))
start (climb before after pivot plain q ch cs sp) e = absurd (omega (arith, e))

-- as many rows are open or pivot rows as there are rows
same_length : (R : List Meaning → List Meaning → Type 0) (xs ys : List (List Meaning)) → AllZip R xs ys → length ys ≡ length xs
same_length R [] [] h = refl
same_length R [] (y ∷ ys) h = absurd h
same_length R (x ∷ xs) [] h = absurd h
same_length R (x ∷ xs) (y ∷ ys) h = ap suc (same_length R xs ys h.1)

counted : {j : ℕ} {open_rows : List (List Meaning)} {pivots : List (ℕ × List Meaning)} {t : Meaning}
    → Run whole_algebra whole_reduction rows j open_rows pivots t → length open_rows + length pivots ≡ 2
counted (begin {open_rows} h) = omega (arith, ap length (start_rows open_rows h))
counted (pass q h) = counted q
counted (climb {j} {pivots} {t} before after pivot {news} plain q ch cs sp) =
    omega (
      arith,
      counted q,
      same_length (Cleared whole_algebra whole_reduction t j pivot) (before ++ after) news cs,
      length-append before (pivot ∷ after),
      length-append before after,
      length-append pivots ((j, pivot) ∷ []),
    )

-- the first column isn't free
not_free : ¬ (IsFree whole_algebra 0 (pivot_row ∷ pivot_row ∷ []))
not_free f = let zero : IsTrue (is_zero (pos 1)) = f 0 [] (omega arith) in cc

one_pivot : {j : ℕ} {open_rows : List (List Meaning)} {pivots : List (ℕ × List Meaning)} {t : Meaning}
    → Run whole_algebra whole_reduction rows j open_rows pivots t → j ≡ 1 → 1 ≤ length pivots
one_pivot (begin h) e = absurd (omega (arith, e))
one_pivot (pass {j} {open_rows} q h) e =
    let none : j ≡ 0 = omega (arith, e) in
    absurd (not_free (subst (λ i. IsFree whole_algebra i (pivot_row ∷ pivot_row ∷ [])) none (subst (IsFree whole_algebra j) (start q none) h)))
one_pivot (climb {j} {pivots} before after pivot plain q ch cs sp) e = omega (arith, length-append pivots ((j, pivot) ∷ []))

-- the pivot row and the other one are the same, and each step from there is in bounds
same_in : (t : Meaning) (pivot row : List Meaning) → pivot ≡ pivot_row → row ≡ pivot_row
    → ClearingInBounds Always whole_algebra whole_reduction t 0 pivot row
same_in t pivot row e f = subst (λ p. ClearingInBounds Always whole_algebra whole_reduction t 0 p row) (sym e)
    (subst (ClearingInBounds Always whole_algebra whole_reduction t 0 pivot_row) (sym f)
    (λ some. record { crossing = crossing; division = λ k b h. tt; reduction = λ middle h. tt }))
  where
    crossing : CrossingInBounds whole_algebra (number (pos 1)) pivot_row (number (pos 1)) pivot_row
    crossing zero b = lit< tt
    crossing (suc zero) b = lit< tt
    crossing (suc (suc k)) b = absurd (omega (arith, b))

same_rows_in : (t : Meaning) (before after : List (List Meaning)) (pivot : List Meaning) → before ++ pivot ∷ after ≡ pivot_row ∷ pivot_row ∷ []
    → All (ClearingInBounds Always whole_algebra whole_reduction t 0 pivot) (before ++ after)
same_rows_in t [] [] pivot e = cc
same_rows_in t [] (x ∷ []) pivot e =
    All-cons (ClearingInBounds Always whole_algebra whole_reduction t 0 pivot) x [] (same_in t pivot x (cc) (cc)) (All-nil _)
same_rows_in t [] (x ∷ y ∷ ys) pivot e = cc
same_rows_in t (x ∷ []) [] pivot e =
    All-cons (ClearingInBounds Always whole_algebra whole_reduction t 0 pivot) x [] (same_in t pivot x (cc) (cc)) (All-nil _)
same_rows_in t (x ∷ []) (y ∷ ys) pivot e = cc
same_rows_in t (x ∷ y ∷ ys) after pivot e = absurd (omega (arith, ap length e, length-append ys (pivot ∷ after)))

-- one open row has no other one beside it
alone_in : (P : List Meaning → Type 0) (before after : List (List Meaning)) → length (before ++ after) ≡ 0 → All P (before ++ after)
alone_in P before after e = λ i d b. absurd (omega (arith, b, e))

pub run_in : (first : ℕ) → RunInBounds Always whole_algebra whole_reduction 2 first rows
run_in first = record { reduction = λ i d b. tt; clearing = clearing }
  where
    clearing : (j : ℕ) (before after : List (List Meaning)) (pivot : List Meaning) (pivots : List (ℕ × List Meaning)) (t : Meaning)
        → j < 2 → ArePivotColumns first j pivots → Run whole_algebra whole_reduction rows j (before ++ pivot ∷ after) pivots t
        → Chosen whole_algebra whole_reduction j (before ++ pivot ∷ after) (length before)
        → All (ClearingInBounds Always whole_algebra whole_reduction t j pivot) (before ++ after) × ⊤
    clearing zero before after pivot pivots t b p q ch = (same_rows_in t before after pivot (start q refl), tt)
    clearing (suc zero) before after pivot pivots t b p q ch = (
      alone_in (ClearingInBounds Always whole_algebra whole_reduction t 1 pivot) before after
          (omega (arith, counted q, one_pivot q refl, length-append before (pivot ∷ after), length-append before after)),
      tt,
    )
    clearing (suc (suc j)) before after pivot pivots t b p q ch = absurd (omega (arith, b))
