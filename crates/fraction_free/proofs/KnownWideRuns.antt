-- Runs, vectors and bases over the whole numbers of which it is known that a step that gives them isn't in bounds.
use Rattle.std.specs.Prelude.{◌≡◌, ℕ, zero, suc, ◌<◌, ◌≤◌, ◌^◌, ℤ, pos, negsuc, ◌*ℤ◌, List, [], ◌∷◌, IsTrue, refl}
use Rattle.std.proofs.Common.{ap, arith, inl, inr}
use Rattle.std.proofs.Math.Nat.{one-dvd}
use Rattle.std.proofs.lemmas.Int.{ints}
use Rattle.std.proofs.lemmas.List.Elements.{All-nil}
use Rattle.ring_laws.specs.Meaning.{Meaning, number}
use Rattle.ring_laws.specs.Wholes.{number_of, whole_algebra}
use Rattle.kernel_laws.specs.Rows.{entry_at}
use Rattle.kernel_laws.specs.Pivots.{IsPivotColumn}
use Rattle.kernel_laws.specs.RowSteps.{HasQuotient}
use Rattle.kernel_laws.specs.Elimination.{stays, Run, begin, pass, climb, RunInBounds}
use Rattle.kernel_laws.specs.BackSubstitution.{quotient, multiple, BackStep, BackStepInBounds, begin as first_vector, step, BackInBounds}
use Rattle.kernel_laws.specs.Answers.{VectorInBounds, BasisInBounds}
use Rattle.reducing.specs.WholeRows.{WholeReduced, whole_reduction}
use Rattle.fraction_free.proofs.KnownSteps.{Always, two, too_large, clearing_out}
use Rattle.fraction_free.proofs.KnownVectors.{one_in_parts}

-- ---- the rows (1, 2^126) and (2, 1), of which the second is cleared at the first column
abbrev wide_rows : List (List Meaning)
wide_rows = two (pos 1) (pos (2 ^ 126)) ∷ two (pos 2) (pos 1) ∷ []

first_stays : WholeReduced (two (pos 1) (pos (2 ^ 126))) (two (pos 1) (pos (2 ^ 126)))
first_stays = record {
  numbers = pos 1 ∷ pos (2 ^ 126) ∷ [];
  numbers_are = refl;
  content = 1;
  is_content = record { divides = (one-dvd 1, (one-dvd (2 ^ 126), tt)); greatest = λ d h. h.0 };
  quotients = pos 1 ∷ pos (2 ^ 126) ∷ [];
  quotients_are = refl;
  times = refl;
  zeros_stay = λ e. cc;
}

second_stays : WholeReduced (two (pos 2) (pos 1)) (two (pos 2) (pos 1))
second_stays = record {
  numbers = pos 2 ∷ pos 1 ∷ [];
  numbers_are = refl;
  content = 1;
  is_content = record { divides = (one-dvd 2, (one-dvd 1, tt)); greatest = λ d h. h.1.0 };
  quotients = pos 2 ∷ pos 1 ∷ [];
  quotients_are = refl;
  times = refl;
  zeros_stay = λ e. cc;
}

run_out : (first : ℕ) → ¬ (RunInBounds Always whole_algebra whole_reduction 2 first wide_rows)
run_out first h = clearing_out ((h.clearing 0 [] (two (pos 2) (pos 1) ∷ []) (two (pos 1) (pos (2 ^ 126))) [] (number (pos 1)) (omega arith)
    (λ i b c. absurd (omega (arith, c))) (begin (first_stays, (second_stays, tt)))
    (record { within = omega arith; candidate = refl; least = λ k b c. omega arith; first = λ k b c. absurd (omega (arith, b)) })).0 0 []
    (omega arith))

-- ---- the rows (1, 0, 2^126) and (0, 2, 1) stay, and at the free column 2 the second gives (0, -1, 2), whose product with the first is 2*2^126
abbrev three : ℤ → ℤ → ℤ → List Meaning
three x y z = number x ∷ number y ∷ number z ∷ []

abbrev wide_row : List Meaning
wide_row = three (pos 1) (pos 0) (pos (2 ^ 126))

abbrev last_row : List Meaning
last_row = three (pos 0) (pos 2) (pos 1)

abbrev wide_pivots : List (ℕ × List Meaning)
wide_pivots = (0, wide_row) ∷ (1, last_row) ∷ []

wide_reduced : WholeReduced wide_row wide_row
wide_reduced = record {
  numbers = pos 1 ∷ pos 0 ∷ pos (2 ^ 126) ∷ [];
  numbers_are = refl;
  content = 1;
  is_content = record { divides = (one-dvd 1, (one-dvd 0, (one-dvd (2 ^ 126), tt))); greatest = λ d h. h.0 };
  quotients = pos 1 ∷ pos 0 ∷ pos (2 ^ 126) ∷ [];
  quotients_are = refl;
  times = refl;
  zeros_stay = λ e. cc;
}

last_reduced : WholeReduced last_row last_row
last_reduced = record {
  numbers = pos 0 ∷ pos 2 ∷ pos 1 ∷ [];
  numbers_are = refl;
  content = 1;
  is_content = record { divides = (one-dvd 0, (one-dvd 2, (one-dvd 1, tt))); greatest = λ d h. h.1.1.0 };
  quotients = pos 0 ∷ pos 2 ∷ pos 1 ∷ [];
  quotients_are = refl;
  times = refl;
  zeros_stay = λ e. cc;
}

vector_reduced : WholeReduced (three (pos 0) (negsuc 0) (pos 2)) (three (pos 0) (negsuc 0) (pos 2))
vector_reduced = record {
  numbers = pos 0 ∷ negsuc 0 ∷ pos 2 ∷ [];
  numbers_are = refl;
  content = 1;
  is_content = record { divides = (one-dvd 0, (one-dvd 1, (one-dvd 2, tt))); greatest = λ d h. h.1.0 };
  quotients = pos 0 ∷ negsuc 0 ∷ pos 2 ∷ [];
  quotients_are = refl;
  times = refl;
  zeros_stay = λ e. cc;
}

wide_run : Run whole_algebra whole_reduction (wide_row ∷ last_row ∷ []) 3 [] wide_pivots (number (pos 1))
wide_run = pass (climb [] [] last_row (number (pos 2))
    (climb [] (last_row ∷ []) wide_row (number (pos 1)) (begin (wide_reduced, (last_reduced, tt)))
    (record { within = omega arith; candidate = refl; least = λ k b h. omega arith; first = λ k b. absurd (omega (arith, b)) })
    (stays refl, tt) one_in_parts)
    (record { within = omega arith; candidate = refl; least = λ k b h. omega arith; first = λ k b. absurd (omega (arith, b)) })
    tt (record { value = pos 2; value_is = refl; plain_is = refl; core_is = refl }))
    (All-nil (λ row. IsTrue (whole_algebra.ops.is_nought (entry_at whole_algebra.ops row 2))))

minus_one_is_odd : ¬ (HasQuotient whole_algebra (number (pos 2)) (number (negsuc 0)))
minus_one_is_odd h = odd (number_of h.quotient.0) (ap number_of h.is)
  where
    odd : (z : ℤ) → ¬ (z *ℤ pos 2 ≡ negsuc 0)
    odd z e = omega (arith, ints, e)

last_step : BackStep whole_algebra whole_reduction 3 1 last_row (three (pos 0) (pos 0) (pos 1)) (three (pos 0) (negsuc 0) (pos 2))
last_step = record {
  plain = number (pos 2);
  core = number (pos 1);
  split = record { value = pos 2; value_is = refl; plain_is = refl; core_is = refl };
  rest = number (negsuc 0);
  middle = three (pos 0) (pos 0) (pos 1);
  by_core = quotient (number (negsuc 0), refl) refl;
  entry = number (negsuc 0);
  last = three (pos 0) (pos 0) (pos 2);
  by_plain = multiple minus_one_is_odd;
  reduced = vector_reduced;
}

back_step_out : ¬ (BackStepInBounds Always whole_algebra whole_reduction 3 0 wide_row (three (pos 0) (negsuc 0) (pos 2)))
back_step_out h = too_large h.times

back_out : ¬ (BackInBounds Always whole_algebra whole_reduction 3 2 wide_pivots)
back_out h = back_step_out (h.1 (three (pos 0) (negsuc 0) (pos 2)) (step first_vector last_step))

is_free : ¬ (IsPivotColumn 2 wide_pivots)
is_free (inl e) = omega (arith, e)
is_free (inr (inl e)) = omega (arith, e)
is_free (inr (inr e)) = absurd e

vector_out : ¬ (VectorInBounds Always whole_algebra whole_reduction 3 0 (wide_row ∷ last_row ∷ []))
vector_out h = back_out (h.vector 2 wide_pivots (record { open_rows = []; divisor = number (pos 1); run = wide_run })
    (record { free = record { within = omega arith; free = is_free }; from = omega arith; before = before }))
  where
    before : (i : ℕ) → 0 ≤ i → i < 2 → IsPivotColumn i wide_pivots
    before zero a b = inl refl
    before (suc zero) a b = inr (inl refl)
    before (suc (suc i)) a b = absurd (omega (arith, b))

basis_out : ¬ (BasisInBounds Always whole_algebra whole_reduction 3 (wide_row ∷ last_row ∷ []))
basis_out h = back_out (h.vectors 2 wide_pivots (record { open_rows = []; divisor = number (pos 1); run = wide_run })
    (record { within = omega arith; free = is_free }))
