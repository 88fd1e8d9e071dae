-- The coefficients of the shift of a polynomial by 1 are small where those of the polynomial are few and small.
use Rattle.std.proofs.Common.{◌≡◌, ℕ, zero, suc, ◌+◌, ◌*◌, ◌≤◌, ◌^◌, List, [], ◌∷◌, length, map, arith}
use Rattle.std.proofs.lemmas.Int.{ints}
use Rattle.std.specs.Prelude.{pos, ◌+ℤ◌, unsigned_abs}
use Rattle.ring_laws.specs.Meaning.{Meaning, number}
use Rattle.ring_laws.specs.Wholes.{whole_algebra, number_of}
use Rattle.poly_laws.specs.Lists.{list_sum}
use Rattle.poly_laws.specs.Shift.{raised_by, list_shift}
use Rattle.cert_checker.proofs.SmallCoefficients.{number_at, AreWithin, sum_at, once_at}

-- what is doubled so often
abbrev doubled : ℕ → ℕ → ℕ
doubled most zero = most
doubled most (suc n) = 2 * doubled most n

doubled_more : (most n m : ℕ) → n ≤ m → doubled most n ≤ doubled most m
doubled_more most zero zero h = omega arith
doubled_more most zero (suc m) h = omega (arith, doubled_more most zero m (omega arith))
doubled_more most (suc n) zero h = absurd (omega (arith, h))
doubled_more most (suc n) (suc m) h = omega (arith, doubled_more most n m (omega (arith, h)))

-- one step of the shift, by the coefficients of what it starts from
step_within : (most half : ℕ) (x : Meaning) (f : List Meaning) → unsigned_abs (number_of x) ≤ most
    → ((k : ℕ) → unsigned_abs (number_at f k) + most ≤ half)
    → (k : ℕ) → unsigned_abs (number_at (raised_by whole_algebra.ops (number (pos 1)) x f) k) + most ≤ 2 * half
step_within most half x f h below k = each k (whole k) (rest k) (once_at f k)
  where
    row : List Meaning
    row = list_sum whole_algebra.ops (map (whole_algebra.ops.product (number (pos 1))) f) (whole_algebra.ops.nought ∷ f)

    whole : (k : ℕ) → number_at (list_sum whole_algebra.ops (x ∷ []) row) k ≡ number_at (x ∷ []) k +ℤ number_at row k
    whole k = sum_at (x ∷ []) row k

    rest : (k : ℕ) → number_at row k ≡ number_at (map (whole_algebra.ops.product (number (pos 1))) f) k +ℤ number_at (whole_algebra.ops.nought ∷ f) k
    rest k = sum_at (map (whole_algebra.ops.product (number (pos 1))) f) (whole_algebra.ops.nought ∷ f) k

    each : (k : ℕ) → number_at (list_sum whole_algebra.ops (x ∷ []) row) k ≡ number_at (x ∷ []) k +ℤ number_at row k
        → number_at row k ≡ number_at (map (whole_algebra.ops.product (number (pos 1))) f) k +ℤ number_at (whole_algebra.ops.nought ∷ f) k
        → number_at (map (whole_algebra.ops.product (number (pos 1))) f) k ≡ number_at f k
        → unsigned_abs (number_at (list_sum whole_algebra.ops (x ∷ []) row) k) + most ≤ 2 * half
    each zero whole rest same = omega (arith, ints, whole, rest, same, h, below 0)
    each (suc k) whole rest same = omega (arith, ints, whole, rest, same, below (suc k), below k)

-- each step of the shift doubles the bound at most
shift_within : (most : ℕ) (xs : List Meaning) → AreWithin most xs
    → (k : ℕ) → unsigned_abs (number_at (list_shift whole_algebra.ops (number (pos 1)) xs) k) + most ≤ doubled most (length xs)
shift_within most [] h k = omega arith
shift_within most (x ∷ xs) h k =
    step_within most (doubled most (length xs)) x (list_shift whole_algebra.ops (number (pos 1)) xs) (h 0) (shift_within most xs (λ i. h (suc i))) k

-- so of at most six coefficients, each at most 2^31, the shift has coefficients of at most 2^37
pub few_shifted : (xs : List Meaning) → length xs ≤ 6 → AreWithin (2 ^ 31) xs → AreWithin (2 ^ 37) (list_shift whole_algebra.ops (number (pos 1)) xs)
few_shifted xs few h k = omega (arith, shift_within (2 ^ 31) xs h k, doubled_more (2 ^ 31) (length xs) 6 few)
