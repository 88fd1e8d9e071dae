-- The coefficients of lists of whole numbers: of sums, of magnitudes, of what is trimmed.
use Rattle.std.proofs.Common.{◌≡◌, ℕ, zero, suc, ◌≤◌, ◌^◌, List, [], ◌∷◌, map, refl, ◌∙◌, arith}
use Rattle.std.proofs.lemmas.Int.{ints, unsigned_abs-mul}
use Rattle.std.specs.Prelude.{ℤ, pos, negsuc, ◌+ℤ◌, ◌*ℤ◌, unsigned_abs}
use Rattle.ring_laws.specs.Meaning.{Meaning, number, several}
use Rattle.ring_laws.specs.Wholes.{whole_algebra, number_of}
use Rattle.poly_laws.specs.Lists.{coefficient_at, list_sum, in_front, trimmed}

-- the number of the coefficient at a power
abbrev pub number_at : List Meaning → ℕ → ℤ
number_at xs k = number_of (coefficient_at whole_algebra.ops xs k)

-- each coefficient is at most so large
abbrev pub AreWithin : ℕ → List Meaning → Type 0
AreWithin most xs = (k : ℕ) → unsigned_abs (number_at xs k) ≤ most

pub sum_at : (xs ys : List Meaning) (k : ℕ) → number_at (list_sum whole_algebra.ops xs ys) k ≡ number_at xs k +ℤ number_at ys k
sum_at [] ys k = omega (arith, ints)
sum_at (x ∷ xs) [] k = omega (arith, ints)
sum_at (x ∷ xs) (y ∷ ys) zero = refl
sum_at (x ∷ xs) (y ∷ ys) (suc k) = sum_at xs ys k

pub once_at : (xs : List Meaning) (k : ℕ) → number_at (map (whole_algebra.ops.product (number (pos 1))) xs) k ≡ number_at xs k
once_at [] k = refl
once_at (x ∷ xs) zero = omega (arith, ints)
once_at (x ∷ xs) (suc k) = once_at xs k

pub magnitude_at : (xs : List Meaning) (k : ℕ) → number_at (map whole_algebra.ops.magnitude xs) k ≡ pos (unsigned_abs (number_at xs k))
magnitude_at [] k = refl
magnitude_at (x ∷ xs) zero = refl
magnitude_at (x ∷ xs) (suc k) = magnitude_at xs k

in_front_at : (x : Meaning) (t : List Meaning) (k : ℕ) → number_at (in_front whole_algebra.ops x t) k ≡ number_at (x ∷ t) k
in_front_at (number (pos zero)) [] zero = refl
in_front_at (number (pos zero)) [] (suc k) = refl
in_front_at (number (pos (suc n))) [] k = refl
in_front_at (number (negsuc n)) [] k = refl
in_front_at (several xs) [] zero = refl
in_front_at (several xs) [] (suc k) = refl
in_front_at x (y ∷ ys) k = refl

pub trimmed_at : (xs : List Meaning) (k : ℕ) → number_at (trimmed whole_algebra.ops xs) k ≡ number_at xs k
trimmed_at [] k = refl
trimmed_at (x ∷ xs) zero = in_front_at x (trimmed whole_algebra.ops xs) 0
trimmed_at (x ∷ xs) (suc k) = in_front_at x (trimmed whole_algebra.ops xs) (suc k) ∙ trimmed_at xs k

pub scaled_within : (t : Meaning) (xs : List Meaning) → unsigned_abs (number_of t) ≤ 2 ^ 31 → AreWithin (2 ^ 31) xs
    → AreWithin (2 ^ 62) (map (whole_algebra.ops.product t) xs)
scaled_within t [] light small k = omega arith
scaled_within t (x ∷ xs) light small zero = light_product (number_of t) (number_of x) light (small 0)
  where
    light_product : (w z : ℤ) → unsigned_abs w ≤ 2 ^ 31 → unsigned_abs z ≤ 2 ^ 31 → unsigned_abs (w *ℤ z) ≤ 2 ^ 62
    light_product w z h k = grind (arith, unsigned_abs-mul)
scaled_within t (x ∷ xs) light small (suc k) = scaled_within t xs light (λ i. small (suc i)) k
