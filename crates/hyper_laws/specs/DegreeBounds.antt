-- A bound of the degrees of polynomials c with f_0(n) c(n) + f_1(n) c(n+1) + .. = 0 (A=B 8.3), by Q_j = sum C(i,j) f_i over i from j on:
-- the sum is that of Q_j times the j-th difference of c.
use Rattle.std.specs.Prelude.{◌≡◌, ℕ, zero, suc, ◌+◌, ◌<◌, ◌≤◌, ℤ, pos, negsuc, ◌+ℤ◌, ◌-ℤ◌, neg_ℤ, ◌≤ℤ◌, ◌⊎◌, Option, Some, None, List, [], ◌∷◌, length}
use Rattle.ring_laws.specs.Meaning.{Meaning, number, listed, items}
use Rattle.ring_laws.specs.Wholes.{number_of}
use Rattle.poly_laws.specs.Lists.{coefficient_at}
use Rattle.poly_laws.specs.Values.{level}
use Rattle.hyper_laws.specs.Recurrences.{value_at_n}

-- the binomial coefficient C(n,k)
abbrev pub choose : ℕ → ℕ → ℕ
choose n zero = 1
choose zero (suc k) = 0
choose (suc n) (suc k) = choose n k + choose n (suc k)

-- C(i,j) f_i + C(i+1,j) f_(i+1) + ..
abbrev pub binomial_sum : ℕ → ℕ → List Meaning → Meaning
binomial_sum j i [] = (level 1).ops.nought
binomial_sum j i (f ∷ fs) = (level 1).ops.sum ((level 1).ops.product ((level 1).ops.whole (pos (choose i j))) f) (binomial_sum j (suc i) fs)

-- Q_j, by which the sum over i of f_i(n) c(n+i) is the sum over j of Q_j times the j-th difference of c
abbrev pub difference_part : List Meaning → ℕ → Meaning
difference_part fs j = binomial_sum j 0 fs

-- the list of the coefficients ends at this power
abbrev pub HasDegree : Meaning → ℕ → Type 0
HasDegree f degree = length (items f) ≡ suc degree

-- t is the greatest of deg Q_j - j over the Q_j that aren't zero
pub record IsExcess (fs : List Meaning) (t : ℤ) : Type 0 where
  pub each : (j degree : ℕ) → j < length fs → HasDegree (difference_part fs j) degree → pos degree ≤ℤ (pos j +ℤ t)
  pub place : ℕ
  pub within : place < length fs
  pub degree : ℕ
  pub has : HasDegree (difference_part fs place) degree
  pub reached : pos degree ≡ pos place +ℤ t

-- the coefficient at a power, and 0 below the power 0
abbrev pub coefficient_in_n : Meaning → ℤ → ℤ
coefficient_in_n f (pos k) = number_of (coefficient_at (level 0).ops (items f) k)
coefficient_in_n f (negsuc k) = pos 0

-- x - i
abbrev pub less : ℕ → Meaning
less i = listed (number (neg_ℤ (pos i)) ∷ number (pos 1) ∷ [])

-- x (x-1) .. (x-j+1)
abbrev pub falling_polynomial : ℕ → Meaning
falling_polynomial zero = (level 1).ops.unit
falling_polynomial (suc j) = (level 1).ops.product (falling_polynomial j) (less j)

-- the sum over the first j of x (x-1) .. (x-j+1) times the coefficient of Q_j at n^(j+t): its leading one where j reaches t, and else 0
abbrev pub indicial_sum : List Meaning → ℤ → ℕ → Meaning
indicial_sum fs t zero = (level 1).ops.nought
indicial_sum fs t (suc j) =
    (level 1).ops.sum (indicial_sum fs t j)
    ((level 1).ops.product ((level 1).ops.whole (coefficient_in_n (difference_part fs j) (pos j +ℤ t))) (falling_polynomial j))

-- the indicial polynomial: its roots are the degrees at which the greatest powers of the sum can cancel
abbrev pub indicial_polynomial : List Meaning → ℤ → Meaning
indicial_polynomial fs t = indicial_sum fs t (length fs)

-- a number of at least 0 that is a root of the indicial polynomial, or -t-1
abbrev pub IsCandidate : List Meaning → ℤ → ℕ → Type 0
IsCandidate fs t degree = (value_at_n (indicial_polynomial fs t) (pos degree) ≡ pos 0) ⊎ (pos degree ≡ neg_ℤ t -ℤ pos 1)

-- the greatest candidate, or that there is none
abbrev pub IsGreatestCandidate : List Meaning → ℤ → Option ℕ → Type 0
IsGreatestCandidate fs t (Some bound) = IsCandidate fs t bound × ((degree : ℕ) → IsCandidate fs t degree → degree ≤ bound)
IsGreatestCandidate fs t None = (degree : ℕ) → ¬ (IsCandidate fs t degree)

-- the bound is the greatest candidate for the excess of the list
pub record IsDegreeBound (fs : List Meaning) (bound : Option ℕ) : Type 0 where
  pub excess : ℤ
  pub is_excess : IsExcess fs excess
  pub greatest : IsGreatestCandidate fs excess bound

-- the degree is at most the bound; where there is none, c is zero
abbrev pub IsWithinBound : Option ℕ → Meaning → Type 0
IsWithinBound (Some bound) c = length (items c) ≤ suc bound
IsWithinBound None c = c ≡ (level 1).ops.nought
