-- The greatest degree that a solution of the key equation can have, whatever the multipliers are (A=B chapter 5).
-- b stands for r(k-1).
use Rattle.std.specs.Prelude.{◌≡◌, ℕ, suc, ◌+◌, ◌<◌, ◌≤◌, pos, List, [], ◌∷◌, Option, Some, None}
use Rattle.std.specs.List.{AllByRecursion}
use Rattle.ring_laws.specs.Meaning.{Meaning}
use Rattle.ring_laws.specs.Algebra.{Ops}
use Rattle.division_laws.specs.Polynomials.{coefficient_of, coefficient_before}

-- each of the polynomials has a zero at the power
abbrev pub HaveZeros : Ops Meaning → List Meaning → ℕ → Type 0
HaveZeros o fs i = AllByRecursion (λ f. coefficient_of o f i ≡ o.nought) fs

-- the greatest power at which one of the polynomials has a coefficient that isn't zero
pub record IsGreatestDegree (o : Ops Meaning) (fs : List Meaning) (d : ℕ) : Type 0 where
  pub lead : ¬ HaveZeros o fs d
  pub above : (i : ℕ) → d < i → HaveZeros o fs i

-- the coefficients of k^m, the greatest power in q and b, are equal
abbrev pub Agree : Ops Meaning → (q b : Meaning) → ℕ → Type 0
Agree o q b m = coefficient_of o q m ≡ coefficient_of o b m

-- Where they differ, Y ends at the greatest degree d of the sides less m. Where both are L, it ends at d - m + 1, or at the whole number e
-- with e*L = B - A, for the coefficients A and B of q and b at k^(m-1).
pub data IsCandidate (o : Ops Meaning) (q b : Meaning) (sides : List Meaning) (m e : ℕ) : Type 0 where
  by_degrees : {d : ℕ} → ¬ Agree o q b m → IsGreatestDegree o sides d → e + m ≡ d → IsCandidate o q b sides m e
  one_above : {d : ℕ} → Agree o q b m → IsGreatestDegree o sides d → e + m ≡ suc d → IsCandidate o q b sides m e
  by_leads : Agree o q b m → o.product (o.whole (pos e)) (coefficient_of o q m) ≡ o.sum (coefficient_before o b m) (o.neg (coefficient_before o q m))
      → IsCandidate o q b sides m e

-- the greatest candidate, and none where there is none
pub data IsBoundAt (o : Ops Meaning) (q b : Meaning) (sides : List Meaning) (m : ℕ) : Option ℕ → Type 0 where
  greatest : {e : ℕ} → IsCandidate o q b sides m e → ((i : ℕ) → IsCandidate o q b sides m i → i ≤ e) → IsBoundAt o q b sides m (Some e)
  no_candidate : ((i : ℕ) → ¬ IsCandidate o q b sides m i) → IsBoundAt o q b sides m None

-- the greatest candidate for the greatest degree m of q and b
pub record IsDegreeBound (o : Ops Meaning) (q b : Meaning) (sides : List Meaning) (bound : Option ℕ) : Type 0 where
  pub degree : ℕ
  pub is_degree : IsGreatestDegree o (q ∷ b ∷ []) degree
  pub bounds : IsBoundAt o q b sides degree bound

-- how many coefficients a polynomial within the bound can have
abbrev pub coefficient_count : Option ℕ → ℕ
coefficient_count None = 0
coefficient_count (Some e) = suc e

-- the degree is at most the bound, and where there is no bound the polynomial is zero
abbrev pub IsWithin : Ops Meaning → Option ℕ → Meaning → Type 0
IsWithin o bound y = (i : ℕ) → coefficient_count bound ≤ i → coefficient_of o y i ≡ o.nought
