-- Key equations that are known from elsewhere, so that a wrong rule in specs/ does not check.
use Rattle.std.specs.Prelude.{◌≡◌, ℕ, pos, negsuc, List, [], ◌∷◌, Some, None, refl}
use Rattle.std.proofs.Common.{arith}
use Rattle.ring_laws.specs.Meaning.{Meaning, number, listed}
use Rattle.ring_laws.specs.Algebra.{Ops}
use Rattle.ring_laws.specs.Wholes.{whole_algebra}
use Rattle.kernel_laws.specs.Rows.{entry_at}
use Rattle.key_laws.specs.DegreeBounds.{IsDegreeBound}
use Rattle.key_laws.proofs.Degrees.{greatest_degree}
use Rattle.key_laws.proofs.FindingBounds.{bound_by_degrees, bound_by_both, one_lead}
use Rattle.key_laws.proofs.OneBound.{one_degree}
use Rattle.ring_laws.specs.WholeDomain.{whole_domain}
use Rattle.ring_laws.specs.WholeLaws.{whole_laws}
use Rattle.division_laws.specs.Polynomials.{Polynomial}
use Rattle.key_laws.specs.KeyEquation.{key_difference, combination, SolvesWith}
use Rattle.key_laws.specs.KeyRows.{key_rows, polynomial_of}

abbrev o : Ops Meaning
o = whole_algebra.ops

abbrev n : ℕ → Meaning
n m = number (pos m)

abbrev minus : ℕ → Meaning
minus m = number (negsuc m)

-- the sum of k, with q = r = 1 and the side k: Y(k+1) - Y(k) = a*k
abbrev one : Meaning
one = listed (n 1 ∷ [])

abbrev k : Meaning
k = listed (n 0 ∷ n 1 ∷ [])

-- with three coefficients of Y, rows for k^1 and k^0
known_rows : key_rows o one one 3 (k ∷ []) ≡ (n 0 ∷ n 0 ∷ n 2 ∷ minus 0 ∷ []) ∷ (n 0 ∷ n 1 ∷ n 1 ∷ n 0 ∷ []) ∷ []
known_rows = refl

-- Y = k^2 - k and a = 2
abbrev solution : List Meaning
solution = n 0 ∷ minus 0 ∷ n 1 ∷ n 2 ∷ []

known_solution : SolvesWith o one one (k ∷ []) (polynomial_of o 3 (entry_at o solution)) (λ j. entry_at o (n 2 ∷ []) j)
known_solution = refl

-- (k+1) Y(k+1) - k Y(k) for Y = k is 2k + 1
known_difference : key_difference o (listed (n 1 ∷ n 1 ∷ [])) k k ≡ listed (n 1 ∷ n 2 ∷ [])
known_difference = refl

-- 3*1 - 1*k
known_combination : combination o (λ j. entry_at o (n 3 ∷ minus 0 ∷ []) j) (one ∷ k ∷ []) ≡ listed (n 3 ∷ minus 0 ∷ [])
known_combination = refl

-- 1/k has the equation k Y(k+1) - k Y(k) = a, with one coefficient of Y the single row (0, -1)
known_row : key_rows o k k 1 (one ∷ []) ≡ (n 0 ∷ minus 0 ∷ []) ∷ []
known_row = refl

abbrev one_in : Polynomial whole_algebra
one_in = (one, refl)

abbrev k_in : Polynomial whole_algebra
k_in = (k, refl)

-- of the sum of k the leading coefficients agree: the bound is 2, one more than the degree of the side
known_bound : IsDegreeBound o one one (k ∷ []) (Some 2)
known_bound = record {
  degree = 0;
  is_degree = greatest_degree whole_algebra whole_laws (one_in ∷ one_in ∷ []) 0 refl;
  bounds = bound_by_both o one one (k ∷ []) 0 refl (one_lead whole_algebra whole_laws whole_domain one_in one_in 0 (λ e. cc)) (Some 2) (Some 0)
      (1, greatest_degree whole_algebra whole_laws (k_in ∷ []) 1 refl, refl) refl;
}

-- of the sum of k! they differ, (k+1) Y(k+1) - Y(k) = a, and there is no bound
known_none : IsDegreeBound o (listed (n 1 ∷ n 1 ∷ [])) one (one ∷ []) None
known_none = record {
  degree = 1;
  is_degree = greatest_degree whole_algebra whole_laws ((listed (n 1 ∷ n 1 ∷ []), refl) ∷ one_in ∷ []) 1 refl;
  bounds = bound_by_degrees o (listed (n 1 ∷ n 1 ∷ [])) one (one ∷ []) 1 (λ e. cc) None
      (λ d e g p. omega (arith, p, one_degree o (one ∷ []) d 0 g (greatest_degree whole_algebra whole_laws (one_in ∷ []) 0 refl)));
}
