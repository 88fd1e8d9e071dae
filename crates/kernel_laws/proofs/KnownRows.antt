-- Rows, vectors and steps that are known from elsewhere, so that a wrong rule in specs/ does not check.
use Rattle.std.specs.Prelude.{◌≡◌, ℕ, zero, suc, ◌<◌, List, pos, negsuc, [], ◌∷◌, refl}
use Rattle.std.proofs.Common.{arith}
use Rattle.ring_laws.specs.Meaning.{Meaning, number}
use Rattle.ring_laws.specs.Algebra.{Ops}
use Rattle.ring_laws.specs.Wholes.{whole_algebra}
use Rattle.kernel_laws.specs.Rows.{entry_at, dot}
use Rattle.kernel_laws.specs.RowSteps.{cross, crossed}
use Rattle.kernel_laws.specs.Elimination.{crossed_at}
use Rattle.kernel_laws.specs.Kernels.{combined}
use Rattle.kernel_laws.specs.Answers.{Vector, meant, AreIndependent}
use Rattle.kernel_laws.specs.BackSubstitution.{unit_vector, times_vector}

abbrev o : Ops Meaning
o = whole_algebra.ops

-- 2*x + 3*y + z and 4*x + 5*y + 7*z, and the vector (-8, 5, 1) that both send to zero
abbrev first : List Meaning
first = number (pos 2) ∷ number (pos 3) ∷ number (pos 1) ∷ []

abbrev second : List Meaning
second = number (pos 4) ∷ number (pos 5) ∷ number (pos 7) ∷ []

abbrev vector : List Meaning
vector = number (negsuc 7) ∷ number (pos 5) ∷ number (pos 1) ∷ []

known_kernel : (times_vector whole_algebra 3 first vector ≡ number (pos 0)) × (dot o 3 second (entry_at o vector) ≡ number (pos 0))
known_kernel = (refl, refl)

-- of the first two columns alone the sum is -1
known_columns : dot o 2 first (entry_at o vector) ≡ number (negsuc 0)
known_columns = refl

-- 2*(4, 5, 7) - 4*(2, 3, 1) = (0, -2, 10), with the entries of column 0
known_crossing : (crossed o (number (pos 2)) second (number (pos 4)) first ≡ number (pos 0) ∷ number (negsuc 1) ∷ number (pos 10) ∷ [])
    × (crossed_at whole_algebra 0 first second ≡ number (pos 0) ∷ number (negsuc 1) ∷ number (pos 10) ∷ [])
known_crossing = (refl, refl)

known_cross : cross o (number (pos 2)) (number (pos 7)) (number (pos 4)) (number (pos 1)) ≡ number (pos 10)
known_cross = refl

known_unit : unit_vector o 3 1 ≡ number (pos 0) ∷ number (pos 1) ∷ number (pos 0) ∷ []
known_unit = refl

-- 3*(-8, 5, 1) + 2*(2, 3, 1) at column 1
known_combination : combined o (entry_at o (number (pos 3) ∷ number (pos 2) ∷ [])) (entry_at o vector ∷ entry_at o first ∷ []) 1 ≡ number (pos 21)
known_combination = refl

-- (2, 3, 1) and (4, 6, 2) are not independent: twice the first less the second is zero
known_dependent : ¬ (AreIndependent whole_algebra 3 (first ∷ (number (pos 4) ∷ number (pos 6) ∷ number (pos 2) ∷ []) ∷ []))
known_dependent h = two_isnt (h by zero_at 0 (omega arith))
  where
    by : Vector whole_algebra
    by zero = (number (pos 2), refl)
    by (suc k) = (number (negsuc 0), refl)

    zero_at : (k : ℕ) → k < 3 → combined o (meant whole_algebra by)
        (entry_at o first ∷ entry_at o (number (pos 4) ∷ number (pos 6) ∷ number (pos 2) ∷ []) ∷ []) k ≡ o.nought
    zero_at zero b = refl
    zero_at (suc zero) b = refl
    zero_at (suc (suc zero)) b = refl
    zero_at (suc (suc (suc k))) b = absurd (omega (arith, b))

    two_isnt : ¬ (number (pos 2) ≡ number (pos 0))
    two_isnt e = cc

-- past its end a row has zeros
known_end : entry_at o first 3 ≡ number (pos 0)
known_end = refl
