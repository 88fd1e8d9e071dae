-- When the search for the linear factors of a polynomial is in bounds.
use Rattle.std.specs.Prelude.{◌≡◌, ℕ, ◌≤◌, ◌^◌, ℤ, pos, ◌*ℤ◌, List, [], ◌∷◌, length, ⊤}
use Rattle.ring_laws.specs.Meaning.{Meaning, number, listed, items}
use Rattle.ring_laws.specs.Algebra.{Passing}
use Rattle.ring_laws.specs.Wholes.{number_of, whole_algebra}
use Rattle.poly_laws.specs.Lists.{coefficient_at}
use Rattle.poly_laws.specs.LongDivision.{DivisionInBounds}
use Rattle.poly_divide.specs.Forms.{linear}
use Rattle.whole_roots.specs.Differences.{polynomials, DifferencesInBounds}
use Rattle.whole_roots.specs.LinearFactors.{IsProfileForm, form_power, PowerDivides}

-- f_i * u^(degree - i) for each i
abbrev pub stretched_list : ℕ → List Meaning → List Meaning
stretched_list u [] = []
stretched_list u (x ∷ xs) = number (number_of x *ℤ pos (u ^ length xs)) ∷ stretched_list u xs

-- u^degree * f(n/u), of which a whole number w is a root where w/u is one of f
abbrev pub stretched : ℕ → Meaning → Meaning
stretched u f = listed (stretched_list u (items f))

-- as often as u*n + v is divided out of f, the next long division is in bounds, the one that fails too
abbrev pub DivisionsInBounds : ℕ → ℤ → Meaning → Type 0
DivisionsInBounds u v f =
    (e : ℕ) (quotient : Passing polynomials) → polynomials.ops.product quotient.0 (form_power u v e) ≡ f
    → DivisionInBounds whole_algebra (λ (x y : Meaning). ⊤) quotient.0 (linear (pos u) v)

-- each step of finding the linear factors of f is in bounds
pub record FactorsInBounds (f : Meaning) : Type 0 where
  -- for each slope each number f_i * u^(degree - i) fits
  pub numbers : (u : ℕ) → 1 ≤ u → u ≤ 4 → (k : ℕ) → whole_algebra.ops.Fits (coefficient_at whole_algebra.ops (stretched_list u (items f)) k)
  -- and so do the differences of their list
  pub differences : (u : ℕ) → 1 ≤ u → u ≤ 4 → DifferencesInBounds (stretched u f)
  -- and each division of f by one of its factors
  pub divisions : (u : ℕ) (v : ℤ) → IsProfileForm u v → PowerDivides u v 1 f → DivisionsInBounds u v f
