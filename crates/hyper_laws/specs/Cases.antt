-- The cases of Hyper (A=B chapter 8): polynomials a and b, a fraction z, and the equation that a polynomial c has to solve.
use Rattle.std.specs.Prelude.{◌≡◌, ◌≢◌, ℕ, zero, suc, ◌<◌, ◌≤◌, ℤ, pos, ◌+ℤ◌, ◌*ℤ◌, List, [], ◌∷◌, length, get_or}
use Rattle.std.specs.List.{AllByRecursion}
use lib.IntN.{pow}
use Rattle.ring_laws.specs.Meaning.{Meaning, number, listed, items}
use Rattle.ring_laws.specs.Algebra.{Passing}
use Rattle.ring_laws.specs.Wholes.{number_of}
use Rattle.poly_laws.specs.Lists.{coefficient_at, trimmed}
use Rattle.poly_laws.specs.Values.{level}
use Rattle.hypergeometric.specs.Fraction.{Fraction}
use Rattle.hyper_laws.specs.PolynomialSolutions.{later, Solves}

-- a case: the quotient y(n+1)/y(n) of its solution is z a(n) c(n+1) / (b(n) c(n)), where z is top/bottom
pub record Case : Type 0 where
  pub a : Meaning
  pub b : Meaning
  pub z : Fraction

-- f(n+i) f(n+i+1) .., so many factors
abbrev pub shifted_product : Meaning → ℕ → ℕ → Meaning
shifted_product f i zero = (level 1).ops.unit
shifted_product f i (suc count) = (level 1).ops.product (later i f) (shifted_product f (suc i) count)

-- P_i(n) = p_i(n) * a(n) .. a(n+i-1) * b(n+i) .. b(n+d-1), where `more` is d - i
abbrev pub case_polynomial : Meaning → Meaning → ℕ → ℕ → Meaning → Meaning
case_polynomial a b i more p = (level 1).ops.product p ((level 1).ops.product (shifted_product a 0 i) (shifted_product b i more))

-- P_i, P_(i+1), .., P_d, from p_i, p_(i+1), .., p_d
abbrev pub case_polynomials : Meaning → Meaning → ℕ → List Meaning → List Meaning
case_polynomials a b i [] = []
case_polynomials a b i (p ∷ ps) = case_polynomial a b i (length ps) p ∷ case_polynomials a b (suc i) ps

-- u^i v^(d-i) f_i, .., u^d f_d, for z = u/v
abbrev pub weighted : Fraction → ℕ → List Meaning → List Meaning
weighted z i [] = []
weighted z i (f ∷ fs) = (level 1).ops.product ((level 1).ops.whole (pow z.top i *ℤ pow z.bottom (length fs))) f ∷ weighted z (suc i) fs

-- the coefficients of the equation: sum u^i v^(d-i) P_i(n) c(n+i) = 0
abbrev pub case_equation : List Meaning → Case → List Meaning
case_equation ps k = weighted k.z 0 (case_polynomials k.a k.b 0 ps)

-- no polynomial of any degree solves it but zero
abbrev pub IsBarren : List Meaning → Case → Type 0
IsBarren ps k = (c : Passing (level 1)) → Solves (case_equation ps k) c.0 → c.0 ≡ (level 1).ops.nought

-- the greatest degree of the polynomials, which aren't all zero
pub record IsGreatestDegree (fs : List Meaning) (degree : ℕ) : Type 0 where
  pub each : AllByRecursion (λ f. length (items f) ≤ suc degree) fs
  pub place : ℕ
  pub within : place < length fs
  pub reached : length (items (get_or fs place (level 1).ops.nought)) ≡ suc degree

-- e_i u^i v^(d-i) + .. + e_d u^d, where e_i is the coefficient of f_i at n^degree
abbrev pub lead_sum : ℕ → Fraction → ℕ → List Meaning → ℤ
lead_sum degree z i [] = pos 0
lead_sum degree z i (f ∷ fs) =
    number_of (coefficient_at (level 0).ops (items f) degree) *ℤ (pow z.top i *ℤ pow z.bottom (length fs)) +ℤ lead_sum degree z (suc i) fs

-- the coefficients e_0 v^d, e_1 v^(d-1), .., e_d of powers of u
abbrev pub lead_list : ℕ → ℤ → List Meaning → List Meaning
lead_list degree v [] = []
lead_list degree v (f ∷ fs) =
    number (number_of (coefficient_at (level 0).ops (items f) degree) *ℤ pow v (length fs)) ∷ lead_list degree v fs

-- the same, as a polynomial in u without zeros at its end
abbrev pub lead_polynomial : ℕ → ℤ → List Meaning → Meaning
lead_polynomial degree v fs = listed (trimmed (level 0).ops (lead_list degree v fs))

-- z solves e_0 + e_1 z + .. + e_d z^d = 0
abbrev pub IsLeadRoot : ℕ → List Meaning → Fraction → Type 0
IsLeadRoot degree fs z = lead_sum degree z 0 fs ≡ pos 0

-- the numbers z that are looked for: u/v, u not 0, v from 1 to 16
pub record IsInProfile (z : Fraction) : Type 0 where
  pub top : z.top ≢ pos 0
  pub bottom : ℕ
  pub bottom_is : z.bottom ≡ pos bottom
  pub from_one : 1 ≤ bottom
  pub to_sixteen : bottom ≤ 16

-- no number of the profile is a root for a and b
pub record HasNoRoot (ps : List Meaning) (a b : Meaning) : Type 0 where
  pub degree : ℕ
  pub greatest : IsGreatestDegree (case_polynomials a b 0 ps) degree
  pub none : (z : Fraction) → IsInProfile z → ¬ (IsLeadRoot degree (case_polynomials a b 0 ps) z)
