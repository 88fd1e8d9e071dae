-- Over the polynomials in n: nothing common divides the multipliers and Y.
use Rattle.std.specs.Prelude.{ℕ, ◌<◌, ℤ, pos}
use Rattle.ring_laws.specs.Meaning.{Meaning}
use Rattle.poly_laws.specs.Values.{level}
use Rattle.key_laws.specs.CommonDivisors.{IsCommonDivisor}
use Rattle.poly_divide.specs.Forms.{linear}
use Rattle.whole_roots.specs.LinearFactors.{IsProfileForm}

-- no whole number above 1 and no form u*n + v, with u from 1 to 4 and prime to v, divides each multiplier and each coefficient of Y
pub record IsReduced (count : ℕ) (multipliers : ℕ → Meaning) (y : Meaning) : Type 0 where
  pub numbers : (c : ℕ) → 1 < c → ¬ (IsCommonDivisor (level 1) count multipliers y ((level 1).ops.whole (pos c)))
  pub forms : (u : ℕ) (v : ℤ) → IsProfileForm u v → ¬ (IsCommonDivisor (level 1) count multipliers y (linear (pos u) v))
