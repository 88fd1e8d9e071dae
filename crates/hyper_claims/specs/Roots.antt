-- The numbers z that are tried for a pair: the roots u/v of e_0 + e_1 z + .. + e_d z^d with v from 1 to 16 and u not 0, by rising value.
use Rattle.std.specs.Prelude.{◌≡◌, ℕ, ◌*ℤ◌, ◌<ℤ◌, unsigned_abs, List}
use Rattle.std.specs.Int.{◌∣◌}
use Rattle.ring_laws.specs.Meaning.{Meaning}
use Rattle.hypergeometric.specs.Fraction.{Fraction}
use Rattle.hyper_laws.specs.Cases.{IsInProfile, IsLeadRoot}
use Rattle.hyper_claims.specs.Orders.{AreAllInOrder}

-- no common divisor above 1
abbrev pub HaveNoCommonDivisor : Fraction → Type 0
HaveNoCommonDivisor z = (d : ℕ) → d ∣ unsigned_abs z.top → d ∣ unsigned_abs z.bottom → d ≡ 1

-- a root of the profile, in lowest terms, for the polynomials P_i and the greatest of their degrees
pub record IsProfileRoot (degree : ℕ) (fs : List Meaning) (z : Fraction) : Type 0 where
  pub profile : IsInProfile z
  pub lowest : HaveNoCommonDivisor z
  pub root : IsLeadRoot degree fs z

-- z is less than w, where both bottoms are above 0
abbrev pub IsLess : Fraction → Fraction → Type 0
IsLess z w = (z.top *ℤ w.bottom) <ℤ (w.top *ℤ z.bottom)

-- all roots of the profile, rising
abbrev pub AreProfileRoots : ℕ → List Meaning → List Fraction → Type 0
AreProfileRoots degree fs zs = AreAllInOrder IsLess (IsProfileRoot degree fs) zs
