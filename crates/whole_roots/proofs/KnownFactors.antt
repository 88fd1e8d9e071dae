-- Linear factors that are known from elsewhere, so that a wrong rule in specs/ does not check.
use Rattle.std.specs.Prelude.{◌≡◌, ℕ, zero, suc, ◌^◌, ◌<◌, ◌≤◌, pos, negsuc, [], ◌∷◌, refl}
use Rattle.std.proofs.Common.{inl, arith, lit<}
use Rattle.std.proofs.Math.Nat.{dvd-mul_left, eq-one_of_dvd-one}
use Rattle.std.proofs.lemmas.Nat.Gcd.{dvd_refl}
use Rattle.ring_laws.specs.Meaning.{Meaning, number, listed}
use Rattle.ring_laws.specs.Wholes.{whole_algebra}
use Rattle.ring_laws.specs.declared.wholes.Whole.{Whole}
use Rattle.poly_laws.specs.Lists.{coefficient_at}
use Rattle.poly_divide.specs.Forms.{linear}
use Rattle.whole_roots.specs.FactorBounds.{stretched, stretched_list, FactorsInBounds}
use Rattle.whole_roots.specs.LinearFactors.{IsProfileForm, form_power, PowerDivides, IsRisingByForm}
use Rattle.whole_roots.specs.Roots.{IsRoot}
use Rattle.whole_roots.proofs.FactorLeads.{slope_divides}

-- 4*n^3 + 16*n^2 + 13*n + 3
abbrev cubic : Meaning
cubic = listed (number (pos 3) ∷ number (pos 13) ∷ number (pos 16) ∷ number (pos 4) ∷ [])

-- (2*n + 1)^2
known_power : form_power 2 (pos 1) 2 ≡ listed (number (pos 1) ∷ number (pos 4) ∷ number (pos 4) ∷ [])
known_power = refl

-- times n + 3 it is the polynomial
known_factors : PowerDivides 1 (pos 3) 1 cubic × PowerDivides 2 (pos 1) 2 cubic
known_factors = (
  record { quotient = (listed (number (pos 1) ∷ number (pos 4) ∷ number (pos 4) ∷ []), refl); is = refl },
  record { quotient = (linear (pos 1) (pos 3), refl); is = refl },
)

-- 2*n + 1 is a form of the profile; 2*n + 4 and 5*n + 1 aren't
known_profile : IsProfileForm 2 (pos 1) × (¬ (IsProfileForm 2 (pos 4)) × ¬ (IsProfileForm 5 (pos 1)))
known_profile = (
  record { from_one = omega arith; to_four = omega arith; coprime = λ d p q. eq-one_of_dvd-one q },
  (
    λ h. absurd (omega (arith, h.coprime 2 (dvd_refl 2) (dvd-mul_left 2 2))),
    λ h. absurd (omega (arith, h.to_four)),
  ),
)

-- n + 3 comes before 2*n + 1
known_order : IsRisingByForm (((1, pos 3), 1) ∷ ((2, pos 1), 2) ∷ [])
known_order = ((inl (omega arith), tt), (tt, tt))

-- stretched by 2 it is 4*n^3 + 32*n^2 + 52*n + 24, with the roots -6 and -1
known_stretched : (stretched 2 cubic ≡ listed (number (pos 24) ∷ number (pos 52) ∷ number (pos 32) ∷ number (pos 4) ∷ []))
    × ((IsRoot (stretched 2 cubic) (negsuc 5) ≡ (pos 0 ≡ pos 0)) × (IsRoot (stretched 2 cubic) (negsuc 0) ≡ (pos 0 ≡ pos 0)))
known_stretched = (refl, (refl, refl))

-- stretched by 4 the constant of n + 2^126 passes 127 bits
factors_out : ¬ (FactorsInBounds (linear (pos 1) (pos (2 ^ 126))))
factors_out h = let passed : 2 ^ 128 < 2 ^ 127 = h.numbers 4 (omega arith) (omega arith) 0 in omega (arith, passed)

-- 7 stays as it is, and has no differences and no factors
abbrev seven : Whole
seven = record { value = pos 7; small = lit< tt }

seven_stays : (u : ℕ) → 1 ≤ u → u ≤ 4 → (k : ℕ) → whole_algebra.ops.Fits (coefficient_at whole_algebra.ops (stretched_list u (number (pos 7) ∷ [])) k)
seven_stays zero from to k = absurd (omega (arith, from))
seven_stays (suc zero) from to zero = lit< tt
seven_stays (suc zero) from to (suc k) = lit< tt
seven_stays (suc (suc zero)) from to zero = lit< tt
seven_stays (suc (suc zero)) from to (suc k) = lit< tt
seven_stays (suc (suc (suc zero))) from to zero = lit< tt
seven_stays (suc (suc (suc zero))) from to (suc k) = lit< tt
seven_stays (suc (suc (suc (suc zero)))) from to zero = lit< tt
seven_stays (suc (suc (suc (suc zero)))) from to (suc k) = lit< tt
seven_stays (suc (suc (suc (suc (suc u))))) from to k = absurd (omega (arith, to))

factors_in : FactorsInBounds (listed (number (pos 7) ∷ []))
factors_in = record {
  numbers = seven_stays;
  differences = λ u from to j below. absurd (omega (arith, below));
  divisions = λ u v form divides. absurd (omega (arith, (slope_divides u v form.from_one (seven ∷ []) refl (λ e. cc) divides).long));
}
