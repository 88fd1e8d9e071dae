-- What every proper term of the program keeps: the bounds of its numbers, polynomials and forms, fractions in lowest terms; and
-- what a term besides keeps that is no carrier.
use Rattle.std.specs.Prelude.{◌≡◌, ◌≢◌, ℕ, ◌+◌, ◌*◌, ◌^◌, ◌≤◌, ◌<◌, IsTrue, ℤ, pos, ◌<ℤ◌, unsigned_abs, List, [], ◌∷◌}
use Rattle.std.specs.Int.{◌∣◌}
use Rattle.std.specs.List.{AllByRecursion}
use Rattle.ring_laws.specs.Meaning.{Meaning}
use Rattle.poly_laws.specs.Values.{level}
use Rattle.hypergeometric.specs.Fraction.{Fraction}
use Rattle.hypergeometric.specs.LinearForm.{LinearForm, Factor}
use Rattle.hypergeometric.specs.FormOrder.{IsPrimitive, AreFactors}
use Rattle.hypergeometric.specs.ProperTerm.{ProperTerm}

-- a number below 2^127 in magnitude
abbrev pub IsNumber : ℤ → Type 0
IsNumber z = unsigned_abs z < 2 ^ 127

-- a polynomial with so many variables: trimmed lists of at most 256 coefficients, numbers below 2^127 in magnitude
pub record IsPolynomial (variables : ℕ) (p : Meaning) : Type 0 where
  pub passes : IsTrue ((level variables).passes p)
  pub fits : (level variables).ops.Fits p

-- a fraction in lowest terms with a positive denominator, other than 0
pub record IsLowest (f : Fraction) : Type 0 where
  pub top : IsNumber f.top
  pub bottom : IsNumber f.bottom
  pub not_zero : f.top ≢ pos 0
  pub positive : pos 0 <ℤ f.bottom
  pub coprime : (d : ℕ) → d ∣ unsigned_abs f.top → d ∣ unsigned_abs f.bottom → d ≡ 1

-- the limits on the arguments of a term's factorials and on its denominators
pub record IsWithinLimits (f : LinearForm) : Type 0 where
  pub n_slope : unsigned_abs f.n_slope ≤ 8
  pub k_slope : unsigned_abs f.k_slope ≤ 8
  pub offset : unsigned_abs f.offset ≤ 1000000

-- the number of factors of a list, each as often as its power says
abbrev pub total_power : List Factor → ℕ
total_power [] = 0
total_power (x ∷ xs) = x.power + total_power xs

-- n and k don't both have the slope 0
abbrev pub IsNotConstant : LinearForm → Type 0
IsNotConstant f = ¬ ((f.n_slope ≡ pos 0) × (f.k_slope ≡ pos 0))

-- what every proper term keeps, a carrier included: nothing is 0, fractions are in lowest terms, the forms of over are primitive
pub record IsProper (f : ProperTerm) : Type 0 where
  pub poly : IsPolynomial 2 f.poly
  pub poly_not_zero : f.poly ≢ (level 2).ops.nought
  pub scale : IsLowest f.scale
  pub n_base : IsLowest f.n_base
  pub k_base : IsLowest f.k_base
  pub up : AreFactors f.up
  pub down : AreFactors f.down
  pub over : AreFactors f.over
  pub over_primitive : AllByRecursion (λ x. IsPrimitive x.form × IsNotConstant x.form) f.over
  pub guard : AreFactors f.guard

-- the form of every factor is within the limits of a term: slopes of at most 8, an offset of at most 1000000 in magnitude
abbrev pub AllWithinLimits : List Factor → Type 0
AllWithinLimits xs = AllByRecursion (λ x. IsWithinLimits x.form) xs

-- what a term besides keeps: no form both above and below, all forms within the limits, at most 24 factors before cancelling
pub record IsPlain (f : ProperTerm) : Type 0 where
  pub proper : IsProper f
  pub cancelled : AllByRecursion (λ x. AllByRecursion (λ y. y.form ≢ x.form) f.down) f.up
  pub up : AllWithinLimits f.up
  pub down : AllWithinLimits f.down
  pub over : AllWithinLimits f.over
  pub guard : AllWithinLimits f.guard
  pub few : total_power f.up + total_power f.down + total_power f.over + 2 * total_power f.guard ≤ 24
