-- The claim of the sum of k^2 passes each test, and wrong claims don't, so that a wrong test does not check.
use Rattle.std.proofs.Common.{◌≡◌, refl}
use Rattle.std.specs.Prelude.{ℤ, pos, negsuc, [], ◌∷◌}
use Rattle.ring_laws.specs.Meaning.{Meaning, number, listed}
use Rattle.cert_text.specs.Readable.{Contents, contents}
use Rattle.cert_checker.specs.Checks.{difference, HasCarrier, HasMultiplier, HasEquation, IsFirstFailed}
use Rattle.cert_checker.specs.declared.verdicts.Reason.TheVariants.{Carrier, Zero, Equation}

-- k^2, and 2*k^3-3*k^2+k
abbrev square : Meaning
square = listed (number (pos 0) ∷ number (pos 0) ∷ number (pos 1) ∷ [])

abbrev sums : Meaning
sums = listed (number (pos 0) ∷ number (pos 1) ∷ number (negsuc 2) ∷ number (pos 2) ∷ [])

-- the claim with this multiplier and this scale of the carrier
abbrev claim : ℤ → ℤ → Contents
claim multiplier carrier_scale = contents square (pos 1) multiplier carrier_scale sums

-- 6*k^2 is the difference
six_squares : difference (claim (pos 6) (pos 1)) ≡ listed (number (pos 0) ∷ number (pos 0) ∷ number (pos 6) ∷ [])
six_squares = refl

passes : HasCarrier (claim (pos 6) (pos 1)) × HasMultiplier (claim (pos 6) (pos 1)) × HasEquation (claim (pos 6) (pos 1))
passes = (refl, (λ e. cc), refl)

-- 5*k^2 isn't
five : IsFirstFailed (claim (pos 5) (pos 1)) Equation
five = (refl, (λ e. cc), λ e. cc)

-- the multiplier 0, and another scale
zero : IsFirstFailed (contents square (pos 1) (pos 0) (pos 1) (listed [])) Zero
zero = (refl, λ some. some refl)

carrier : IsFirstFailed (claim (pos 6) (pos 2)) Carrier
carrier e = cc
