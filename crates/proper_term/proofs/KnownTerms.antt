-- Values of the definitions that are worked out by hand.
use Rattle.std.proofs.Common.{◌≡◌, refl, List, [], ◌∷◌, Some, None}
use Rattle.std.specs.Prelude.{pos, negsuc}
use Rattle.ring_laws.specs.Meaning.{Meaning, number, listed}
use Rattle.hypergeometric.specs.Point.{point}
use Rattle.hypergeometric.specs.LinearForm.{LinearForm}
use Rattle.hypergeometric.specs.Forms.{form_with}
use Rattle.hypergeometric.specs.FactorLists.{factor_with}
use Rattle.hypergeometric.specs.NaturalRange.{natural_range}
use Rattle.proper_term.specs.Cancelled.{Argument, arguments_at, left_over, quotient, quotients}
use Rattle.proper_term.specs.Fields.{number_fraction}
use Rattle.proper_term.specs.ValueBounds.{size_at, base_power, divisors}

-- the forms k, n - k and n
abbrev form_k : LinearForm
form_k = form_with (pos 0) (pos 1) (pos 0)

abbrev form_other : LinearForm
form_other = form_with (pos 1) (negsuc 0) (pos 0)

abbrev form_n : LinearForm
form_n = form_with (pos 1) (pos 0) (pos 0)

-- the arguments of the binomial coefficient at (5, 2)
abbrev above : List Argument
above = arguments_at (point (pos 5) (pos 2)) (factor_with form_n 1 ∷ [])

abbrev below : List Argument
below = arguments_at (point (pos 5) (pos 2)) (factor_with form_k 1 ∷ factor_with form_other 1 ∷ [])

-- 5!/(2! * 3!): 4 * 5 are left above and 2 below, in pairs 4/2 and 5/1
pub binomial_left : (left_over above below ≡ 4 ∷ 5 ∷ []) × (left_over below above ≡ 2 ∷ [])
binomial_left = (refl, refl)

pub pairs : quotients (left_over above below) (left_over below above) ≡ quotient 4 2 ∷ quotient 5 1 ∷ []
pairs = refl

-- 3!^2 / 4!: 2 * 3 are left above and 4 below
pub powers_left : (left_over (record { number = 3; power = 2 } ∷ []) (record { number = 4; power = 1 } ∷ []) ≡ 2 ∷ 3 ∷ [])
    × (left_over (record { number = 4; power = 1 } ∷ []) (record { number = 3; power = 2 } ∷ []) ≡ 4 ∷ [])
powers_left = (refl, refl)

-- 0 <= k <= n, whichever form comes first, and none without both
pub ranges : (natural_range (factor_with form_k 1 ∷ factor_with form_other 1 ∷ []) ≡ Some (
  form_with (pos 0) (pos 0) (pos 0),
  form_with (pos 1)
      (pos 0) (pos 0),
))
    × (natural_range (factor_with (form_with (pos 2) (pos 1) (pos 3)) 1 ∷ factor_with form_k 1 ∷ factor_with form_other 1 ∷ [])
    ≡ Some (form_with (negsuc 1) (pos 0) (negsuc 2), form_with (pos 1) (pos 0) (pos 0))) × (natural_range (factor_with form_k 1 ∷ []) ≡ None)
ranges = (refl, refl, refl)

-- 1 - 2n + 3nk at (-2, -5) has the size 1 + 4 + 30
abbrev poly : Meaning
poly = listed (listed (number (pos 1) ∷ number (negsuc 1) ∷ []) ∷ listed (number (pos 0) ∷ number (pos 3) ∷ []) ∷ [])

pub size : size_at (point (negsuc 1) (negsuc 4)) poly ≡ 35
size = refl

-- (2/-3)^-2 is 9/4, and (-2)^3 is -8
pub base_powers : (base_power (number_fraction (pos 2) (negsuc 2)) (negsuc 1) ≡ number_fraction (pos 9) (pos 4))
    × (base_power (number_fraction (negsuc 1) (pos 1)) (pos 3) ≡ number_fraction (negsuc 7) (pos 1))
base_powers = (refl, refl)

-- 1/(n - k)^2 at (1, 4)
pub divisors_of : divisors (factor_with form_other 2 ∷ []) (point (pos 1) (pos 4))
    ≡ number_fraction (pos 1) (negsuc 2) ∷ number_fraction (pos 1) (negsuc 2) ∷ []
divisors_of = refl
