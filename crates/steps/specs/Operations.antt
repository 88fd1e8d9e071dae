-- An operation of the arithmetic, where it is done, and when it is in bounds.
use Rattle.std.specs.Prelude.{◌≡◌, ℕ, ◌^◌, ◌<◌, List, Any}
use Rattle.ring_laws.specs.Meaning.{Meaning}
use Rattle.poly_laws.specs.Values.{level}

-- The counterpart of an operation on magnitudes: each number replaced by its absolute value, each subtraction by an addition. That of a
-- fraction has a numerator and a denominator.
pub data Counterpart : Type 0 where
  of_number : ℕ → Counterpart
  of_polynomial : Meaning → Counterpart
  of_fraction : (top bottom : ℕ) → Counterpart

-- numbers below 2^127, and lists of at most 256 coefficients
abbrev pub IsInBounds : Counterpart → Type 0
IsInBounds (of_number size) = size < 2 ^ 127
IsInBounds (of_polynomial m) = (level 2).ops.Fits m
IsInBounds (of_fraction top bottom) = (top < 2 ^ 127) × (bottom < 2 ^ 127)

-- an operation at a place: at a node of a text, say, or at an order
pub record Operation (Place : Type 0) : Type 0 where
  pub place : Place
  pub counterpart : Counterpart

-- some operation at the place isn't in bounds
abbrev pub HasTooLarge : {P : Type 0} → List (Operation P) → P → Type 0
HasTooLarge operations at = Any (λ o. (o.place ≡ at) × ¬ IsInBounds o.counterpart) operations
