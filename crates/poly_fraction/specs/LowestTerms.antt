-- Fractions of whole numbers in lowest terms.
use Rattle.std.specs.Prelude.{◌≡◌, ℕ, pos, ◌<ℤ◌, unsigned_abs}
use Rattle.std.specs.Int.{◌∣◌}
use Rattle.ring_laws.specs.Wholes.{number_of}
use Rattle.poly_fraction.specs.Fractions.{RingFraction}

-- a positive denominator, and no common divisor above 1
pub record IsInLowestTerms (f : RingFraction) : Type 0 where
  pub positive : pos 0 <ℤ number_of f.bottom
  pub coprime : (d : ℕ) → d ∣ unsigned_abs (number_of f.top) → d ∣ unsigned_abs (number_of f.bottom) → d ≡ 1
