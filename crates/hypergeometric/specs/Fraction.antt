-- Fractions of whole numbers, and what it is for two of them to be equal. A fraction with the bottom 0 stands for a value that
-- is not defined: sums and products with it have the bottom 0 too.
use Rattle.std.specs.Prelude.{◌≡◌, ◌≢◌, ℕ, zero, suc, ℤ, pos, negsuc, ◌+ℤ◌, ◌*ℤ◌, neg_ℤ}

-- a whole number over a whole number, in any terms; the bottom 0 stands for a value that is not defined
pub record Fraction : Type 0 where
  pub top : ℤ
  pub bottom : ℤ

-- the fraction is defined: its bottom isn't 0
abbrev pub IsDefined : Fraction → Type 0
IsDefined f = f.bottom ≢ pos 0

-- both are defined, and stand for one value
pub record AreEqual (f g : Fraction) : Type 0 where
  pub left_defined : IsDefined f
  pub right_defined : IsDefined g
  pub cross : f.top *ℤ g.bottom ≡ g.top *ℤ f.bottom

infix 4 ◌≈◌
-- both fractions are defined, and equal
abbrev pub ◌≈◌ : Fraction → Fraction → Type 0
f ≈ g = AreEqual f g

-- a whole number as a fraction, over 1
abbrev pub of_whole : ℤ → Fraction
of_whole z = record { top = z; bottom = pos 1 }

-- a fraction that is not defined
abbrev pub undefined_value : Fraction
undefined_value = record { top = pos 1; bottom = pos 0 }

-- f + g, defined where both are
abbrev pub fraction_sum : Fraction → Fraction → Fraction
fraction_sum f g = record { top = f.top *ℤ g.bottom +ℤ g.top *ℤ f.bottom; bottom = f.bottom *ℤ g.bottom }

-- the negative of f, defined where f is
abbrev pub fraction_negative : Fraction → Fraction
fraction_negative f = record { top = neg_ℤ f.top; bottom = f.bottom }

-- f - g, defined where both are
abbrev pub fraction_difference : Fraction → Fraction → Fraction
fraction_difference f g = fraction_sum f (fraction_negative g)

-- f * g, defined where both are, and nowhere else: not even where one of them is 0
abbrev pub fraction_product : Fraction → Fraction → Fraction
fraction_product f g = record { top = f.top *ℤ g.top; bottom = f.bottom *ℤ g.bottom }

-- the bottom over the top; for a fraction other than 0, its inverse
abbrev pub reciprocal : Fraction → Fraction
reciprocal f = record { top = f.bottom; bottom = f.top }

-- not defined for 0, nor for what is not defined
abbrev pub fraction_inverse : Fraction → Fraction
fraction_inverse f = record { top = f.bottom *ℤ f.bottom; bottom = f.top *ℤ f.bottom }

-- f to a natural power; to the power 0 it is 1, even where f is 0 or not defined
abbrev pub natural_power : Fraction → ℕ → Fraction
natural_power f zero = of_whole (pos 1)
natural_power f (suc n) = fraction_product f (natural_power f n)

-- a power of 0 below 0 is not defined
abbrev pub whole_power : Fraction → ℤ → Fraction
whole_power f (pos n) = natural_power f n
whole_power f (negsuc n) = natural_power (fraction_inverse f) (suc n)
