-- Fractions over a ring: their sum, difference and product as taught, when two are the same, and when an operation is in bounds.
use Rattle.std.specs.Prelude.{◌≡◌, ℤ, IsTrue, IsFalse}
use Rattle.ring_laws.specs.Meaning.{Meaning}
use Rattle.ring_laws.specs.Algebra.{Ops, Algebra, ProductInBounds}

-- a numerator over a denominator, not reduced
pub record RingFraction : Type 0 where
  pub top : Meaning
  pub bottom : Meaning

-- a/b + c/d = (a*d + c*b)/(b*d)
abbrev pub sum_of_fractions : Ops Meaning → RingFraction → RingFraction → RingFraction
sum_of_fractions o f g = record {
  top = o.sum (o.product f.top g.bottom) (o.product g.top f.bottom);
  bottom = o.product f.bottom g.bottom;
}

-- a/b - c/d = (a*d - c*b)/(b*d)
abbrev pub difference_of_fractions : Ops Meaning → RingFraction → RingFraction → RingFraction
difference_of_fractions o f g = record {
  top = o.sum (o.product f.top g.bottom) (o.neg (o.product g.top f.bottom));
  bottom = o.product f.bottom g.bottom;
}

-- a/b * c/d = (a*c)/(b*d)
abbrev pub product_of_fractions : Ops Meaning → RingFraction → RingFraction → RingFraction
product_of_fractions o f g = record { top = o.product f.top g.top; bottom = o.product f.bottom g.bottom }

-- a/b and c/d are the same where a*d = c*b
abbrev pub AreSame : Ops Meaning → RingFraction → RingFraction → Type 0
AreSame o f g = o.product f.top g.bottom ≡ o.product g.top f.bottom

-- both parts belong to the ring, and the denominator isn't zero
pub record IsFraction (a : Algebra) (f : RingFraction) : Type 0 where
  pub top : IsTrue (a.passes f.top)
  pub bottom : IsTrue (a.passes f.bottom)
  pub nonzero : IsFalse (a.ops.is_nought f.bottom)

-- the whole number w as w/1, and -(a/b) as (-a)/b
abbrev pub whole_fraction : Ops Meaning → ℤ → RingFraction
whole_fraction o w = record { top = o.whole w; bottom = o.unit }

-- minus a fraction, by its numerator
abbrev pub negative_fraction : Ops Meaning → RingFraction → RingFraction
negative_fraction o f = record { top = o.neg f.top; bottom = f.bottom }

-- each number replaced by its absolute value
abbrev pub magnitude_of_fraction : Ops Meaning → RingFraction → RingFraction
magnitude_of_fraction o f = record { top = o.magnitude f.top; bottom = o.magnitude f.bottom }

-- both parts fit
pub record FractionFits (o : Ops Meaning) (f : RingFraction) : Type 0 where
  pub top : o.Fits f.top
  pub bottom : o.Fits f.bottom

-- the counterpart of a sum or a difference on magnitudes, |a|*|d| + |c|*|b| over |b|*|d|, fits
abbrev pub FractionSumInBounds : Algebra → RingFraction → RingFraction → Type 0
FractionSumInBounds a f g = FractionFits a.ops (sum_of_fractions a.ops (magnitude_of_fraction a.ops f) (magnitude_of_fraction a.ops g))

-- that of a product, |a|*|c| over |b|*|d|
abbrev pub FractionProductInBounds : Algebra → RingFraction → RingFraction → Type 0
FractionProductInBounds a f g = FractionFits a.ops (product_of_fractions a.ops (magnitude_of_fraction a.ops f) (magnitude_of_fraction a.ops g))

-- the cross products a*d and c*b are in bounds
pub record CrossProductsInBounds (a : Algebra) (f g : RingFraction) : Type 0 where
  pub left : ProductInBounds a f.top g.bottom
  pub right : ProductInBounds a g.top f.bottom
