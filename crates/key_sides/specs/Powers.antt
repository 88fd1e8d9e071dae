-- A product of several values of a ring, each as often as a power says, as one operation: it is in bounds where the product of the magnitudes
-- of those that aren't zero fits. Every order of multiplying is then in bounds, since magnitudes of at least 1 only grow.
use Rattle.std.specs.Prelude.{ℕ, List, [], ◌∷◌}
use Rattle.ring_laws.specs.Meaning.{Meaning}
use Rattle.ring_laws.specs.Algebra.{Ops, Algebra}
use Rattle.poly_laws.specs.Powers.{power_in, nonzero_magnitude}

-- what is multiplied, and how often
pub record Power : Type 0 where
  pub base : Meaning
  pub power : ℕ

-- the product of all of them
abbrev pub product_of : Ops Meaning → List Power → Meaning
product_of o [] = o.unit
product_of o (x ∷ xs) = o.product (power_in o x.base x.power) (product_of o xs)

-- the same product of the magnitudes of what isn't zero
abbrev pub counterpart_of : Ops Meaning → List Power → Meaning
counterpart_of o [] = o.unit
counterpart_of o (x ∷ xs) = o.product (power_in o (nonzero_magnitude o x.base) x.power) (counterpart_of o xs)

-- the product, as one operation, is in bounds
abbrev pub PowersInBounds : Algebra → List Power → Type 0
PowersInBounds a xs = a.ops.Fits (counterpart_of a.ops xs)
