-- When the operations on lists of coefficients are in bounds: where their counterpart on magnitudes fits.
use Rattle.std.specs.Prelude.{ℕ, ◌<◌, List, map, length}
use Rattle.ring_laws.specs.Meaning.{Meaning}
use Rattle.ring_laws.specs.Algebra.{Algebra, SumInBounds, ProductInBounds}
use Rattle.poly_laws.specs.Lists.{coefficient_at, list_product}

-- the sum of the coefficients at a power is in bounds, where both are there
abbrev pub SumInBoundsAt : Algebra → List Meaning → List Meaning → ℕ → Type 0
SumInBoundsAt a xs ys k = k < length xs → k < length ys → SumInBounds a (coefficient_at a.ops xs k) (coefficient_at a.ops ys k)

-- so at every power
abbrev pub ListSumInBounds : Algebra → List Meaning → List Meaning → Type 0
ListSumInBounds a xs ys = (k : ℕ) → SumInBoundsAt a xs ys k

-- each coefficient of the product of the magnitudes fits
abbrev pub ListProductInBounds : Algebra → List Meaning → List Meaning → Type 0
ListProductInBounds a xs ys = (k : ℕ) → a.ops.Fits (coefficient_at a.ops (list_product a.ops (map a.ops.magnitude xs) (map a.ops.magnitude ys)) k)

-- the product of x and each coefficient is in bounds
abbrev pub ScalingInBounds : Algebra → Meaning → List Meaning → Type 0
ScalingInBounds a x ys = (k : ℕ) → k < length ys → ProductInBounds a x (coefficient_at a.ops ys k)
