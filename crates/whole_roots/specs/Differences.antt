-- The differences of a polynomial in one variable, f(n+1) - f(n), and when they are in bounds.
use Rattle.std.specs.Prelude.{ℕ, zero, suc, ◌+◌, ◌<◌, pos, List, map, length}
use Rattle.ring_laws.specs.Meaning.{Meaning, number, items}
use Rattle.ring_laws.specs.Algebra.{Algebra}
use Rattle.ring_laws.specs.Wholes.{whole_algebra}
use Rattle.poly_laws.specs.Lists.{coefficient_at, list_sum}
use Rattle.poly_laws.specs.PolyAlgebra.{poly_algebra}
use Rattle.poly_laws.specs.Shift.{list_shift, poly_shift}

-- polynomials in one variable
abbrev pub polynomials : Algebra
polynomials = poly_algebra whole_algebra

-- f(n+1) - f(n)
abbrev pub difference : Meaning → Meaning
difference f = polynomials.ops.sum (poly_shift whole_algebra.ops (pos 1) f) (polynomials.ops.neg f)

-- the counterpart on magnitudes: each coefficient of |f|(n+1) + |f|(n) fits
abbrev pub DifferenceInBounds : Meaning → Type 0
DifferenceInBounds f =
    let sizes : List Meaning = map whole_algebra.ops.magnitude (items f) in
    (k : ℕ) → whole_algebra.ops.Fits (coefficient_at whole_algebra.ops
    (list_sum whole_algebra.ops (list_shift whole_algebra.ops (number (pos 1)) sizes) sizes) k)

-- the difference of the difference, and so on
abbrev pub iterated_difference : ℕ → Meaning → Meaning
iterated_difference zero f = f
iterated_difference (suc j) f = iterated_difference j (difference f)

-- the first difference up to that of the degree are in bounds
abbrev pub DifferencesInBounds : Meaning → Type 0
DifferencesInBounds f = (j : ℕ) → j + 1 < length (items f) → DifferenceInBounds (iterated_difference j f)
