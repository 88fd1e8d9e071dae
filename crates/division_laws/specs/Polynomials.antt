-- Polynomials in one variable k over a ring, as meanings: lists of coefficients of any length, with values of the ring of any size.
use Rattle.std.specs.Prelude.{ℕ, pos, negsuc, [], ◌∷◌}
use Rattle.ring_laws.specs.Meaning.{Meaning, items, listed}
use Rattle.ring_laws.specs.Algebra.{Ops, Algebra, Passing}
use Rattle.poly_laws.specs.Lists.{coefficient_at, trimmed}
use Rattle.poly_laws.specs.PolyAlgebra.{poly_algebra}
use Rattle.poly_laws.specs.Shift.{poly_shift}

-- a polynomial in k over the ring
abbrev pub Polynomial : Algebra → Type 0
Polynomial a = Passing (poly_algebra a)

-- the coefficient of k^i
abbrev pub coefficient_of : Ops Meaning → Meaning → ℕ → Meaning
coefficient_of o f i = coefficient_at o (items f) i

-- the coefficient of k^(i-1), which is zero for the power -1
abbrev pub coefficient_before : Ops Meaning → Meaning → ℕ → Meaning
coefficient_before o f i = coefficient_at o (o.nought ∷ items f) i

-- f(k+1)
abbrev pub at_next : Ops Meaning → Meaning → Meaning
at_next o f = poly_shift o (pos 1) f

-- f(k-1)
abbrev pub at_previous : Ops Meaning → Meaning → Meaning
at_previous o f = poly_shift o (negsuc 0) f

-- a value of the ring as a polynomial in k
abbrev pub constant : Ops Meaning → Meaning → Meaning
constant o c = listed (trimmed o (c ∷ []))
