-- A polynomial at its outermost variable plus a number, and at the next one.
use Rattle.std.specs.Prelude.{ℕ, ℤ, List, [], ◌∷◌, map}
use Rattle.ring_laws.specs.Meaning.{Meaning, items, listed}
use Rattle.ring_laws.specs.Algebra.{Ops, Algebra}
use Rattle.poly_laws.specs.Lists.{coefficient_at, list_sum, trimmed}
use Rattle.poly_laws.specs.PolyAlgebra.{poly_ops}

-- x + (t + the variable) * f, for the polynomial f of these coefficients
abbrev pub raised_by : {A : Type 0} → Ops A → A → A → List A → List A
raised_by o t x f = list_sum o (x ∷ []) (list_sum o (map (o.product t) f) (o.nought ∷ f))

-- the polynomial at the variable plus t
abbrev pub list_shift : {A : Type 0} → Ops A → A → List A → List A
list_shift o t [] = []
list_shift o t (x ∷ xs) = raised_by o t x (list_shift o t xs)

-- the polynomial at its outermost variable plus a number
abbrev pub poly_shift : Ops Meaning → ℤ → Meaning → Meaning
poly_shift o w m = listed (trimmed o (list_shift o (o.whole w) (items m)))

-- each coefficient of the shift of the magnitudes fits
abbrev pub ListShiftInBounds : Algebra → Meaning → List Meaning → Type 0
ListShiftInBounds a t xs = (k : ℕ) → a.ops.Fits (coefficient_at a.ops (list_shift a.ops (a.ops.magnitude t) (map a.ops.magnitude xs)) k)

-- the polynomial at its second variable plus a number: each coefficient is shifted
abbrev pub inner_shift : Ops Meaning → ℤ → Meaning → Meaning
inner_shift o w m = listed (trimmed (poly_ops o) (map (poly_shift o w) (items m)))

-- the shift of each coefficient is in bounds
abbrev pub InnerShiftInBounds : Algebra → Meaning → List Meaning → Type 0
InnerShiftInBounds a t xs = (k : ℕ) → ListShiftInBounds a t (items (coefficient_at (poly_ops a.ops) xs k))
