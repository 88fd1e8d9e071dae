-- The value of a polynomial at a value of its ring, and when it is in bounds.
use Rattle.std.specs.Prelude.{List, [], ◌∷◌, map}
use Rattle.ring_laws.specs.Meaning.{Meaning}
use Rattle.ring_laws.specs.Algebra.{Ops, Algebra}

-- x0 + v*x1 + v^2*x2 + .., by Horner's rule
abbrev pub list_value : {A : Type 0} → Ops A → A → List A → A
list_value o v [] = o.nought
list_value o v (x ∷ xs) = o.sum x (o.product v (list_value o v xs))

-- the same sum of powers on magnitudes fits
abbrev pub ValueInBounds : Algebra → Meaning → List Meaning → Type 0
ValueInBounds a v xs = a.ops.Fits (list_value a.ops (a.ops.magnitude v) (map a.ops.magnitude xs))
