-- The sum of all magnitudes of a list of coefficients.
use Rattle.std.specs.Prelude.{List, [], ◌∷◌}
use Rattle.ring_laws.specs.Algebra.{Ops}

-- |x0| + |x1| + ..
abbrev pub magnitude_sum : {A : Type 0} → Ops A → List A → A
magnitude_sum o [] = o.nought
magnitude_sum o (x ∷ xs) = o.sum (o.magnitude x) (magnitude_sum o xs)
