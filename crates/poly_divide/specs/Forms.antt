-- Linear forms as polynomials.
use Rattle.std.specs.Prelude.{ℤ, [], ◌∷◌}
use Rattle.ring_laws.specs.Meaning.{Meaning, number, listed}
use Rattle.ring_laws.specs.Wholes.{whole_algebra}
use Rattle.poly_laws.specs.Lists.{trimmed}

-- u*n + v, where u isn't 0
abbrev pub linear : ℤ → ℤ → Meaning
linear u v = listed (number v ∷ number u ∷ [])

-- slope*n + offset, whose list has no zero at its end
abbrev pub form_in_n : ℤ → ℤ → Meaning
form_in_n slope offset = listed (trimmed whole_algebra.ops (number offset ∷ number slope ∷ []))

-- k_slope*k + n_slope*n + offset, where k_slope isn't 0
abbrev pub form_in_k : ℤ → ℤ → ℤ → Meaning
form_in_k k_slope n_slope offset = listed (form_in_n n_slope offset ∷ listed (number k_slope ∷ []) ∷ [])
