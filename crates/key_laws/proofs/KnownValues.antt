-- Values of rows that are known from elsewhere, so that a wrong rule in specs/ does not check.
use Rattle.std.specs.Prelude.{◌≡◌, pos, negsuc, [], ◌∷◌, refl}
use Rattle.ring_laws.specs.Meaning.{number, listed}
use Rattle.ring_laws.specs.Wholes.{whole_algebra}
use Rattle.key_laws.specs.EvaluatedRows.{rows_at}

-- n^2 - 1 and 3n + 2 at n = 2 are 3 and 8, and 0 is 0
known_values : rows_at whole_algebra.ops (number (pos 2))
    ((listed (number (negsuc 0) ∷ number (pos 0) ∷ number (pos 1) ∷ []) ∷ listed (number (pos 2) ∷ number (pos 3) ∷ []) ∷ listed [] ∷ []) ∷ [])
    ≡ (number (pos 3) ∷ number (pos 8) ∷ number (pos 0) ∷ []) ∷ []
known_values = refl
