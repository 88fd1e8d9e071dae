-- Forms and contents that are known from elsewhere, so that a wrong rule in specs/ does not check.
use Rattle.std.specs.Prelude.{◌≡◌, pos, negsuc, [], ◌∷◌, refl}
use Rattle.ring_laws.specs.Meaning.{number, listed}
use Rattle.ring_laws.specs.Wholes.{whole_algebra}
use Rattle.poly_laws.specs.PolyAlgebra.{poly_algebra}
use Rattle.poly_laws.specs.Values.{value_at}
use Rattle.poly_divide.specs.Forms.{linear, form_in_k}
use Rattle.poly_divide.specs.Content.{row_sizes}

-- 2*3 - 5 = 1, and 2*5 + 1*7 - 4 = 13 at (k, n) = (5, 7)
known_values : (value_at (pos 3 ∷ []) (linear (pos 2) (negsuc 4)) ≡ pos 1)
    × (value_at (pos 5 ∷ pos 7 ∷ []) (form_in_k (pos 2) (pos 1) (negsuc 3)) ≡ pos 13)
known_values = (refl, refl)

-- (n + 1)*(n - 1) = n^2 - 1
known_product : (poly_algebra whole_algebra).ops.product (linear (pos 1) (pos 1)) (linear (pos 1) (negsuc 0))
    ≡ listed (number (negsuc 0) ∷ number (pos 0) ∷ number (pos 1) ∷ [])
known_product = refl

-- the numbers of 4*n + 6 and of -8
known_sizes : row_sizes (linear (pos 4) (pos 6) ∷ listed (number (negsuc 7) ∷ []) ∷ []) ≡ 6 ∷ 4 ∷ 8 ∷ []
known_sizes = refl
