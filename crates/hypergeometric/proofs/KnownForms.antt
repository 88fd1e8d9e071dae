-- Forms and lists worked out by hand, so that a wrong rule in specs/ does not check.
use Rattle.std.specs.Prelude.{◌≡◌, pos, negsuc, [], ◌∷◌, refl}
use Rattle.ring_laws.specs.Meaning.{number, listed}
use Rattle.hypergeometric.specs.Forms.{form_with, multiple}
use Rattle.hypergeometric.specs.FactorLists.{factor_with, with_factor}
use Rattle.hypergeometric.specs.Products.{form_polynomial, list_polynomial}

-- -2 times 3*k - 2*n + 1 is -6*k + 4*n - 2
known_multiple : multiple (negsuc 1) (form_with (negsuc 1) (pos 3) (pos 1)) ≡ form_with (pos 4) (negsuc 5) (negsuc 1)
known_multiple = refl

-- k+1, k and k+1 again: the power of k+1 is 2, and it stays first
known_list : with_factor (form_with (pos 0) (pos 1) (pos 1)) 1 (with_factor (form_with (pos 0) (pos 1) (pos 0)) 1
    (with_factor (form_with (pos 0) (pos 1) (pos 1)) 1 []))
    ≡ factor_with (form_with (pos 0) (pos 1) (pos 1)) 2 ∷ factor_with (form_with (pos 0) (pos 1) (pos 0)) 1 ∷ []
known_list = refl

-- 2*n - 3*k + 5 in powers of k over those of n, and the constant 0
known_polynomials : (form_polynomial (form_with (pos 2) (negsuc 2) (pos 5))
    ≡ listed (listed (number (pos 5) ∷ number (pos 2) ∷ []) ∷ listed (number (negsuc 2) ∷ []) ∷ []))
    × (form_polynomial (form_with (pos 0) (pos 0) (pos 0)) ≡ listed [])
known_polynomials = (refl, refl)

-- 3 * (k+1)^2 = 3*k^2 + 6*k + 3
known_product : list_polynomial (record { scale = pos 3; factors = factor_with (form_with (pos 0) (pos 1) (pos 1)) 2 ∷ [] })
    ≡ listed (listed (number (pos 3) ∷ []) ∷ listed (number (pos 6) ∷ []) ∷ listed (number (pos 3) ∷ []) ∷ [])
known_product = refl
