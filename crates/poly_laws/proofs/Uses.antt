-- How the laws are used: a polynomial written out at variables, a fixed level, and a shift further in.
use Rattle.std.specs.Prelude.{◌≡◌, ℤ, pos, ◌+ℤ◌, ◌*ℤ◌, List, [], ◌∷◌, map, length, refl}
use Rattle.std.proofs.Common.{ap, ◌∙◌}
use mathlib.Core.Path.{ap₂}
use Rattle.ring_laws.specs.Meaning.{Meaning, number, listed, items}
use Rattle.ring_laws.specs.Wholes.{whole_algebra}
use Rattle.ring_solver.proofs.Read.{ring_z, reading_z}
use Rattle.poly_laws.specs.Lists.{trimmed}
use Rattle.poly_laws.specs.PolyAlgebra.{poly_algebra}
use Rattle.poly_laws.specs.Values.{horner, value_at, tower, level}
use Rattle.poly_laws.proofs.Keeps.{of_list, value_at_keeps}

-- n^2 + 1 at n
square_at : (n : ℤ) → value_at (n ∷ []) (listed (number (pos 1) ∷ number (pos 0) ∷ number (pos 1) ∷ [])) ≡ n *ℤ n +ℤ pos 1
square_at n = ring_z (n ∷ []) (search reading_z depth 40 fits 20000) refl

-- n*k + 1 at (k, n)
mixed_at : (k n : ℤ)
    → value_at (k ∷ n ∷ []) (listed (listed (number (pos 1) ∷ []) ∷ listed (number (pos 0) ∷ number (pos 1) ∷ []) ∷ [])) ≡ n *ℤ k +ℤ pos 1
mixed_at k n = ring_z (k ∷ n ∷ []) (search reading_z depth 40 fits 20000) refl

-- at a fixed level, as a contract writes it, the value of a product is the product of the values
product_at : (x y : Meaning) (k n : ℤ)
    → value_at (k ∷ n ∷ []) ((poly_algebra (poly_algebra whole_algebra)).ops.product x y) ≡ value_at (k ∷ n ∷ []) x *ℤ value_at (k ∷ n ∷ []) y
product_at x y k n = (value_at_keeps (k ∷ n ∷ [])).product x y

-- what keeps the value of each item at another value keeps that of the list
horner_each : {A : Type 0} (f f' : A → ℤ) (g : A → A) (v : ℤ) → ((x : A) → f (g x) ≡ f' x) → (xs : List A) → horner f v (map g xs) ≡ horner f' v xs
horner_each f f' g v e [] = refl
horner_each f f' g v e (x ∷ xs) = ap₂ (λ (s t : ℤ). s +ℤ v *ℤ t) (e x) (horner_each f f' g v e xs)

-- so a change of the inner variables, made in each item, is one of the inner values
pub value_at_inner : (v : ℤ) (rest rest' : List ℤ) (g : Meaning → Meaning) → ((x : Meaning) → value_at rest (g x) ≡ value_at rest' x)
    → (m : Meaning) → value_at (v ∷ rest) (listed (trimmed (tower rest).ops (map g (items m)))) ≡ value_at (v ∷ rest') m
value_at_inner v rest rest' g e m =
    of_list (tower rest).ops (value_at rest) (value_at_keeps rest) v (map g (items m))
    ∙ horner_each (value_at rest) (value_at rest') g v e (items m)

-- the tower by its number of levels
pub level_tower : (point : List ℤ) → level (length point) ≡ tower point
level_tower [] = refl
level_tower (v ∷ rest) = ap poly_algebra (level_tower rest)
