-- The whole roots of a polynomial, of any size.
use Rattle.std.specs.Prelude.{◌≡◌, ℤ, pos, ◌<ℤ◌, ◌⊎◌, List, [], ◌∷◌, ⊤}
use Rattle.ring_laws.specs.Meaning.{Meaning}
use Rattle.whole_roots.specs.Signs.{value}

-- the value of f at z is 0
abbrev pub IsRoot : Meaning → ℤ → Type 0
IsRoot f z = value f z ≡ pos 0

-- z is an item
abbrev pub IsItem : ℤ → List ℤ → Type 0
IsItem z [] = ⊥
IsItem z (x ∷ xs) = (z ≡ x) ⊎ IsItem z xs

-- each item is below those behind it
abbrev pub IsRising : List ℤ → Type 0
IsRising [] = ⊤
IsRising (x ∷ xs) = ((z : ℤ) → IsItem z xs → x <ℤ z) × IsRising xs

-- the list of all whole roots, rising; so each stands once
pub record AreRoots (f : Meaning) (xs : List ℤ) : Type 0 where
  pub rising : IsRising xs
  pub each : (z : ℤ) → IsItem z xs → IsRoot f z
  pub all : (z : ℤ) → IsRoot f z → IsItem z xs
