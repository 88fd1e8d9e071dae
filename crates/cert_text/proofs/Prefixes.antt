-- A word compared with itself, byte by byte.
use lib.Pointwise.{pointwise}
use Rattle.std.proofs.Common.{◌≡◌, List, ℕ, [], ◌∷◌, refl, true, eqb}
use Rattle.std.proofs.lemmas.Bool.{eq-eqb, and_from}

-- a word is itself
pub same_word : (word : List ℕ) → pointwise eqb word word ≡ true
same_word [] = refl
same_word (x ∷ xs) = and_from (eqb x x) (pointwise eqb xs xs) (eq-eqb x x refl) (same_word xs)
