-- A list of numbers has one greatest common divisor.
-- These are lemmas: they stand in specs/, since the laws that `Reducing` names rest on them.
use Rattle.std.specs.Prelude.{◌≡◌, ℕ, List}
use Rattle.std.proofs.lemmas.Nat.Gcd.{dvd_antisymm}
use Rattle.poly_divide.specs.Content.{IsContent}

-- a list has one content
pub one_content : (xs : List ℕ) (b c : ℕ) → IsContent xs b → IsContent xs c → b ≡ c
one_content xs b c h k = dvd_antisymm (k.greatest b h.divides) (h.greatest c k.divides)
