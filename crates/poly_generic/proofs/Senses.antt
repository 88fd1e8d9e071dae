-- The list of a polynomial as meanings that belong to its ring.
use Rattle.std.proofs.Common.{◌≡◌, IsTrue, List, [], ◌∷◌, map, refl, ap}
use Rattle.poly_laws.specs.Lists.{is_trimmed}
use Rattle.poly_laws.specs.PolyAlgebra.{poly_algebra}
use Rattle.ring_laws.specs.Algebra.{Ops, Algebra, Passing, within, Laws}
use Rattle.ring_laws.specs.Meaning.{Meaning, listed, items, parted-joined}
use Rattle.poly_laws.proofs.Belonging.{value_passes}
use Rattle.poly_laws.proofs.Coefficients.{meanings_of}

module _ {T : Type 0} (a : Algebra) (l : Laws a) (meaning : T → Meaning) (passes : (x : T) → IsTrue (a.passes (meaning x))) where
  abbrev m : List T → List Meaning
  m xs = map meaning xs

  abbrev senses : List T → List (Passing a)
  senses xs = map (λ x. (meaning x, passes x)) xs

  abbrev base : Ops (Passing a)
  base = within a l.closed

  -- as meanings they are the meanings of the items
  pub meanings-senses : (xs : List T) → meanings_of a l.closed (senses xs) ≡ m xs
  meanings-senses [] = refl
  meanings-senses (x ∷ xs) = ap (λ t. meaning x ∷ t) (meanings-senses xs)

  abbrev Mean : List T → Meaning
  Mean xs = listed (m xs)

  abbrev Trimmed : List T → Type 0
  Trimmed xs = IsTrue (is_trimmed a.ops (m xs))

  abbrev value : (xs : List T) → Trimmed xs → Passing (poly_algebra a)
  value xs h = (listed (m xs), value_passes a meaning passes xs h)

  -- the items of the meaning are the meanings of the items
  pub same_items : (xs : List T) → items (listed (m xs)) ≡ m xs
  same_items xs = parted-joined (m xs)
