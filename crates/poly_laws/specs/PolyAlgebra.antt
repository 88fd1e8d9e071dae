-- Polynomials over a ring as a ring: the trimmed lists of meanings that belong to it.
use Rattle.std.specs.Prelude.{ℕ, ◌≤◌, Bool, true, false, ◌&&◌, List, [], ◌∷◌, map, length}
use Rattle.ring_laws.specs.Meaning.{Meaning, number, several, parted, listed, items}
use Rattle.ring_laws.specs.Algebra.{Ops, Algebra}
use Rattle.poly_laws.specs.Lists.{coefficient_at, list_sum, list_product, trimmed, is_trimmed}

-- whether every meaning of a list passes a test
abbrev pub every_passes : (Meaning → Bool) → List Meaning → Bool
every_passes p [] = true
every_passes p (x ∷ xs) = p x && every_passes p xs

-- whether a polynomial has no coefficients, so that it is 0
abbrev pub is_empty : List Meaning → Bool
is_empty [] = true
is_empty (x ∷ xs) = false

-- whether a meaning is a polynomial over the ring: a trimmed list of coefficients that belong to the ring
abbrev pub poly_passes : Algebra → Meaning → Bool
poly_passes a (number z) = false
poly_passes a (several xs) = every_passes a.passes (parted xs) && is_trimmed a.ops (parted xs)

-- the operations on polynomials over a ring, by those on coefficients; a polynomial fits with at most 256 coefficients that all fit
abbrev pub poly_ops : Ops Meaning → Ops Meaning
poly_ops o = record {
  nought = listed [];
  unit = listed (trimmed o (o.unit ∷ []));
  whole = λ w. listed (trimmed o (o.whole w ∷ []));
  neg = λ m. listed (trimmed o (map o.neg (items m)));
  sum = λ m n. listed (trimmed o (list_sum o (items m) (items n)));
  product = λ m n. listed (trimmed o (list_product o (items m) (items n)));
  is_nought = λ m. is_empty (items m);
  magnitude = λ m. listed (trimmed o (map o.magnitude (items m)));
  Fits = λ m. (length (items m) ≤ 256) × ((k : ℕ) → o.Fits (coefficient_at o (items m) k));
  Covers = λ m n. (k : ℕ) → o.Covers (coefficient_at o (items m) k) (coefficient_at o (items n) k);
}

-- the ring of the polynomials over a ring, in one variable more
abbrev pub poly_algebra : Algebra → Algebra
poly_algebra a = record { passes = poly_passes a; ops = poly_ops a.ops }
