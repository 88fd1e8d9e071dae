-- Evaluation level by level, and what it is for a map to keep the operations.
use Rattle.std.specs.Prelude.{◌≡◌, ℕ, zero, suc, ℤ, pos, ◌+ℤ◌, ◌*ℤ◌, neg_ℤ, IsTrue, List, [], ◌∷◌}
use Rattle.ring_laws.specs.Meaning.{Meaning, items}
use Rattle.ring_laws.specs.Algebra.{Ops, Algebra}
use Rattle.ring_laws.specs.Wholes.{number_of, whole_algebra}
use Rattle.poly_laws.specs.PolyAlgebra.{poly_algebra}

-- Horner's rule over the values of the items
abbrev pub horner : {A : Type 0} → (A → ℤ) → ℤ → List A → ℤ
horner f v [] = pos 0
horner f v (x ∷ xs) = f x +ℤ v *ℤ horner f v xs

-- a map into ℤ keeps the operations of a ring
pub record KeepsOps {A : Type 0} (o : Ops A) (f : A → ℤ) : Type 0 where
  pub nought : f o.nought ≡ pos 0
  pub unit : f o.unit ≡ pos 1
  pub whole : (w : ℤ) → f (o.whole w) ≡ w
  pub neg : (x : A) → f (o.neg x) ≡ neg_ℤ (f x)
  pub sum : (x y : A) → f (o.sum x y) ≡ f x +ℤ f y
  pub product : (x y : A) → f (o.product x y) ≡ f x *ℤ f y
  pub is_nought : (x : A) → IsTrue (o.is_nought x) → f x ≡ pos 0

-- the value by recursion over the point: as many levels as it has values
abbrev pub value_at : List ℤ → Meaning → ℤ
value_at [] m = number_of m
value_at (v ∷ rest) m = horner (value_at rest) v (items m)

-- the ring of the meanings with one level for each value of the point
abbrev pub tower : List ℤ → Algebra
tower [] = whole_algebra
tower (v ∷ rest) = poly_algebra (tower rest)

-- the same ring by its number of levels
abbrev pub level : ℕ → Algebra
level zero = whole_algebra
level (suc n) = poly_algebra (level n)
