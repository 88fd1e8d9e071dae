-- Evaluation keeps the operations, at each level of the tower.
use Rattle.std.specs.Prelude.{◌≡◌, ℤ, zero, suc, pos, negsuc, IsTrue, List, [], ◌∷◌, map, refl}
use Rattle.std.proofs.Common.{ap, ◌∙◌}
use Rattle.ring_laws.specs.Meaning.{Meaning, items, listed, parted-joined}
use Rattle.ring_laws.specs.Algebra.{Ops}
use Rattle.ring_laws.specs.Wholes.{is_zero, number_of, whole_algebra}
use Rattle.poly_laws.specs.Lists.{list_sum, list_product, trimmed}
use Rattle.poly_laws.specs.PolyAlgebra.{is_empty, poly_ops}
use Rattle.poly_laws.specs.Values.{horner, KeepsOps, value_at, tower}
use Rattle.poly_laws.proofs.HornerLaws.{horner_sum, horner_neg, horner_product, horner_one, horner_trimmed}

zero_only : (z : ℤ) → IsTrue (is_zero z) → z ≡ pos 0
zero_only (pos zero) h = refl
zero_only (pos (suc n)) h = cc
zero_only (negsuc n) h = cc

pub whole_keeps : KeepsOps whole_algebra.ops number_of
whole_keeps = record {
  nought = refl;
  unit = refl;
  whole = λ w. refl;
  neg = λ x. refl;
  sum = λ x y. refl;
  product = λ x y. refl;
  is_nought = λ x h. zero_only (number_of x) h;
}

module _ (o : Ops Meaning) (f : Meaning → ℤ) (k : KeepsOps o f) (v : ℤ) where
  -- the value of a trimmed list as a meaning is that of the list
  pub of_list : (xs : List Meaning) → horner f v (items (listed (trimmed o xs))) ≡ horner f v xs
  of_list xs = ap (horner f v) (parted-joined (trimmed o xs)) ∙ horner_trimmed o f k v xs

  empty_only : (xs : List Meaning) → IsTrue (is_empty xs) → horner f v xs ≡ pos 0
  empty_only [] h = refl
  empty_only (x ∷ xs) h = cc

  pub poly_keeps : KeepsOps (poly_ops o) (λ m. horner f v (items m))
  poly_keeps = record {
    nought = refl;
    unit = of_list (o.unit ∷ []) ∙ horner_one o f k v o.unit ∙ k.unit;
    whole = λ w. of_list (o.whole w ∷ []) ∙ horner_one o f k v (o.whole w) ∙ k.whole w;
    neg = λ m. of_list (map o.neg (items m)) ∙ horner_neg o f k v (items m);
    sum = λ m n. of_list (list_sum o (items m) (items n)) ∙ horner_sum o f k v (items m) (items n);
    product = λ m n. of_list (list_product o (items m) (items n)) ∙ horner_product o f k v (items m) (items n);
    is_nought = λ m h. empty_only (items m) h;
  }

-- no premise: not even that the meanings belong to the ring
pub value_at_keeps : (point : List ℤ) → KeepsOps (tower point).ops (value_at point)
value_at_keeps [] = whole_keeps
value_at_keeps (v ∷ rest) = poly_keeps (tower rest).ops (value_at rest) (value_at_keeps rest) v
