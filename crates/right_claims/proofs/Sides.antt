-- The polynomials of a key equation belong to the polynomials in k and n, whatever the tops are: every product does.
use Rattle.std.proofs.Common.{◌≡◌, List, [], ◌∷◌, map, length, refl, ap, ◌∙◌, IsTrue}
use Rattle.std.proofs.lemmas.List.{length-map}
use Rattle.std.specs.Prelude.{negsuc}
use Rattle.ring_laws.specs.Meaning.{Meaning, items}
use Rattle.ring_laws.specs.Algebra.{Ops, Algebra, Passing, Closed, within}
use Rattle.poly_laws.specs.Lists.{list_sum, list_product, trimmed}
use Rattle.poly_laws.specs.PolyAlgebra.{poly_algebra}
use Rattle.poly_laws.specs.Values.{level}
use Rattle.poly_laws.proofs.Coefficients.{meanings_of, meanings-sum, meanings-trimmed, trimmed_passes}
use Rattle.poly_laws.proofs.Equal.{level_laws}
use Rattle.poly_laws.proofs.StepMeanings.{shift_passes}
use Rattle.division_laws.specs.Polynomials.{Polynomial}
use Rattle.kernel_laws.specs.Reduction.{bare}
use Rattle.hypergeometric.specs.Products.{list_polynomial}
use Rattle.hypergeometric.proofs.FormPolynomials.{list_passes}
use Rattle.term_pieces.specs.NormalForm.{Normal}
use Rattle.pole_laws.specs.Orders.{sides_of}
use Rattle.right_claims.specs.KeySolutions.{q_of, b_of}

-- where every product belongs to a ring, every product of lists belongs to its polynomials
module _ (a : Algebra) (c : Closed a) (p : (x y : Meaning) → IsTrue (a.passes (a.ops.product x y))) where
  abbrev o : Ops (Passing a)
  o = within a c

  abbrev scaled : Meaning → List Meaning → List (Passing a)
  scaled x ys = map (λ y. (a.ops.product x y, p x y)) ys

  scaled_are : (x : Meaning) (ys : List Meaning) → meanings_of a c (scaled x ys) ≡ map (a.ops.product x) ys
  scaled_are x [] = refl
  scaled_are x (y ∷ ys) = ap (λ t. a.ops.product x y ∷ t) (scaled_are x ys)

  abbrev products : List Meaning → List Meaning → List (Passing a)
  products [] ys = []
  products (x ∷ xs) ys = list_sum o (scaled x ys) (o.nought ∷ products xs ys)

  products_are : (xs ys : List Meaning) → meanings_of a c (products xs ys) ≡ list_product a.ops xs ys
  products_are [] ys = refl
  products_are (x ∷ xs) ys = cc (meanings-sum a c (scaled x ys) (o.nought ∷ products xs ys), scaled_are x ys, products_are xs ys)

  always_passes : (x y : Meaning) → IsTrue ((poly_algebra a).passes ((poly_algebra a).ops.product x y))
  always_passes x y =
      trimmed_passes a c (products (items x) (items y)) (trimmed a.ops (list_product a.ops (items x) (items y)))
      (meanings-trimmed a c (products (items x) (items y)) ∙ ap (trimmed a.ops) (products_are (items x) (items y)))

pub product_passes : (x y : Meaning) → IsTrue ((level 2).passes ((level 2).ops.product x y))
product_passes x y = always_passes (level 1) (level_laws 1).closed (always_passes (level 0) (level_laws 0).closed (λ v w. refl)) x y

-- q(k), r(k-1) and the sides
abbrev pub q_in : Normal → Polynomial (level 1)
q_in normal = (q_of normal, list_passes normal.q)

abbrev pub b_in : Normal → Polynomial (level 1)
b_in normal = (b_of normal, shift_passes (level 1) (level_laws 1) (negsuc 0) (list_polynomial normal.r, list_passes normal.r))

abbrev pub sides_in : Normal → List Meaning → List (Polynomial (level 1))
sides_in normal tops = map (λ t. ((level 2).ops.product (list_polynomial normal.g) t, product_passes (list_polynomial normal.g) t)) tops

pub sides_are : (normal : Normal) (tops : List Meaning) → bare (level 2) (sides_in normal tops) ≡ sides_of normal tops
sides_are normal [] = refl
sides_are normal (t ∷ ts) = ap (λ s. (level 2).ops.product (list_polynomial normal.g) t ∷ s) (sides_are normal ts)

pub sides_length : (normal : Normal) (tops : List Meaning) → length (sides_in normal tops) ≡ length tops
sides_length normal tops =
    length-map tops (λ t. ((level 2).ops.product (list_polynomial normal.g) t, product_passes (list_polynomial normal.g) t))
