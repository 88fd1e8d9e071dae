-- A map that keeps sums and products keeps those of lists of coefficients, and their shifts.
use Rattle.std.specs.Prelude.{◌≡◌, ℕ, zero, suc, List, [], ◌∷◌, map, refl}
use Rattle.std.proofs.Common.{ap, sym, ◌∙◌}
use Rattle.ring_laws.specs.Algebra.{Ops}
use Rattle.poly_laws.specs.Lists.{coefficient_at, list_sum, list_product}
use Rattle.poly_laws.specs.Shift.{raised_by, list_shift}

module _ {A B : Type 0} (o : Ops A) (p : Ops B) (h : A → B) (nought : h o.nought ≡ p.nought) (sum : (x y : A) → h (o.sum x y) ≡ p.sum (h x) (h y))
    (product : (x y : A) → h (o.product x y) ≡ p.product (h x) (h y)) where
  pub map_at : (xs : List A) (k : ℕ) → coefficient_at p (map h xs) k ≡ h (coefficient_at o xs k)
  map_at [] k = sym nought
  map_at (x ∷ xs) zero = refl
  map_at (x ∷ xs) (suc k) = map_at xs k

  map_sum : (xs ys : List A) → map h (list_sum o xs ys) ≡ list_sum p (map h xs) (map h ys)
  map_sum [] ys = refl
  map_sum (x ∷ xs) [] = refl
  map_sum (x ∷ xs) (y ∷ ys) = λ i. sum x y i ∷ map_sum xs ys i

  map_scale : (x : A) (ys : List A) → map h (map (o.product x) ys) ≡ map (p.product (h x)) (map h ys)
  map_scale x [] = refl
  map_scale x (y ∷ ys) = λ i. product x y i ∷ map_scale x ys i

  pub map_product : (xs ys : List A) → map h (list_product o xs ys) ≡ list_product p (map h xs) (map h ys)
  map_product [] ys = refl
  map_product (x ∷ xs) ys =
      map_sum (map (o.product x) ys) (o.nought ∷ list_product o xs ys)
      ∙ (λ i. list_sum p (map_scale x ys i) (nought i ∷ map_product xs ys i))

  map_raised : (t x : A) (ys : List A) → map h (raised_by o t x ys) ≡ raised_by p (h t) (h x) (map h ys)
  map_raised t x ys =
      map_sum (x ∷ []) (list_sum o (map (o.product t) ys) (o.nought ∷ ys))
      ∙ ap (list_sum p (h x ∷ [])) (map_sum (map (o.product t) ys) (o.nought ∷ ys)
      ∙ (λ i. list_sum p (map_scale t ys i) (nought i ∷ map h ys)))

  pub map_shift : (t : A) (xs : List A) → map h (list_shift o t xs) ≡ list_shift p (h t) (map h xs)
  map_shift t [] = refl
  map_shift t (x ∷ xs) = map_raised t x (list_shift o t xs) ∙ ap (raised_by p (h t) (h x)) (map_shift t xs)
