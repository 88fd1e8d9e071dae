-- A product of polynomials from the last on: where a step is out of bounds, so is the product of all as one operation.
use Rattle.std.proofs.Common.{◌≡◌, ℕ, zero, suc, refl, ap, sym, ◌∙◌, subst, List, [], ◌∷◌, map, drop, length, get_or, ◌<◌, ◌≤◌, ◌-◌}
use Rattle.std.specs.Prelude.{IsTrue}
use Rattle.ring_laws.specs.Meaning.{Meaning}
use Rattle.ring_laws.specs.Algebra.{Passing, ProductInBounds}
use Rattle.poly_laws.specs.Values.{level}
use Rattle.poly_laws.specs.Powers.{nonzero_magnitude, IsBound}
use Rattle.poly_laws.specs.TwoVariables.{in_n_and_k}
use Rattle.poly_laws.proofs.PowerBounds.{bounded_unit, bounded_product, bounded_self, in_bounds, part_fits}
use Rattle.poly_laws.proofs.Squaring.{magnitude_first}
use Rattle.hypergeometric.proofs.FormPolynomials.{laws, o, more_than_one}
use Rattle.term_classes.specs.Finding.{product_of_polynomials, sizes_multiplied}
use Rattle.tree_polynomials.proofs.ItemsBehind.{item_first}

module _ {T : Type 0} (meaning : T → Meaning) (passes : (x : T) → IsTrue ((level 2).passes (meaning x))) where
  abbrev inside : T → Passing (level 2)
  inside x = (meaning x, passes x)

  abbrev product_in : List T → Passing (level 2)
  product_in [] = o.unit
  product_in (x ∷ xs) = o.product (inside x) (product_in xs)

  abbrev sizes_in : List T → Passing (level 2)
  sizes_in [] = o.unit
  sizes_in (x ∷ xs) = o.product (nonzero_magnitude o (inside x)) (sizes_in xs)

  product_first : (xs : List T) → (product_in xs).0 ≡ product_of_polynomials (map meaning xs)
  product_first [] = refl
  product_first (x ∷ xs) = ap (in_n_and_k.product (meaning x)) (product_first xs)

  sizes_first : (xs : List T) → (sizes_in xs).0 ≡ sizes_multiplied (map meaning xs)
  sizes_first [] = refl
  sizes_first (x ∷ xs) = λ i. in_n_and_k.product (magnitude_first (level 2) laws (inside x) i) (sizes_first xs i)

  sizes_bound : (xs : List T) → IsBound (level 2) (sizes_in xs) (product_in xs).0
  sizes_bound [] = bounded_unit (level 2) laws more_than_one
  sizes_bound (x ∷ xs) = bounded_product (level 2) laws more_than_one (nonzero_magnitude o (inside x)) (inside x) (sizes_in xs) (product_in xs)
      (bounded_self (level 2) laws more_than_one (inside x)) (sizes_bound xs)

  -- where the magnitudes fit, those of a later part do
  rest_fits : (x : T) (xs : List T) → o.Fits (sizes_in (x ∷ xs)) → o.Fits (sizes_in xs)
  rest_fits x xs h =
      part_fits (level 2) laws more_than_one (sizes_in xs) (product_in xs) (nonzero_magnitude o (inside x)) (inside x) (sizes_bound xs)
      (bounded_self (level 2) laws more_than_one (inside x)) (subst o.Fits (laws.ring.product_comm (nonzero_magnitude o (inside x)) (sizes_in xs)) h)

  dropped_fits : (i : ℕ) (xs : List T) → o.Fits (sizes_in xs) → o.Fits (sizes_in (drop i xs))
  dropped_fits zero xs h = h
  dropped_fits (suc i) [] h = h
  dropped_fits (suc i) (x ∷ xs) h = dropped_fits i xs (rest_fits x xs h)

  step_out : (xs : List T) (i : ℕ) (x : T) (rest : List T) (m : Meaning) → drop i xs ≡ x ∷ rest → m ≡ product_of_polynomials (map meaning rest)
      → ¬ ProductInBounds (level 2) (meaning x) m → ¬ in_n_and_k.Fits (sizes_multiplied (map meaning xs))
  step_out xs i x rest m e h out fits =
      let all : o.Fits (sizes_in xs) = subst in_n_and_k.Fits (sym (sizes_first xs)) fits in
      let here : o.Fits (sizes_in (x ∷ rest)) = subst (λ (t : List T). o.Fits (sizes_in t)) e (dropped_fits i xs all) in
      out (subst (λ t. ProductInBounds (level 2) (meaning x) t) (product_first rest ∙ sym h)
      (in_bounds (level 2) laws more_than_one (nonzero_magnitude o (inside x)) (inside x) (sizes_in rest) (product_in rest)
      (bounded_self (level 2) laws more_than_one (inside x)) (sizes_bound rest) here))

-- one more factor
pub product_step : {T : Type 0} (xs : List T) (meaning : T → Meaning) (i : ℕ) (x : T) (m product : Meaning) → 0 < i → i ≤ length xs
    → x ≡ get_or xs (i - 1) x → m ≡ product_of_polynomials (map meaning (drop i xs)) → product ≡ in_n_and_k.product (meaning x) m
    → product ≡ product_of_polynomials (map meaning (drop (i - 1) xs))
product_step xs meaning i x m product some within is h e =
    e ∙ ap (in_n_and_k.product (meaning x)) h ∙ ap (λ t. product_of_polynomials (map meaning t)) (sym (item_first xs i x some within is))

-- a factor whose product with those behind it is out of bounds
pub product_out : {T : Type 0} (xs : List T) (meaning : T → Meaning) (passes : (x : T) → IsTrue ((level 2).passes (meaning x)))
    (i : ℕ) (x : T) (m : Meaning) → 0 < i → i ≤ length xs → x ≡ get_or xs (i - 1) x → m ≡ product_of_polynomials (map meaning (drop i xs))
    → ¬ ProductInBounds (level 2) (meaning x) m → ¬ in_n_and_k.Fits (sizes_multiplied (map meaning xs))
product_out xs meaning passes i x m some within is h out =
    step_out meaning passes xs (i - 1) x (drop i xs) m (item_first xs i x some within is) h out
