-- The coefficient of a product, by the coefficient of the first list at a place and the product of what lies behind it.
use Rattle.std.specs.Prelude.{◌≡◌, ℕ, zero, suc, ◌+◌, ◌-◌, ◌≤◌, ◌<◌, ◌⊎◌, List, [], ◌∷◌, drop, map, length, refl}
use Rattle.std.proofs.Common.{ap, sym, ◌∙◌, arith, max, inl, inr}
use Rattle.std.proofs.lemmas.List.{length-map, get_or_past}
use Rattle.ring_laws.specs.Algebra.{Ops, RingLaws}
use Rattle.poly_laws.specs.Lists.{coefficient_at, list_product}
use Rattle.poly_laws.proofs.ListLaws.{at_sum, at_scale, product_nought}
use Rattle.poly_generic.proofs.ListLemmas.{length-list_sum}

-- as many coefficients as both lists, less one, and where the second has none as many as the first
length-list_product : {A : Type 0} (o : Ops A) (x : A) (xs ys : List A) → length (list_product o (x ∷ xs) ys) ≡ length xs + max (length ys) 1
length-list_product o x [] ys =
    omega (arith, length-list_sum o (map (o.product x) ys) (o.nought ∷ []), length-map ys (o.product x))
length-list_product o x (z ∷ zs) ys =
    omega (
      arith,
      length-list_sum o (map (o.product x) ys) (o.nought ∷ list_product o (z ∷ zs) ys),
      length-map ys (o.product x),
      length-list_product o z zs ys,
    )

pub length-of_product : {A : Type 0} (o : Ops A) (xs ys : List A) → 0 < length xs
    → length (list_product o xs ys) ≡ length xs - 1 + max (length ys) 1
length-of_product o [] ys b = absurd (omega arith)
length-of_product o (x ∷ xs) ys b = omega (arith, length-list_product o x xs ys)

module _ {A : Type 0} (o : Ops A) (l : RingLaws o) where
  -- the coefficient of the product times the variable
  abbrev pub behind : List A → List A → ℕ → A
  behind xs ys j = coefficient_at o (o.nought ∷ list_product o xs ys) j

  pub place_step : (x : A) (xs ys : List A) (j : ℕ)
      → coefficient_at o (list_product o (x ∷ xs) ys) j ≡ o.sum (o.product x (coefficient_at o ys j)) (behind xs ys j)
  place_step x xs ys j =
      at_sum o l (map (o.product x) ys) (o.nought ∷ list_product o xs ys) j
      ∙ ap (λ t. o.sum t (behind xs ys j)) (at_scale o l x ys j)

  -- a place past the second list adds nothing
  place_past : (x : A) (xs ys : List A) (j : ℕ) → length ys ≤ j → behind xs ys j ≡ coefficient_at o (list_product o (x ∷ xs) ys) j
  place_past x xs ys j b =
      sym (place_step x xs ys j
      ∙ ap (λ t. o.sum (o.product x t) (behind xs ys j)) (get_or_past ys j o.nought b)
      ∙ ap (λ t. o.sum t (behind xs ys j)) (product_nought o l x) ∙ l.nought_sum (behind xs ys j))

  -- nor do all places before it, once the second list is past
  pub places_past : (xs ys : List A) (i j : ℕ) → i ≤ length xs → (i ≡ 0) ⊎ (length ys ≤ j) → behind (drop i xs) ys j ≡ behind xs ys (i + j)
  places_past xs ys zero j b h = ap (behind xs ys) n
    where
      n : j ≡ 0 + j
      n = omega arith
  places_past [] ys (suc i) j b h = absurd (omega arith)
  places_past (x ∷ xs) ys (suc i) j b (inl e) = absurd (omega arith)
  places_past (x ∷ xs) ys (suc i) j b (inr h) =
      let n : suc (i + j) ≡ suc i + j = omega arith in
      places_past xs ys i j (omega (arith, b)) (inr h) ∙ place_past x xs ys (i + j) (omega (arith, h)) ∙ ap (behind (x ∷ xs) ys) n

  -- before the first step
  pub nothing_yet : (xs ys : List A) (i j : ℕ) → (j ≡ 0) ⊎ (length xs ≤ i) → behind (drop i xs) ys j ≡ o.nought
  nothing_yet xs ys i zero h = refl
  nothing_yet xs ys i (suc j) (inl e) = absurd (omega arith)
  nothing_yet [] ys zero (suc j) (inr h) = refl
  nothing_yet [] ys (suc i) (suc j) (inr h) = refl
  nothing_yet (x ∷ xs) ys zero (suc j) (inr h) = absurd (omega arith)
  nothing_yet (x ∷ xs) ys (suc i) (suc j) (inr h) = nothing_yet xs ys i (suc j) (inr (omega (arith, h)))
