-- A sum of polynomials from the last on: where a step is out of bounds, so is the sum of all as one operation.
use Rattle.std.proofs.Common.{◌≡◌, ℕ, zero, suc, refl, ap, sym, ◌∙◌, subst, List, [], ◌∷◌, map, drop, length, get_or, ◌<◌, ◌≤◌, ◌-◌}
use Rattle.std.specs.Prelude.{IsTrue}
use Rattle.ring_laws.specs.Meaning.{Meaning}
use Rattle.ring_laws.specs.Algebra.{Passing, SumInBounds}
use Rattle.poly_laws.specs.Values.{level}
use Rattle.poly_laws.specs.TwoVariables.{in_n_and_k}
use Rattle.hypergeometric.proofs.FormPolynomials.{laws, o}
use Rattle.term_classes.specs.Finding.{sum_of_polynomials, sizes_added}
use Rattle.tree_polynomials.proofs.ItemsBehind.{item_first}

module _ {T : Type 0} (meaning : T → Meaning) (passes : (x : T) → IsTrue ((level 2).passes (meaning x))) where
  abbrev inside : T → Passing (level 2)
  inside x = (meaning x, passes x)

  abbrev sum_in : List T → Passing (level 2)
  sum_in [] = o.nought
  sum_in (x ∷ xs) = o.sum (inside x) (sum_in xs)

  abbrev sizes_in : List T → Passing (level 2)
  sizes_in [] = o.nought
  sizes_in (x ∷ xs) = o.sum (o.magnitude (inside x)) (sizes_in xs)

  sum_first : (xs : List T) → (sum_in xs).0 ≡ sum_of_polynomials (map meaning xs)
  sum_first [] = refl
  sum_first (x ∷ xs) = ap (in_n_and_k.sum (meaning x)) (sum_first xs)

  sizes_first : (xs : List T) → (sizes_in xs).0 ≡ sizes_added (map meaning xs)
  sizes_first [] = refl
  sizes_first (x ∷ xs) = ap (in_n_and_k.sum (in_n_and_k.magnitude (meaning x))) (sizes_first xs)

  -- the sum of the magnitudes is its own magnitude
  sizes_own : (xs : List T) → o.magnitude (sizes_in xs) ≡ sizes_in xs
  sizes_own [] = laws.magnitudes.of_nought
  sizes_own (x ∷ xs) =
      ap (λ (t : Passing (level 2)). o.magnitude (o.sum (o.magnitude (inside x)) t)) (sym (sizes_own xs))
      ∙ laws.magnitudes.of_sum (inside x) (sizes_in xs)
      ∙ ap (o.sum (o.magnitude (inside x))) (sizes_own xs)

  -- adding on the left keeps what covers
  covers_added : (z x y : Passing (level 2)) → o.Covers x y → o.Covers (o.sum z x) (o.sum z y)
  covers_added z x y h =
      subst (λ (t : Passing (level 2)). o.Covers t (o.sum z y)) (laws.ring.sum_comm x z)
      (subst (λ (t : Passing (level 2)). o.Covers (o.sum x z) t) (laws.ring.sum_comm y z) (laws.magnitudes.covers_sum x y z h))

  sizes_cover : (xs : List T) → o.Covers (sizes_in xs) (o.magnitude (sum_in xs))
  sizes_cover [] = subst (λ (t : Passing (level 2)). o.Covers o.nought t) (sym laws.magnitudes.of_nought) (laws.magnitudes.covers_same o.nought)
  sizes_cover (x ∷ xs) =
      laws.magnitudes.covers_trans (sizes_in (x ∷ xs)) (o.sum (o.magnitude (inside x)) (o.magnitude (sum_in xs))) (o.magnitude (sum_in (x ∷ xs)))
      (covers_added (o.magnitude (inside x)) (sizes_in xs) (o.magnitude (sum_in xs)) (sizes_cover xs))
      (laws.magnitudes.sum_covers (inside x) (sum_in xs))

  -- where the magnitudes fit, the step does
  step_fits : (x : T) (xs : List T) → o.Fits (sizes_in (x ∷ xs)) → o.Fits (o.sum (o.magnitude (inside x)) (o.magnitude (sum_in xs)))
  step_fits x xs h =
      subst o.Fits (laws.magnitudes.of_sum (inside x) (sum_in xs))
      (laws.magnitudes.fits_covered (sizes_in (x ∷ xs)) (o.sum (o.magnitude (inside x)) (o.magnitude (sum_in xs))) h
      (subst (λ (t : Passing (level 2)). o.Covers (sizes_in (x ∷ xs)) t) (sym (laws.magnitudes.of_sum (inside x) (sum_in xs)))
      (covers_added (o.magnitude (inside x)) (sizes_in xs) (o.magnitude (sum_in xs)) (sizes_cover xs))))

  -- and so do the magnitudes of a later part
  rest_fits : (x : T) (xs : List T) → o.Fits (sizes_in (x ∷ xs)) → o.Fits (sizes_in xs)
  rest_fits x xs h =
      subst o.Fits (sizes_own xs) (laws.magnitudes.fits_covered (sizes_in (x ∷ xs)) (sizes_in xs) h
      (subst (λ (t : Passing (level 2)). o.Covers (sizes_in (x ∷ xs)) t) (sym (sizes_own xs))
      (subst (λ (t : Passing (level 2)). o.Covers t (sizes_in xs)) (laws.ring.sum_comm (sizes_in xs) (o.magnitude (inside x)))
      (laws.magnitudes.part_covered (sizes_in xs) (inside x)))))

  dropped_fits : (i : ℕ) (xs : List T) → o.Fits (sizes_in xs) → o.Fits (sizes_in (drop i xs))
  dropped_fits zero xs h = h
  dropped_fits (suc i) [] h = h
  dropped_fits (suc i) (x ∷ xs) h = dropped_fits i xs (rest_fits x xs h)

  step_out : (xs : List T) (i : ℕ) (x : T) (rest : List T) (m : Meaning) → drop i xs ≡ x ∷ rest → m ≡ sum_of_polynomials (map meaning rest)
      → ¬ SumInBounds (level 2) (meaning x) m → ¬ in_n_and_k.Fits (sizes_added (map meaning xs))
  step_out xs i x rest m e h out fits =
      let all : o.Fits (sizes_in xs) = subst in_n_and_k.Fits (sym (sizes_first xs)) fits in
      let here : o.Fits (sizes_in (x ∷ rest)) = subst (λ (t : List T). o.Fits (sizes_in t)) e (dropped_fits i xs all) in
      out (subst (λ t. SumInBounds (level 2) (meaning x) t) (sum_first rest ∙ sym h) (step_fits x rest here))

-- one more summand
pub sum_step : {T : Type 0} (xs : List T) (meaning : T → Meaning) (i : ℕ) (x : T) (m sum : Meaning) → 0 < i → i ≤ length xs → x ≡ get_or xs (i - 1) x
    → m ≡ sum_of_polynomials (map meaning (drop i xs)) → sum ≡ in_n_and_k.sum (meaning x) m → sum ≡ sum_of_polynomials (map meaning (drop (i - 1) xs))
sum_step xs meaning i x m sum some within is h e =
    e ∙ ap (in_n_and_k.sum (meaning x)) h ∙ ap (λ t. sum_of_polynomials (map meaning t)) (sym (item_first xs i x some within is))

-- a summand whose sum with those behind it is out of bounds
pub sum_out : {T : Type 0} (xs : List T) (meaning : T → Meaning) (passes : (x : T) → IsTrue ((level 2).passes (meaning x)))
    (i : ℕ) (x : T) (m : Meaning) → 0 < i → i ≤ length xs → x ≡ get_or xs (i - 1) x → m ≡ sum_of_polynomials (map meaning (drop i xs))
    → ¬ SumInBounds (level 2) (meaning x) m
    → ¬ in_n_and_k.Fits (sizes_added (map meaning xs))
sum_out xs meaning passes i x m some within is h out =
    step_out meaning passes xs (i - 1) x (drop i xs) m (item_first xs i x some within is) h out
