-- Lists of all numbers of a range that have a property.
use Rattle.std.specs.Prelude.{◌≡◌, ◌⊎◌, ℕ, zero, suc, ◌+◌, ◌<◌, ◌≤◌, length, drop, get_or, ℤ, pos, negsuc, ◌-ℤ◌, ◌≤ℤ◌, ◌<ℤ◌, List, [], ◌∷◌, ◌++◌, refl}
use Rattle.std.proofs.Common.{sym, subst, inl, inr, ⊎_elim, arith}
use Rattle.std.proofs.lemmas.Int.{ints}
use Rattle.std.proofs.lemmas.List.{drop_more}
use Rattle.whole_roots.specs.Roots.{IsItem, IsRising}
use Rattle.whole_roots.specs.Turns.{AreAll}

pub at_most_or_above : (x y : ℤ) → (x ≤ℤ y) ⊎ (y <ℤ x)
at_most_or_above x y = by_difference (y -ℤ x) refl
  where
    by_difference : (d : ℤ) → y -ℤ x ≡ d → (x ≤ℤ y) ⊎ (y <ℤ x)
    by_difference (pos n) e = inl (omega (arith, ints, e))
    by_difference (negsuc n) e = inr (omega (arith, ints, e))

drop_all : (xs : List ℤ) (k : ℕ) → length xs ≤ k → drop k xs ≡ []
drop_all [] zero h = refl
drop_all [] (suc k) h = refl
drop_all (x ∷ xs) zero h = absurd (omega (arith, h))
drop_all (x ∷ xs) (suc k) h = drop_all xs k (omega (arith, h))

module _ (P : ℤ → Type 0) where
  -- the item at an index, where the list from there on is read
  pub next_of_all : (low high : ℤ) (xs : List ℤ) (index : ℕ) → index < length xs → AreAll P low high (drop index xs)
      → AreAll P low high (get_or xs index (pos 0) ∷ drop (index + 1) xs)
  next_of_all low high xs index b h = subst (AreAll P low high) (drop_more xs index (pos 0) b) h

  -- no item is left
  pub none_of_all : (low high : ℤ) (xs : List ℤ) (index : ℕ) → length xs ≤ index → AreAll P low high (drop index xs)
      → (z : ℤ) → low <ℤ z → z ≤ℤ high → ¬ (P z)
  none_of_all low high xs index b h = subst (AreAll P low high) (drop_all xs index b) h

  -- two neighbouring ranges
  pub all_joined : (low middle high : ℤ) (xs ys : List ℤ) → low ≤ℤ middle → middle ≤ℤ high → AreAll P low middle xs → AreAll P middle high ys
      → AreAll P low high (xs ++ ys)
  all_joined low middle high [] [] p q h k =
      λ z above within. ⊎_elim (λ t. h z above t) (λ t. k z t within) (at_most_or_above z middle)
  all_joined low middle high [] (y ∷ ys) p q h k = (
    (omega (arith, ints, p, k.0.0), k.0.1),
    (k.1.0, ((λ z above before. ⊎_elim (λ t. h z above t) (λ t. k.1.1.0 z t before) (at_most_or_above z middle)), k.1.1.1)),
  )
  all_joined low middle high (x ∷ xs) ys p q h k =
      ((h.0.0, omega (arith, ints, q, h.0.1)), (h.1.0, (h.1.1.0, all_joined x middle high xs ys h.0.1 q h.1.1.1 k)))

  -- one number that has it, the first above the low end, ends the range
  pub one_of_all : (low x : ℤ) → low <ℤ x → P x → ((z : ℤ) → low <ℤ z → z <ℤ x → ¬ (P z)) → AreAll P low x (x ∷ [])
  one_of_all low x b p first = ((b, omega (arith, ints)), (p, (first, λ z above within. absurd (omega (arith, ints, above, within)))))

  -- the number behind the range has it too
  pub one_more : (low x : ℤ) (xs : List ℤ) → low <ℤ x → P x → AreAll P low (x -ℤ pos 1) xs → AreAll P low x (xs ++ x ∷ [])
  one_more low x xs b p h =
      all_joined low (x -ℤ pos 1) x xs (x ∷ []) (omega (arith, ints, b)) (omega (arith, ints)) h
      (one_of_all (x -ℤ pos 1) x (omega (arith, ints)) p (λ z above before. absurd (omega (arith, ints, above, before))))

  -- no more of them up to a greater end
  pub all_extended : (low middle high : ℤ) (xs : List ℤ) → middle ≤ℤ high → AreAll P low middle xs
      → ((z : ℤ) → middle <ℤ z → z ≤ℤ high → ¬ (P z)) → AreAll P low high xs
  all_extended low middle high [] q h k = λ z above within. ⊎_elim (λ t. h z above t) (λ t. k z t within) (at_most_or_above z middle)
  all_extended low middle high (x ∷ xs) q h k =
      ((h.0.0, omega (arith, ints, q, h.0.1)), (h.1.0, (h.1.1.0, all_extended x middle high xs q h.1.1.1 k)))

  -- what the list says of the range
  pub item_above : (low high : ℤ) (xs : List ℤ) → AreAll P low high xs → (z : ℤ) → IsItem z xs → low <ℤ z
  item_above low high [] h z i = absurd i
  item_above low high (x ∷ xs) h z (inl e) = omega (arith, ints, e, h.0.0)
  item_above low high (x ∷ xs) h z (inr i) = omega (arith, ints, h.0.0, item_above x high xs h.1.1.1 z i)

  pub all_rising : (low high : ℤ) (xs : List ℤ) → AreAll P low high xs → IsRising xs
  all_rising low high [] h = tt
  all_rising low high (x ∷ xs) h = (item_above x high xs h.1.1.1, all_rising x high xs h.1.1.1)

  pub each_has : (low high : ℤ) (xs : List ℤ) → AreAll P low high xs → (z : ℤ) → IsItem z xs → P z
  each_has low high [] h z i = absurd i
  each_has low high (x ∷ xs) h z (inl e) = subst P (sym e) h.1.0
  each_has low high (x ∷ xs) h z (inr i) = each_has x high xs h.1.1.1 z i

  pub is_item : (low high : ℤ) (xs : List ℤ) → AreAll P low high xs → (z : ℤ) → low <ℤ z → z ≤ℤ high → P z → IsItem z xs
  is_item low high [] h z above within p = absurd (h z above within p)
  is_item low high (x ∷ xs) h z above within p =
      ⊎_elim (λ t. ⊎_elim (λ (s : x ≤ℤ z). inl (omega (arith, ints, s, t))) (λ (s : z <ℤ x). absurd (h.1.1.0 z above s p)) (at_most_or_above x z))
      (λ t. inr (is_item x high xs h.1.1.1 z t within p)) (at_most_or_above z x)
