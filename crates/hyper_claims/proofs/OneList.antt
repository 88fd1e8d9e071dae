-- Only one list has all things of a kind in an order.
use Rattle.std.proofs.Common.{◌≡◌, List, [], ◌∷◌, refl, sym, ◌∙◌, subst, ⊎_elim, inl, inr}
use mathlib.Core.Path.{ap₂}
use Rattle.std.specs.List.{AllByRecursion}
use Rattle.hyper_claims.specs.Orders.{IsAmong, AreInOrder, AreAllInOrder}

-- what holds of each holds of an item
pub item_has : {X : Type 0} (P : X → Type 0) (xs : List X) (x : X) → AllByRecursion P xs → IsAmong x xs → P x
item_has P [] x h m = absurd m
item_has P (y ∷ ys) x h m = ⊎_elim (λ e. subst P (sym e) h.0) (λ n. item_has P ys x h.1 n) m

-- each item is one of the other list too
abbrev Includes : {X : Type 0} → List X → List X → Type 0
Includes {X} ys xs = (x : X) → IsAmong x xs → IsAmong x ys

module _ {X : Type 0} (Before : X → X → Type 0) (never_both : (x y : X) → Before x y → Before y x → ⊥) where
  -- without their first items, which are the same
  rest_included : (x y : X) (xs ys : List X) → x ≡ y → AllByRecursion (Before x) xs → Includes (y ∷ ys) (x ∷ xs) → Includes ys xs
  rest_included x y xs ys e h f z m =
      ⊎_elim (λ d. let itself : Before x x = subst (Before x) (d ∙ sym e) (item_has (Before x) xs z h m) in absurd (never_both x x itself itself))
      (λ n. n) (f z (inr m))

  same_items : (xs ys : List X) → AreInOrder Before xs → AreInOrder Before ys → Includes ys xs → Includes xs ys → xs ≡ ys
  same_items [] [] h k f g = refl
  same_items [] (y ∷ ys) h k f g = absurd (g y (inl refl))
  same_items (x ∷ xs) [] h k f g = absurd (f x (inl refl))
  same_items (x ∷ xs) (y ∷ ys) h k f g =
      let e : x ≡ y =
      ⊎_elim (λ d. d)
      (λ m. ⊎_elim (λ d. sym d) (λ n. absurd (never_both x y (item_has (Before x) xs y h.0 n) (item_has (Before y) ys x k.0 m))) (g y (inl refl)))
      (f x (inl refl)) in
      ap₂ (λ z zs. z ∷ zs) e (same_items xs ys h.1 k.1 (rest_included x y xs ys e h.0 f) (rest_included y x ys xs (sym e) k.0 g))

  pub one_list : (Kind : X → Type 0) (xs ys : List X) → AreAllInOrder Before Kind xs → AreAllInOrder Before Kind ys → xs ≡ ys
  one_list Kind xs ys h k =
      same_items xs ys h.in_order k.in_order (λ x m. k.all x (item_has Kind xs x h.each m)) (λ x m. h.all x (item_has Kind ys x k.each m))
