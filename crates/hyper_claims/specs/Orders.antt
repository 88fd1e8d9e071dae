-- Lists of all things of a kind, in an order.
use Rattle.std.specs.Prelude.{◌≡◌, ◌⊎◌, List, [], ◌∷◌}
use Rattle.std.specs.List.{AllByRecursion}

-- x is an item
abbrev pub IsAmong : {X : Type 0} → X → List X → Type 0
IsAmong x [] = ⊥
IsAmong x (y ∷ ys) = (x ≡ y) ⊎ IsAmong x ys

-- each item comes before those behind it
abbrev pub AreInOrder : {X : Type 0} → (X → X → Type 0) → List X → Type 0
AreInOrder Before [] = Unit {0}
AreInOrder Before (x ∷ xs) = AllByRecursion (Before x) xs × AreInOrder Before xs

-- the list of all things of the kind, in order; so each stands once
pub record AreAllInOrder {X : Type 0} (Before : X → X → Type 0) (Kind : X → Type 0) (xs : List X) : Type 0 where
  pub in_order : AreInOrder Before xs
  pub each : AllByRecursion Kind xs
  pub all : (x : X) → Kind x → IsAmong x xs
