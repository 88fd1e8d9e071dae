-- A fact of each item of a list is one of the item at an index.
use Rattle.std.specs.Prelude.{◌≡◌, ℕ, zero, suc, ◌<◌, List, [], ◌∷◌, length, map, get_or}
use Rattle.std.specs.List.{AllByRecursion}
use Rattle.std.proofs.Common.{subst, sym, arith}

module _ {A B : Type 0} (P : B → Type 0) (f : A → B) where
  -- what each item keeps, the item at an index keeps
  pub all_at : (xs : List A) (i : ℕ) (x : A) → i < length xs → x ≡ get_or xs i x → AllByRecursion P (map f xs) → P (f x)
  all_at [] i x below is h = absurd (omega (arith, below))
  all_at (y ∷ ys) zero x below is h = subst (λ z. P (f z)) (sym is) h.0
  all_at (y ∷ ys) (suc i) x below is h = all_at ys i x (omega (arith, below)) is h.1
