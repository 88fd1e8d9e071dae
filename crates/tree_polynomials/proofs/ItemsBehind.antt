-- A list read from its end.
use Rattle.std.proofs.Common.{◌≡◌, ℕ, zero, suc, refl, ap, ◌∙◌, List, ◌∷◌, drop, length, get_or, ◌<◌, ◌≤◌, ◌-◌, arith}
use Rattle.std.proofs.lemmas.Option.{slice_get_read}
use Rattle.lin_form.proofs.ListProducts.{from_index}

-- the item that comes next stands first
pub item_first : {A : Type 0} (xs : List A) (i : ℕ) (x : A) → 0 < i → i ≤ length xs → x ≡ get_or xs (i - 1) x → drop (i - 1) xs ≡ x ∷ drop i xs
item_first xs zero x some within is = absurd (omega (arith, some))
item_first xs (suc i) x some within is =
    ap (λ j. drop j xs) (last i) ∙ from_index xs i x (slice_get_read xs (length xs) i x refl (omega (arith, within))
    (is ∙ ap (λ j. get_or xs j x) (last i)))
  where
    last : (i : ℕ) → suc i - 1 ≡ i
    last i = omega arith
