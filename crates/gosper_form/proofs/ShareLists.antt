-- The shares of the items of a list, one after the other, and how often they stand there in all.
use Rattle.std.proofs.Common.{◌≡◌, ℕ, zero, suc, ◌+◌, ◌*◌, ◌≤◌, List, [], ◌∷◌, ◌++◌, drop, length, slice_get, Some, refl, ap, sym, ◌∙◌, arith, subst, append_assoc, add-one}
use Rattle.std.specs.List.{AllByRecursion}
use Rattle.hypergeometric.specs.LinearForm.{LinearForm, Factor}
use Rattle.hypergeometric.specs.FormOrder.{IsFactor}
use Rattle.hypergeometric.specs.ProperTerm.{ProperTerm}
use Rattle.hypergeometric.specs.TermFacts.{IsWithinLimits, AllWithinLimits, IsPlain, total_power}
use Rattle.lin_form.proofs.ListProducts.{from_index, all_dropped}
use Rattle.term_pieces.specs.ItemForms.{from_each}
use Rattle.gosper_form.specs.Shares.{share_of, CanGive}
use Rattle.gosper_form.specs.declared.shares.Share.{Share}
use Rattle.gosper_form.proofs.Pushes.{append_nothing}
use Rattle.gosper_form.proofs.ShareTotals.{joined_total, shares_total}

-- what holds of each item holds of the one at an index
pub at_index : (P : Factor → Type 0) (xs : List Factor) (i : ℕ) (x : Factor) → slice_get xs i ≡ Some x → AllByRecursion P xs → P x
at_index P xs i x e h = by xs i e h
  where
    by : (xs : List Factor) (i : ℕ) → slice_get xs i ≡ Some x → AllByRecursion P xs → P x
    by [] i e h = cc
    by (y ∷ xs) zero e h = let same : y ≡ x = cc in subst P same h.0
    by (y ∷ xs) (suc i) e h = by xs i e h.1

-- no power is greater than all together
pub power_of_item : (xs : List Factor) (i : ℕ) (x : Factor) → slice_get xs i ≡ Some x → x.power ≤ total_power xs
power_of_item [] i x e = cc
power_of_item (y ∷ xs) zero x e =
    let same : y ≡ x = cc in
    let own = ap (λ (z : Factor). z.power) same in
    omega (arith, own)
power_of_item (y ∷ xs) (suc i) x e =
    let rest = power_of_item xs i x e in
    omega (arith, rest)

-- the share of one more item
pub shares_more : (g : Factor → List Factor) (xs : List Factor) (i : ℕ) (x : Factor) → slice_get xs i ≡ Some x → (whole done new : List Factor)
    → whole ≡ done ++ from_each g (drop i xs) → new ≡ done ++ g x → whole ≡ new ++ from_each g (drop (i + 1) xs)
shares_more g xs i x item whole done new e h =
    e ∙ ap (λ ys. done ++ from_each g ys) (from_index xs i x item)
    ∙ sym (append_assoc done (g x) (from_each g (drop (suc i) xs)))
    ∙ (λ t. sym h t ++ from_each g (drop (sym (add-one i) t) xs))

pub shares_end : (g : Factor → List Factor) (xs : List Factor) (i : ℕ) → length xs ≤ i → (whole done : List Factor)
    → whole ≡ done ++ from_each g (drop i xs) → done ≡ whole
shares_end g xs i end whole done e = sym (e ∙ ap (λ ys. done ++ from_each g ys) (all_dropped xs i end) ∙ append_nothing done)

abbrev CanAllGive : Share → List Factor → Type 0
CanAllGive share xs = AllByRecursion (λ x. CanGive share x.form) xs

-- how often they stand there with what was there before
pub shares_few : (share : Share) (order : ℕ) (xs : List Factor) → order ≤ 6 → AllWithinLimits xs → CanAllGive share xs → (old new : List Factor)
    → new ≡ old ++ from_each (share_of share order) xs → total_power new ≤ total_power old + 96 * total_power xs
shares_few share order xs low within can old new e =
    let both = joined_total old (from_each (share_of share order) xs) in
    let all = shares_total share order xs low within can in
    omega (arith, ap total_power e, both, all)

-- what holds of all items, and what each item can give
pub each_item : (P Q : Factor → Type 0) → ((x : Factor) → P x → Q x) → (xs : List Factor) → AllByRecursion P xs → AllByRecursion Q xs
each_item P Q g [] h = tt
each_item P Q g (x ∷ xs) h = (g x h.0, each_item P Q g xs h.1)

pub any_item : (Q : Factor → Type 0) → ((x : Factor) → Q x) → (xs : List Factor) → AllByRecursion Q xs
any_item Q g [] = tt
any_item Q g (x ∷ xs) = (g x, any_item Q g xs)
