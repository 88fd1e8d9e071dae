-- Walks of a list of factors, item by item.
use Rattle.std.proofs.Common.{◌≡◌, ◌≢◌, ℕ, ◌+◌, ◌↔◌, refl, ap, sym, ◌∙◌, subst, add-one, List, [], ◌∷◌, Some, Bool, true, false, drop, slice_get}
use Rattle.std.specs.Prelude.{if◌then◌else◌, ℤ, pos, ◌≤ℤ◌}
use Rattle.std.specs.List.{AllByRecursion}
use Rattle.std.specs.Ordering.{int_eq}
use Rattle.std.proofs.lemmas.Bool.Decides.{Decides-int_eq}
use Rattle.hypergeometric.specs.Point.{Point}
use Rattle.hypergeometric.specs.LinearForm.{Factor, form_value}
use Rattle.hypergeometric.specs.ProperTerm.{NoneNegative, NoneZero}
use Rattle.lin_form.proofs.ListProducts.{from_index}
use Rattle.hypergeometric.specs.NaturalRange.{first_with_slope}

-- what stands at a place begins the list without what is before it
pub item_first : {A : Type 0} (xs : List A) (i : ℕ) (x : A) → slice_get xs i ≡ Some x → drop i xs ≡ x ∷ drop (i + 1) xs
item_first xs i x e = from_index xs i x e ∙ ap (λ j. x ∷ drop j xs) (sym (add-one i))

-- an item with the slope is the first one
pub first_here : (slope : ℤ) (left : List Factor) (x : Factor) (rest : List Factor) → left ≡ x ∷ rest → x.form.k_slope ≡ slope
    → first_with_slope slope left ≡ Some x.form
first_here slope left x rest e same =
    ap (first_with_slope slope) e
    ∙ ap (λ b. if b then Some x.form else first_with_slope slope rest) ((Decides-int_eq x.form.k_slope slope).1 same)

-- an item with another slope is passed
pub first_later : (slope : ℤ) (left : List Factor) (x : Factor) (rest : List Factor) → left ≡ x ∷ rest → x.form.k_slope ≢ slope
    → first_with_slope slope rest ≡ first_with_slope slope left
first_later slope left x rest e other =
    sym (ap (first_with_slope slope) e
    ∙ ap (λ b. if b then Some x.form else first_with_slope slope rest) (not_same (int_eq x.form.k_slope slope) refl))
  where
    not_same : (b : Bool) → int_eq x.form.k_slope slope ≡ b → int_eq x.form.k_slope slope ≡ false
    not_same true h = absurd (other ((Decides-int_eq x.form.k_slope slope).0 h))
    not_same false h = h

-- a fact of each item
pub all_from : {A : Type 0} (P : A → Type 0) (xs left : List A) (x : A) (rest : List A) → left ≡ x ∷ rest
    → (AllByRecursion P left ↔ AllByRecursion P xs) → P x → (AllByRecursion P rest ↔ AllByRecursion P xs)
all_from P xs left x rest e h p = (
  λ others. h.0 (subst (AllByRecursion P) (sym e) (p, others)),
  λ all. (subst (AllByRecursion P) e (h.1 all)).1,
)

-- no value is negative, and none is 0, as facts of each item
pub negative_all : (xs : List Factor) (p : Point) → NoneNegative xs p ↔ AllByRecursion (λ x. pos 0 ≤ℤ form_value x.form p) xs
negative_all [] p = (λ h. h, λ h. h)
negative_all (x ∷ xs) p = (λ h. (h.0, (negative_all xs p).0 h.1), λ h. (h.0, (negative_all xs p).1 h.1))

pub zero_all : (xs : List Factor) (p : Point) → NoneZero xs p ↔ AllByRecursion (λ x. form_value x.form p ≢ pos 0) xs
zero_all [] p = (λ h. h, λ h. h)
zero_all (x ∷ xs) p = (λ h. (h.0, (zero_all xs p).0 h.1), λ h. (h.0, (zero_all xs p).1 h.1))
