-- A form put at its place among sorted forms.
use Rattle.std.proofs.Common.{◌≡◌, ℕ, Bool, true, false, List, [], ◌∷◌, refl, sym, ◌⊎◌, inl, inr}
use Rattle.std.specs.List.{AllByRecursion}
use Rattle.std.specs.Ordering.{is_lt}
use Rattle.hypergeometric.specs.LinearForm.{LinearForm, Factor}
use Rattle.hypergeometric.specs.FormOrder.{IsBefore, IsSorted}
use Rattle.hypergeometric.specs.FactorLists.{same_form, factor_with}
use Rattle.hypergeometric.proofs.Lookups.{same_form_found}
use Rattle.hypergeometric.proofs.SortedForms.{form_cmp, comes_before, all_after}
use Rattle.term_pieces.proofs.ProductValues.{not_same}
use Rattle.term_pieces.proofs.OneList.{order_of_forms}

-- how two forms stand to one another
abbrev pub Places : LinearForm → LinearForm → Type 0
Places f g = (f ≡ g) ⊎ (IsBefore f g ⊎ IsBefore g f)

-- the same by tests that compute; the last case doesn't come
abbrev pub by_tests : (f g : LinearForm) (b : Bool) → same_form f g ≡ b → (c : Bool) → is_lt (form_cmp g f) ≡ c → (d : Bool) → is_lt (form_cmp f g) ≡ d → Places f g
by_tests f g true e c p d q = inl (same_form_found f g e)
by_tests f g false e false p d q = inr (inl (comes_before f g (not_same f g e) p))
by_tests f g false e true p false q = inr (inr (comes_before g f (λ s. not_same f g e (sym s)) q))
by_tests f g false e true p true q = order_of_forms f g

abbrev pub place_of : (f g : LinearForm) → Places f g
place_of f g = by_tests f g (same_form f g) refl (is_lt (form_cmp g f)) refl (is_lt (form_cmp f g)) refl

-- a form at its place before, in or after the first one; where it stands already nothing is added
abbrev pub placed : (f : LinearForm) (p : ℕ) (x : Factor) (xs rest : List Factor) → Places f x.form → List Factor
placed f p x xs rest (inl same) = x ∷ xs
placed f p x xs rest (inr (inl before)) = factor_with f p ∷ x ∷ xs
placed f p x xs rest (inr (inr after)) = x ∷ rest

abbrev pub put : LinearForm → ℕ → List Factor → List Factor
put f p [] = factor_with f p ∷ []
put f p (x ∷ xs) = placed f p x xs (put f p xs) (place_of f x.form)

-- what holds of the form that is put and of all others holds of all
pub all_put : (P : Factor → Type 0) (f : LinearForm) (p : ℕ) (xs : List Factor) → P (factor_with f p) → AllByRecursion P xs → AllByRecursion P (put f p xs)
all_put P f p [] own h = (own, tt)
all_put P f p (x ∷ xs) own h = by (place_of f x.form) (all_put P f p xs own h.1)
  where
    by : (o : Places f x.form) → AllByRecursion P (put f p xs) → AllByRecursion P (placed f p x xs (put f p xs) o)
    by (inl same) rest = h
    by (inr (inl before)) rest = (own, h)
    by (inr (inr after)) rest = (h.0, rest)

pub sorted_put : (f : LinearForm) (p : ℕ) (xs : List Factor) → IsSorted xs → IsSorted (put f p xs)
sorted_put f p [] s = (tt, tt)
sorted_put f p (x ∷ xs) s = by (place_of f x.form) (sorted_put f p xs s.1)
  where
    by : (o : Places f x.form) → IsSorted (put f p xs) → IsSorted (placed f p x xs (put f p xs) o)
    by (inl same) rest = s
    by (inr (inl before)) rest = ((before, all_after f x.form before xs s.0), s)
    by (inr (inr after)) rest = (all_put (λ y. IsBefore x.form y.form) f p xs after s.0, rest)
