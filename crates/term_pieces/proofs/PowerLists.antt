-- The sorted list in which each form has a power that is given: so there is a list for each product of forms.
use Rattle.std.proofs.Common.{◌≡◌, ◌≢◌, ℕ, zero, suc, Bool, true, false, List, [], ◌∷◌, refl, ap, sym, ◌∙◌, arith, ◌⊎◌, inl, inr}
use Rattle.std.specs.List.{AllByRecursion}
use Rattle.std.specs.Prelude.{cond}
use Rattle.hypergeometric.specs.LinearForm.{LinearForm, Factor}
use Rattle.hypergeometric.specs.FormOrder.{IsSorted}
use Rattle.hypergeometric.specs.FactorLists.{same_form, power_of}
use Rattle.hypergeometric.proofs.Lookups.{same_form_found, same_form_itself}
use Rattle.term_pieces.proofs.OneList.{AllSome}
use Rattle.term_pieces.proofs.FormPlaces.{Places, place_of, placed, put, all_put, sorted_put}

-- a form at its place, where its power isn't 0
abbrev put_some : LinearForm → ℕ → List Factor → List Factor
put_some f zero xs = xs
put_some f (suc p) xs = put f (suc p) xs

-- of some forms, those whose power isn't 0, with their powers, sorted
abbrev pub powers_listed : (LinearForm → ℕ) → List LinearForm → List Factor
powers_listed g [] = []
powers_listed g (f ∷ fs) = put_some f (g f) (powers_listed g fs)

-- a form is one of these
abbrev pub IsAmong : LinearForm → List LinearForm → Type 0
IsAmong f [] = ⊥
IsAmong f (g ∷ gs) = (f ≡ g) ⊎ IsAmong f gs

module _ (g : LinearForm → ℕ) where
  abbrev pub AllGiven : List Factor → Type 0
  AllGiven xs = AllByRecursion (λ x. x.power ≡ g x.form) xs

  pub listed_given : (fs : List LinearForm) → AllGiven (powers_listed g fs)
  listed_given [] = tt
  listed_given (f ∷ fs) = by (g f) refl (listed_given fs)
    where
      by : (p : ℕ) → g f ≡ p → AllGiven (powers_listed g fs) → AllGiven (put_some f p (powers_listed g fs))
      by zero e rest = rest
      by (suc p) e rest = all_put (λ x. x.power ≡ g x.form) f (suc p) (powers_listed g fs) (sym e) rest

  pub listed_some : (fs : List LinearForm) → AllSome (powers_listed g fs)
  listed_some [] = tt
  listed_some (f ∷ fs) = by (g f) (listed_some fs)
    where
      by : (p : ℕ) → AllSome (powers_listed g fs) → AllSome (put_some f p (powers_listed g fs))
      by zero rest = rest
      by (suc p) rest = all_put (λ x. x.power ≢ 0) f (suc p) (powers_listed g fs) (λ z. omega (arith, z)) rest

  pub listed_sorted : (fs : List LinearForm) → IsSorted (powers_listed g fs)
  listed_sorted [] = tt
  listed_sorted (f ∷ fs) = by (g f) (listed_sorted fs)
    where
      by : (p : ℕ) → IsSorted (powers_listed g fs) → IsSorted (put_some f p (powers_listed g fs))
      by zero rest = rest
      by (suc p) rest = sorted_put f (suc p) (powers_listed g fs) rest

  -- a form without a power has none in the list
  none_given : (h : LinearForm) (xs : List Factor) → AllGiven xs → g h ≡ 0 → power_of h xs ≡ 0
  none_given h [] all z = refl
  none_given h (x ∷ xs) all z = by (same_form h x.form) refl (none_given h xs all.1 z)
    where
      by : (b : Bool) → same_form h x.form ≡ b → power_of h xs ≡ 0 → cond b x.power (power_of h xs) ≡ 0
      by true e rest = all.0 ∙ ap g (sym (same_form_found h x.form e)) ∙ z
      by false e rest = rest

  -- a form that has its power keeps it
  put_keeps : (h f : LinearForm) (p : ℕ) (xs : List Factor) → g f ≡ p → power_of h xs ≡ g h → power_of h (put f p xs) ≡ g h
  put_keeps h f p [] e own = by (same_form h f) refl
    where
      by : (b : Bool) → same_form h f ≡ b → cond b p 0 ≡ g h
      by true s = sym e ∙ ap g (sym (same_form_found h f s))
      by false s = own
  put_keeps h f p (x ∷ xs) e own = by (place_of f x.form) (put_keeps h f p xs e)
    where
      first : (b : Bool) → same_form h f ≡ b → cond b p (power_of h (x ∷ xs)) ≡ g h
      first true s = sym e ∙ ap g (sym (same_form_found h f s))
      first false s = own

      later : (b : Bool) → same_form h x.form ≡ b → cond b x.power (power_of h xs) ≡ g h → (power_of h xs ≡ g h → power_of h (put f p xs) ≡ g h)
          → cond b x.power (power_of h (put f p xs)) ≡ g h
      later true s is rest = is
      later false s is rest = rest is

      by : (o : Places f x.form) → (power_of h xs ≡ g h → power_of h (put f p xs) ≡ g h) → power_of h (placed f p x xs (put f p xs) o) ≡ g h
      by (inl same) rest = own
      by (inr (inl before)) rest = first (same_form h f) refl
      by (inr (inr after)) rest = later (same_form h x.form) refl own rest

  -- the form that is put has its power
  put_here : (f : LinearForm) (p : ℕ) (xs : List Factor) → g f ≡ p → AllGiven xs → power_of f (put f p xs) ≡ g f
  put_here f p [] e all = ap (λ b. cond b p 0) (same_form_itself f f refl) ∙ sym e
  put_here f p (x ∷ xs) e all = by (place_of f x.form) (put_here f p xs e all.1)
    where
      later : (b : Bool) → same_form f x.form ≡ b → power_of f (put f p xs) ≡ g f → cond b x.power (power_of f (put f p xs)) ≡ g f
      later true s rest = all.0 ∙ ap g (sym (same_form_found f x.form s))
      later false s rest = rest

      by : (o : Places f x.form) → power_of f (put f p xs) ≡ g f → power_of f (placed f p x xs (put f p xs) o) ≡ g f
      by (inl same) rest = ap (λ b. cond b x.power (power_of f xs)) (same_form_itself f x.form same) ∙ all.0 ∙ ap g (sym same)
      by (inr (inl before)) rest = ap (λ b. cond b p (power_of f (x ∷ xs))) (same_form_itself f f refl) ∙ sym e
      by (inr (inr after)) rest = later (same_form f x.form) refl rest

  among_listed : (h : LinearForm) (fs : List LinearForm) → IsAmong h fs → power_of h (powers_listed g fs) ≡ g h
  among_listed h [] is = absurd is
  among_listed h (f ∷ fs) is = by (g f) refl is (among_listed h fs)
    where
      by : (p : ℕ) → g f ≡ p → ((h ≡ f) ⊎ IsAmong h fs) → (IsAmong h fs → power_of h (powers_listed g fs) ≡ g h)
          → power_of h (put_some f p (powers_listed g fs)) ≡ g h
      by zero e (inl same) later = none_given h (powers_listed g fs) (listed_given fs) (ap g same ∙ e) ∙ sym (ap g same ∙ e)
      by zero e (inr rest) later = later rest
      by (suc p) e (inl same) later =
          ap (λ t. power_of t (put f (suc p) (powers_listed g fs))) same ∙ put_here f (suc p) (powers_listed g fs) e (listed_given fs) ∙ ap g (sym same)
      by (suc p) e (inr rest) later = put_keeps h f (suc p) (powers_listed g fs) e (later rest)

  -- where the forms have all that have a power, each has its power
  pub listed_power : (h : LinearForm) (fs : List LinearForm) → (g h ≢ 0 → IsAmong h fs) → power_of h (powers_listed g fs) ≡ g h
  listed_power h fs has = by (g h) refl
    where
      by : (p : ℕ) → g h ≡ p → power_of h (powers_listed g fs) ≡ g h
      by zero e = none_given h (powers_listed g fs) (listed_given fs) e ∙ sym e
      by (suc p) e = among_listed h fs (has (λ z. omega (arith, z, e)))
