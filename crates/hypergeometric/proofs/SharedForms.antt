-- Lists of forms, the forms that two of them share, and what is left of one without them.
use Rattle.std.proofs.Common.{◌≡◌, ◌≢◌, ℕ, zero, suc, ◌-◌, ◌≤◌, min, refl, ap, sym, ◌∙◌, List, [], ◌∷◌, Bool, true, false, cond, arith, subst, true≢false, ◌⊎◌, inl, inr}
use Rattle.std.proofs.lemmas.Bool.{cond_both, eqb-true}
use Rattle.std.specs.Prelude.{nat_eq}
use Rattle.std.specs.List.{AllByRecursion}
use Rattle.hypergeometric.specs.LinearForm.{LinearForm, Factor}
use Rattle.hypergeometric.specs.FormOrder.{NoFormTwice}
use Rattle.hypergeometric.specs.FactorLists.{same_form, factor_with, power_of, in_both, without}
use Rattle.hypergeometric.proofs.Lookups.{same_form_found, same_form_itself}

-- each power is at least 1
abbrev pub AllSome : List Factor → Type 0
AllSome xs = AllByRecursion (λ x. 1 ≤ x.power) xs

-- a form stands in no entry
abbrev pub IsAbsent : LinearForm → List Factor → Type 0
IsAbsent f xs = AllByRecursion (λ y. y.form ≢ f) xs

pub all_more : (P Q : Factor → Type 0) → ((x : Factor) → P x → Q x) → (xs : List Factor) → AllByRecursion P xs → AllByRecursion Q xs
all_more P Q f [] h = tt
all_more P Q f (x ∷ xs) h = (f x h.0, all_more P Q f xs h.1)

other_form : (f g : LinearForm) (b : Bool) → f ≢ g → same_form f g ≡ b → b ≡ false
other_form f g true n e = absurd (n (same_form_found f g e))
other_form f g false n e = refl

pub power_here : (f : LinearForm) (x : Factor) (xs : List Factor) → f ≡ x.form → power_of f (x ∷ xs) ≡ x.power
power_here f x xs e = ap (λ b. cond b x.power (power_of f xs)) (same_form_itself f x.form e)

pub power_later : (f : LinearForm) (x : Factor) (xs : List Factor) → f ≢ x.form → power_of f (x ∷ xs) ≡ power_of f xs
power_later f x xs n =
    let e : same_form f x.form ≡ false = other_form f x.form (same_form f x.form) n refl in
    ap (λ b. cond b x.power (power_of f xs)) e

-- the power of a form in a list, by whether it is that of the first entry
pub power_by : (P : ℕ → Type 0) (f : LinearForm) (x : Factor) (xs : List Factor) → (f ≡ x.form → P x.power) → (f ≢ x.form → P (power_of f xs))
    → P (power_of f (x ∷ xs))
power_by P f x xs here later =
    cond_both (same_form f x.form) x.power (power_of f xs) P (λ e. here (same_form_found f x.form e))
    (λ e. later (λ same. true≢false (sym (same_form_itself f x.form same) ∙ e)))

pub same_or_other : (f g : LinearForm) → (f ≡ g) ⊎ (f ≢ g)
same_or_other f g = by (same_form f g) refl
  where
    by : (b : Bool) → same_form f g ≡ b → (f ≡ g) ⊎ (f ≢ g)
    by true e = inl (same_form_found f g e)
    by false e = inr (λ s. true≢false (sym (same_form_itself f g s) ∙ e))

pub absent_power : (f : LinearForm) (xs : List Factor) → IsAbsent f xs → power_of f xs ≡ 0
absent_power f [] h = refl
absent_power f (x ∷ xs) h = power_later f x xs (λ e. h.0 (sym e)) ∙ absent_power f xs h.1

-- in a list with no form twice each entry has the power of its form
pub own_powers : (xs : List Factor) → NoFormTwice xs → AllByRecursion (λ x. power_of x.form xs ≡ x.power) xs
own_powers [] h = tt
own_powers (x ∷ xs) h = (power_here x.form x xs refl, rest xs h.0 (own_powers xs h.1))
  where
    rest : (ys : List Factor) → IsAbsent x.form ys → AllByRecursion (λ y. power_of y.form xs ≡ y.power) ys
        → AllByRecursion (λ y. power_of y.form (x ∷ xs) ≡ y.power) ys
    rest [] n e = tt
    rest (y ∷ ys) n e = (power_later y.form x xs n.0 ∙ e.0, rest ys n.1 e.1)

-- by whether a form of the first list stands in the second
pub both_by : (P : List Factor → Type 0) (x : Factor) (xs ys : List Factor) → (power_of x.form ys ≡ 0 → P (in_both xs ys))
    → (1 ≤ power_of x.form ys → P (factor_with x.form (min x.power (power_of x.form ys)) ∷ in_both xs ys)) → P (in_both (x ∷ xs) ys)
both_by P x xs ys none some =
    cond_both (nat_eq (power_of x.form ys) 0) (in_both xs ys) (factor_with x.form (min x.power (power_of x.form ys)) ∷ in_both xs ys) P
    (λ e. none (eqb-true (power_of x.form ys) 0 e)) (λ e. some (at_least_one (power_of x.form ys) e))
  where
    at_least_one : (m : ℕ) → nat_eq m 0 ≡ false → 1 ≤ m
    at_least_one zero e = absurd (true≢false e)
    at_least_one (suc m) e = omega arith

-- what holds of the forms of the first list holds of the shared ones
pub both_forms : (P : LinearForm → Type 0) (xs ys : List Factor) → AllByRecursion (λ x. P x.form) xs → AllByRecursion (λ x. P x.form) (in_both xs ys)
both_forms P [] ys h = tt
both_forms P (x ∷ xs) ys h =
    both_by (AllByRecursion (λ x. P x.form)) x xs ys (λ e. both_forms P xs ys h.1) (λ e. (h.0, both_forms P xs ys h.1))

pub both_distinct : (xs ys : List Factor) → NoFormTwice xs → NoFormTwice (in_both xs ys)
both_distinct [] ys h = tt
both_distinct (x ∷ xs) ys h =
    both_by NoFormTwice x xs ys (λ e. both_distinct xs ys h.1) (λ e. (both_forms (λ f. f ≢ x.form) xs ys h.0, both_distinct xs ys h.1))

-- the shared forms stand in both lists
pub both_in_second : (xs ys : List Factor) → AllByRecursion (λ b. 1 ≤ power_of b.form ys) (in_both xs ys)
both_in_second [] ys = tt
both_in_second (x ∷ xs) ys =
    both_by (AllByRecursion (λ b. 1 ≤ power_of b.form ys)) x xs ys (λ e. both_in_second xs ys) (λ e. (e, both_in_second xs ys))

pub both_in_first : (xs ys : List Factor) → AllSome xs → AllByRecursion (λ b. 1 ≤ power_of b.form xs) (in_both xs ys)
both_in_first [] ys h = tt
both_in_first (x ∷ xs) ys h =
    let later : AllByRecursion (λ b. 1 ≤ power_of b.form (x ∷ xs)) (in_both xs ys) =
    all_more (λ b. 1 ≤ power_of b.form xs) (λ b. 1 ≤ power_of b.form (x ∷ xs))
    (λ b p. power_by (λ m. 1 ≤ m) b.form x xs (λ e. h.0) (λ n. p)) (in_both xs ys) (both_in_first xs ys h.1) in
    both_by (AllByRecursion (λ b. 1 ≤ power_of b.form (x ∷ xs))) x xs ys (λ e. later)
    (λ e. (subst (λ m. 1 ≤ m) (sym (power_here x.form x xs refl)) h.0, later))

-- the shared powers are at least 1, and no greater than either power
pub both_some : (xs ys : List Factor) → AllSome xs → AllSome (in_both xs ys)
both_some [] ys h = tt
both_some (x ∷ xs) ys h = both_by AllSome x xs ys (λ e. both_some xs ys h.1) (λ e. (omega (arith, h.0, e), both_some xs ys h.1))

pub both_below_second : (f : LinearForm) (xs ys : List Factor) → power_of f (in_both xs ys) ≤ power_of f ys
both_below_second f [] ys = omega arith
both_below_second f (x ∷ xs) ys =
    both_by (λ zs. power_of f zs ≤ power_of f ys) x xs ys (λ e. both_below_second f xs ys)
    (λ e. power_by (λ m. m ≤ power_of f ys) f (factor_with x.form (min x.power (power_of x.form ys))) (in_both xs ys)
    (λ same. subst (λ g. min x.power (power_of x.form ys) ≤ power_of g ys) (sym same) (omega arith)) (λ other. both_below_second f xs ys))

pub both_below_first : (f : LinearForm) (xs ys : List Factor) → NoFormTwice xs → power_of f (in_both xs ys) ≤ power_of f xs
both_below_first f [] ys h = omega arith
both_below_first f (x ∷ xs) ys h = power_by (λ m. power_of f (in_both (x ∷ xs) ys) ≤ m) f x xs here (later (both_below_first f xs ys h.1))
  where
    here : f ≡ x.form → power_of f (in_both (x ∷ xs) ys) ≤ x.power
    here e = both_by (λ zs. power_of f zs ≤ x.power) x xs ys
        (λ none. subst (λ g. power_of g (in_both xs ys) ≤ x.power) (sym e)
        (omega (arith, absent_power x.form (in_both xs ys) (both_forms (λ f. f ≢ x.form) xs ys h.0))))
        (λ some. subst (λ m. m ≤ x.power) (sym (power_here f (factor_with x.form (min x.power (power_of x.form ys))) (in_both xs ys) e))
        (omega arith))

    later : power_of f (in_both xs ys) ≤ power_of f xs → f ≢ x.form → power_of f (in_both (x ∷ xs) ys) ≤ power_of f xs
    later below n = both_by (λ zs. power_of f zs ≤ power_of f xs) x xs ys (λ none. below)
        (λ some. subst (λ m. m ≤ power_of f xs) (sym (power_later f (factor_with x.form (min x.power (power_of x.form ys))) (in_both xs ys) n)) below)

-- by whether something is left of the power of an entry
pub without_by : (P : List Factor → Type 0) (x : Factor) (xs ys : List Factor) → (x.power - power_of x.form ys ≡ 0 → P (without xs ys))
    → (1 ≤ x.power - power_of x.form ys → P (factor_with x.form (x.power - power_of x.form ys) ∷ without xs ys)) → P (without (x ∷ xs) ys)
without_by P x xs ys none some =
    cond_both (nat_eq (x.power - power_of x.form ys) 0) (without xs ys) (factor_with x.form (x.power - power_of x.form ys) ∷ without xs ys) P
    (λ e. none (eqb-true (x.power - power_of x.form ys) 0 e)) (λ e. some (at_least_one (x.power - power_of x.form ys) e))
  where
    at_least_one : (m : ℕ) → nat_eq m 0 ≡ false → 1 ≤ m
    at_least_one zero e = absurd (true≢false e)
    at_least_one (suc m) e = omega arith

pub without_forms : (P : LinearForm → Type 0) (xs ys : List Factor) → AllByRecursion (λ x. P x.form) xs
    → AllByRecursion (λ x. P x.form) (without xs ys)
without_forms P [] ys h = tt
without_forms P (x ∷ xs) ys h =
    without_by (AllByRecursion (λ x. P x.form)) x xs ys (λ e. without_forms P xs ys h.1) (λ e. (h.0, without_forms P xs ys h.1))

pub without_distinct : (xs ys : List Factor) → NoFormTwice xs → NoFormTwice (without xs ys)
without_distinct [] ys h = tt
without_distinct (x ∷ xs) ys h =
    without_by NoFormTwice x xs ys (λ e. without_distinct xs ys h.1) (λ e. (without_forms (λ f. f ≢ x.form) xs ys h.0, without_distinct xs ys h.1))

pub without_some : (xs ys : List Factor) → AllSome (without xs ys)
without_some [] ys = tt
without_some (x ∷ xs) ys = without_by AllSome x xs ys (λ e. without_some xs ys) (λ e. (e, without_some xs ys))
