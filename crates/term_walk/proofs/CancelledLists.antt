-- What a loop over a list of factors gathers: what is gathered, followed by what the rest gives, is what the whole list gives.
use Rattle.std.proofs.Common.{◌≡◌, ◌≢◌, ℕ, zero, suc, ◌+◌, ◌-◌, ◌<◌, ◌^◌, min, drop, slice_get, Some, Bool, true, false, cond, List, [], ◌∷◌, ◌++◌, refl, ap, sym, ◌∙◌, arith, subst}
use Rattle.std.specs.List.{AllByRecursion}
use Rattle.hypergeometric.specs.LinearForm.{LinearForm, Factor}
use Rattle.hypergeometric.specs.FormOrder.{NoFormTwice, IsFactor, AreFactors}
use Rattle.hypergeometric.specs.FactorLists.{same_form, factor_with, power_of, with_factor, in_both, without}
use Rattle.hypergeometric.proofs.Lookups.{same_form_found}
use Rattle.hypergeometric.proofs.SharedForms.{both_by, both_distinct, without_by, without_distinct}
use Rattle.proper_term.proofs.ListItems.{item_first}

-- an item behind others in a list in which no form stands twice isn't one of those
differs : (z x : Factor) (xs ys : List Factor) → AllByRecursion (λ y. y.form ≢ z.form) (xs ++ x ∷ ys) → x.form ≢ z.form
differs z x [] ys h = h.0
differs z x (y ∷ xs) ys h = differs z x xs ys h.1

other_form : (b : Bool) (f g : LinearForm) → same_form f g ≡ b → f ≢ g → b ≡ false
other_form true f g e h = absurd (h (same_form_found f g e))
other_form false f g e h = refl

pub not_before : (x : Factor) (xs ys : List Factor) → NoFormTwice (xs ++ x ∷ ys) → power_of x.form xs ≡ 0
not_before x [] ys h = refl
not_before x (z ∷ xs) ys h =
    let no : same_form x.form z.form ≡ false = other_form (same_form x.form z.form) x.form z.form refl (differs z x xs ys h.0) in
    ap (λ (b : Bool). cond b z.power (power_of x.form xs)) no ∙ not_before x xs ys h.1

-- so it goes last
pub goes_last : (f : LinearForm) (p : ℕ) (xs ys : List Factor) → NoFormTwice (xs ++ factor_with f p ∷ ys)
    → with_factor f p xs ≡ xs ++ factor_with f p ∷ []
goes_last f p [] ys h = refl
goes_last f p (z ∷ xs) ys h =
    let no : same_form f z.form ≡ false = other_form (same_form f z.form) f z.form refl (differs z (factor_with f p) xs ys h.0) in
    ap (λ (b : Bool). cond b (factor_with z.form (z.power + p) ∷ xs) (z ∷ with_factor f p xs)) no
    ∙ ap (λ (t : List Factor). z ∷ t) (goes_last f p xs ys h.1)

joined : (xs ys : List Factor) (x : Factor) → (xs ++ x ∷ []) ++ ys ≡ xs ++ x ∷ ys
joined [] ys x = refl
joined (z ∷ xs) ys x = ap (λ (t : List Factor). z ∷ t) (joined xs ys x)

-- one more form is gathered
pub gathers_more : (whole done rest : List Factor) (f : LinearForm) (p : ℕ) → NoFormTwice whole → whole ≡ done ++ factor_with f p ∷ rest
    → whole ≡ with_factor f p done ++ rest
gathers_more whole done rest f p once e =
    e ∙ sym (joined done rest (factor_with f p))
    ∙ ap (λ (t : List Factor). t ++ rest) (sym (goes_last f p done rest (subst NoFormTwice e once)))

pub new_form_fits : (whole done rest : List Factor) (f : LinearForm) (p : ℕ) → NoFormTwice whole → whole ≡ done ++ factor_with f p ∷ rest
    → p < 2 ^ 32 → power_of f done + p < 2 ^ 32
new_form_fits whole done rest f p once e small = omega (arith, not_before (factor_with f p) done rest (subst NoFormTwice e once), small)

-- an item of a list whose items all have something
some_power : (P : Factor → Type 0) (xs : List Factor) (i : ℕ) (x : Factor) → slice_get xs i ≡ Some x → AllByRecursion P xs → P x
some_power P [] i x e h = cc
some_power P (y ∷ xs) zero x e h = let same : y ≡ x = cc in subst P same h.0
some_power P (y ∷ xs) (suc i) x e h = some_power P xs i x e h.1

-- the next form of a list, and its power with regard to another list
module _ (xs ys done : List Factor) (i : ℕ) (x : Factor) (here : slice_get xs i ≡ Some x) (factors : AreFactors xs) where
  abbrev pub rest : List Factor
  rest = drop (i + 1) xs

  -- the smaller power of a form that stands in both
  module _ (p : ℕ) (smaller : p ≡ min x.power (power_of x.form ys)) (leads : in_both xs ys ≡ done ++ in_both (drop i xs) ys) where
    shared_here : 0 < p → in_both (x ∷ rest) ys ≡ factor_with x.form p ∷ in_both rest ys
    shared_here some =
        both_by (λ zs. zs ≡ factor_with x.form p ∷ in_both rest ys) x rest ys (λ none. absurd (omega (arith, smaller, none, some)))
        (λ _. ap (λ q. factor_with x.form q ∷ in_both rest ys) (sym smaller))

    shared_next : 0 < p → in_both xs ys ≡ done ++ factor_with x.form p ∷ in_both rest ys
    shared_next some = leads ∙ ap (λ zs. done ++ in_both zs ys) (item_first xs i x here) ∙ ap (λ zs. done ++ zs) (shared_here some)

    pub shared_more : 0 < p → in_both xs ys ≡ with_factor x.form p done ++ in_both rest ys
    shared_more some = gathers_more (in_both xs ys) done (in_both rest ys) x.form p (both_distinct xs ys factors.distinct) (shared_next some)

    pub shared_fits : 0 < p → p < 2 ^ 32 → power_of x.form done + p < 2 ^ 32
    shared_fits some small =
        new_form_fits (in_both xs ys) done (in_both rest ys) x.form p (both_distinct xs ys factors.distinct) (shared_next some) small

    pub shared_passed : p ≡ 0 → in_both xs ys ≡ done ++ in_both rest ys
    shared_passed none =
        leads ∙ ap (λ zs. done ++ in_both zs ys) (item_first xs i x here)
        ∙ ap (λ zs. done ++ zs) (both_by (λ zs. zs ≡ in_both rest ys) x rest ys (λ _. refl)
        (λ some. absurd (omega (arith, smaller, none, some, (some_power IsFactor xs i x here factors.each).some))))

  -- what is left of its power
  module _ (p : ℕ) (left : p ≡ x.power - power_of x.form ys) (leads : without xs ys ≡ done ++ without (drop i xs) ys) where
    left_here : 0 < p → without (x ∷ rest) ys ≡ factor_with x.form p ∷ without rest ys
    left_here some =
        without_by (λ zs. zs ≡ factor_with x.form p ∷ without rest ys) x rest ys (λ none. absurd (omega (arith, left, none, some)))
        (λ _. ap (λ q. factor_with x.form q ∷ without rest ys) (sym left))

    left_next : 0 < p → without xs ys ≡ done ++ factor_with x.form p ∷ without rest ys
    left_next some = leads ∙ ap (λ zs. done ++ without zs ys) (item_first xs i x here) ∙ ap (λ zs. done ++ zs) (left_here some)

    pub left_more : 0 < p → without xs ys ≡ with_factor x.form p done ++ without rest ys
    left_more some = gathers_more (without xs ys) done (without rest ys) x.form p (without_distinct xs ys factors.distinct) (left_next some)

    pub left_fits : 0 < p → p < 2 ^ 32 → power_of x.form done + p < 2 ^ 32
    left_fits some small =
        new_form_fits (without xs ys) done (without rest ys) x.form p (without_distinct xs ys factors.distinct) (left_next some) small

    pub left_passed : p ≡ 0 → without xs ys ≡ done ++ without rest ys
    left_passed none =
        leads ∙ ap (λ zs. done ++ without zs ys) (item_first xs i x here)
        ∙ ap (λ zs. done ++ zs) (without_by (λ zs. zs ≡ without rest ys) x rest ys (λ _. refl) (λ some. absurd (omega (arith, left, none, some))))
