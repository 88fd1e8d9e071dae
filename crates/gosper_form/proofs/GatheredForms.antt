-- Lists in which forms are gathered: each form once, with the sum of its powers.
use Rattle.std.proofs.Common.{◌≡◌, ◌≢◌, ℕ, ◌+◌, ◌≤◌, ◌<◌, ◌^◌, Bool, true, false, cond, List, [], ◌∷◌, ◌++◌, drop, length, get_or, refl, ap, sym, ◌∙◌, arith, subst}
use Rattle.std.proofs.lemmas.List.{drop_more, drop_all}
use Rattle.std.specs.List.{AllByRecursion}
use Rattle.hypergeometric.specs.LinearForm.{LinearForm, Factor}
use Rattle.hypergeometric.specs.FormOrder.{NoFormTwice}
use Rattle.hypergeometric.specs.TermFacts.{total_power}
use Rattle.hypergeometric.specs.FactorLists.{same_form, factor_with, power_of, with_factor}
use Rattle.hypergeometric.proofs.Lookups.{same_form_found}
use Rattle.term_pieces.specs.Pieces.{gathered_forms}
use Rattle.gosper_form.specs.RaisedForms.{factor_of, factors_of}
use Rattle.gosper_form.specs.declared.raised_forms.RaisedForm.{RaisedForm}
use Rattle.gosper_form.proofs.PowerSums.{added_total, power_within}

-- one form more of the code
module _ (fs : List RaisedForm) (i : ℕ) (x : RaisedForm) (below : i < length fs) (is : x ≡ get_or fs i x) where
  here : factors_of (drop i fs) ≡ factor_of x ∷ factors_of (drop (i + 1) fs)
  here = ap factors_of (drop_more fs i x below) ∙ ap (λ (y : RaisedForm). factor_of y ∷ factors_of (drop (i + 1) fs)) (sym is)

  pub gathered_more : (done new : List Factor) → new ≡ with_factor (factor_of x).form x.power done
      → gathered_forms done (factors_of (drop i fs)) ≡ gathered_forms [] (factors_of fs)
      → gathered_forms new (factors_of (drop (i + 1) fs)) ≡ gathered_forms [] (factors_of fs)
  gathered_more done new e h = ap (λ t. gathered_forms t (factors_of (drop (i + 1) fs))) e ∙ sym (ap (gathered_forms done) here) ∙ h

  few_now : (done : List Factor) → total_power done + total_power (factors_of (drop i fs)) ≡ total_power (factors_of fs)
      → total_power done + (x.power + total_power (factors_of (drop (i + 1) fs))) ≡ total_power (factors_of fs)
  few_now done h = ap (λ t. total_power done + total_power t) (sym here) ∙ h

  pub few_more : (done new : List Factor) → new ≡ with_factor (factor_of x).form x.power done
      → total_power done + total_power (factors_of (drop i fs)) ≡ total_power (factors_of fs)
      → total_power new + total_power (factors_of (drop (i + 1) fs)) ≡ total_power (factors_of fs)
  few_more done new e h =
      let added = ap total_power e ∙ added_total (factor_of x).form x.power done in
      let now = few_now done h in
      omega (arith, added, now)

  pub gathered_fits : (done : List Factor) → total_power (factors_of fs) ≤ 2304
      → total_power done + total_power (factors_of (drop i fs)) ≡ total_power (factors_of fs) → power_of (factor_of x).form done + x.power < 2 ^ 32
  gathered_fits done small h =
      let now = few_now done h in
      let within = power_within (factor_of x).form done in
      omega (arith, now, within, small)

pub gathered_end : (fs : List RaisedForm) (i : ℕ) (done : List Factor) → length fs ≤ i
    → gathered_forms done (factors_of (drop i fs)) ≡ gathered_forms [] (factors_of fs) → done ≡ gathered_forms [] (factors_of fs)
gathered_end fs i done end h = sym (ap (λ ys. gathered_forms done (factors_of ys)) (drop_all i fs end)) ∙ h

pub gathered_total : (done xs : List Factor) → total_power (gathered_forms done xs) ≡ total_power done + total_power xs
gathered_total done [] = omega arith
gathered_total done (x ∷ xs) =
    let rest = gathered_total (with_factor x.form x.power done) xs in
    omega (arith, rest, added_total x.form x.power done)

-- what holds of the forms holds of those that are gathered
module _ (P : LinearForm → Type 0) where
  abbrev AllForms : List Factor → Type 0
  AllForms xs = AllByRecursion (λ x. P x.form) xs

  added_all : (f : LinearForm) (p : ℕ) (xs : List Factor) → P f → AllForms xs → AllForms (with_factor f p xs)
  added_all f p [] h g = (h, tt)
  added_all f p (x ∷ xs) h g = by (same_form f x.form) (added_all f p xs h g.1)
    where
      by : (b : Bool) → AllForms (with_factor f p xs) → AllForms (cond b (factor_with x.form (x.power + p) ∷ xs) (x ∷ with_factor f p xs))
      by true rest = g
      by false rest = (g.0, rest)

  pub gathered_all : (done xs : List Factor) → AllForms done → AllForms xs → AllForms (gathered_forms done xs)
  gathered_all done [] h g = h
  gathered_all done (x ∷ xs) h g = gathered_all (with_factor x.form x.power done) xs (added_all x.form x.power done g.0 h) g.1

-- an item behind others in a list in which no form stands twice isn't one of those, and goes last
other_form : (b : Bool) (f g : LinearForm) → same_form f g ≡ b → f ≢ g → b ≡ false
other_form true f g e h = absurd (h (same_form_found f g e))
other_form false f g e h = refl

differs : (z x : Factor) (xs ys : List Factor) → AllByRecursion (λ y. y.form ≢ z.form) (xs ++ x ∷ ys) → x.form ≢ z.form
differs z x [] ys h = h.0
differs z x (y ∷ xs) ys h = differs z x xs ys h.1

pub goes_last : (x : Factor) (xs ys : List Factor) → NoFormTwice (xs ++ x ∷ ys) → with_factor x.form x.power xs ≡ xs ++ x ∷ []
goes_last x [] ys h = refl
goes_last x (z ∷ xs) ys h =
    let no : same_form x.form z.form ≡ false = other_form (same_form x.form z.form) x.form z.form refl (differs z x xs ys h.0) in
    ap (λ (b : Bool). cond b (factor_with z.form (z.power + x.power) ∷ xs) (z ∷ with_factor x.form x.power xs)) no
    ∙ ap (λ t. z ∷ t) (goes_last x xs ys h.1)

pub not_before : (x : Factor) (xs ys : List Factor) → NoFormTwice (xs ++ x ∷ ys) → power_of x.form xs ≡ 0
not_before x [] ys h = refl
not_before x (z ∷ xs) ys h =
    let no : same_form x.form z.form ≡ false = other_form (same_form x.form z.form) x.form z.form refl (differs z x xs ys h.0) in
    ap (λ (b : Bool). cond b z.power (power_of x.form xs)) no ∙ not_before x xs ys h.1
