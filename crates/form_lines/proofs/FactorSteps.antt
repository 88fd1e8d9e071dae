-- The steps of reading and writing lists of factors.
use Rattle.std.specs.Prelude.{◌≡◌, ◌≢◌, ℕ, suc, ◌+◌, ◌≤◌, ◌<◌, Bool, true, false, cond, pos, List, [], ◌∷◌, ◌++◌, length, map, Option, Some, None, Result, Ok, Err, IfOk}
use Rattle.std.specs.List.{AllByRecursion}
use Rattle.std.specs.Option.{MatchOption}
use Rattle.std.proofs.Common.{refl, ap, sym, subst, ◌∙◌, arith, take, drop, get_or, drop-cons}
use Rattle.std.proofs.lemmas.List.{take-append-drop, take_more, map-append}
use Rattle.hypergeometric.specs.LinearForm.{LinearForm, Factor, FactorList}
use Rattle.hypergeometric.specs.FormOrder.{IsFactor, NoFormTwice, AreFactors}
use Rattle.hypergeometric.specs.FactorLists.{same_form, factor_with, power_of, with_factor}
use Rattle.hypergeometric.proofs.Lookups.{same_form_found}
use Rattle.lin_form.specs.Forms.{form_of}
use Rattle.lin_form.specs.FactorLists.{factors_of}
use Rattle.lin_form.specs.declared.forms.LinForm.{LinForm}
use Rattle.form_lines.specs.Factors.{parts_of_factor}
use Rattle.form_lines.specs.FactorLaws.{factors_told}

-- the form and the power of an item of the code
abbrev pub item_parts : LinForm × ℕ → LinearForm × ℕ
item_parts e = (form_of e.0, e.1)

-- the parts of items are those of their factors
pub items_parts : (es : List (LinForm × ℕ)) → map item_parts es ≡ map parts_of_factor (factors_of es)
items_parts [] = refl
items_parts (e ∷ es) = ap (λ t. item_parts e ∷ t) (items_parts es)

-- a form that isn't there goes last
pub goes_last : (f : LinearForm) (p : ℕ) (xs : List Factor) → AllByRecursion IsFactor xs → power_of f xs ≡ 0 → with_factor f p xs ≡ xs ++ factor_with f p ∷ []
goes_last f p [] h e = refl
goes_last f p (x ∷ xs) h e = by (same_form f x.form) e (goes_last f p xs h.1)
  where
    by : (b : Bool) → cond b x.power (power_of f xs) ≡ 0 → (power_of f xs ≡ 0 → with_factor f p xs ≡ xs ++ factor_with f p ∷ [])
        → cond b (factor_with x.form (x.power + p) ∷ xs) (x ∷ with_factor f p xs) ≡ x ∷ (xs ++ factor_with f p ∷ [])
    by true z rest = absurd (omega (arith, h.0.some, z))
    by false z rest = ap (λ t. x ∷ t) (rest z)

behind_all : (P : Factor → Type 0) (xs ys : List Factor) (y : Factor) → AllByRecursion P (xs ++ y ∷ ys) → P y
behind_all P [] ys y h = h.0
behind_all P (x ∷ xs) ys y h = behind_all P xs ys y h.1

-- a form of a list in which none stands twice isn't among those before it
not_among : (f : LinearForm) (p : ℕ) (xs ys : List Factor) → NoFormTwice (xs ++ factor_with f p ∷ ys) → power_of f xs ≡ 0
not_among f p [] ys h = refl
not_among f p (x ∷ xs) ys h = by (same_form f x.form) refl (not_among f p xs ys h.1)
  where
    by : (b : Bool) → same_form f x.form ≡ b → power_of f xs ≡ 0 → cond b x.power (power_of f xs) ≡ 0
    by true e rest = absurd (behind_all (λ y. y.form ≢ x.form) xs ys (factor_with f p) h.0 (same_form_found f x.form e))
    by false e rest = rest

-- the item at an index, among the items
module _ (es : List (LinForm × ℕ)) (i : ℕ) (e : LinForm × ℕ) (below : i < length es) (is : e ≡ get_or es i e) where
  abbrev here : Factor
  here = factor_with (form_of e.0) e.1

  one_item : take (i + 1) es ≡ take i es ++ e ∷ []
  one_item = take_more es i e below ∙ ap (λ d. take i es ++ d ∷ []) (sym is)

  pub one_more : factors_of (take (i + 1) es) ≡ factors_of (take i es) ++ here ∷ []
  one_more = ap factors_of one_item ∙ map-append (λ (d : LinForm × ℕ). factor_with (form_of d.0) d.1) (take i es) (e ∷ [])

  parted : factors_of es ≡ factors_of (take i es) ++ here ∷ factors_of (drop (suc i) es)
  parted = ap factors_of (sym (take-append-drop i es) ∙ ap (λ t. take i es ++ t) (drop-cons es i e below ∙ ap (λ d. d ∷ drop (suc i) es) (sym is)))
      ∙ map-append (λ (d : LinForm × ℕ). factor_with (form_of d.0) d.1) (take i es) (e ∷ drop (suc i) es)

  pub some_power : AreFactors (factors_of es) → 1 ≤ e.1
  some_power h = (behind_all IsFactor (factors_of (take i es)) (factors_of (drop (suc i) es)) here (subst (AllByRecursion IsFactor) parted h.each)).some

  pub none_before : AreFactors (factors_of es) → power_of (form_of e.0) (factors_of (take i es)) ≡ 0
  none_before h = not_among (form_of e.0) e.1 (factors_of (take i es)) (factors_of (drop (suc i) es)) (subst NoFormTwice parted h.distinct)

-- a list with one more factor
pub collected : (old new : FactorList) (f : LinearForm) (p : ℕ) (xs ys : List Factor) → old ≡ record { scale = pos 1; factors = xs } → new.scale ≡ old.scale
    → new.factors ≡ with_factor f p old.factors → AllByRecursion IsFactor old.factors → power_of f old.factors ≡ 0 → ys ≡ xs ++ factor_with f p ∷ []
    → new ≡ record { scale = pos 1; factors = ys }
collected old new f p xs ys is same more each none e =
    let scale = same ∙ ap (λ l. l.scale) is in
    let factors = more ∙ goes_last f p old.factors each none ∙ ap (λ l. l.factors ++ factor_with f p ∷ []) is ∙ sym e in
    λ i. record { scale = scale i; factors = factors i }

-- the list of the items of a text is found
pub found_list : {T E : Type 0} (list_of : T → FactorList) (r : Result (Option T) E) (xs : List Factor) (v : FactorList) → xs ≡ v.factors → v.scale ≡ pos 1
    → AreFactors v.factors → IfOk r (λ found. MatchOption found (¬ AreFactors xs) (λ l. list_of l ≡ record { scale = pos 1; factors = xs }))
    → IfOk r (λ found. MatchOption found ⊥ (λ l. list_of l ≡ v))
found_list list_of (Ok None) xs v e one has h = h (subst AreFactors (sym e) has)
found_list list_of (Ok (Some l)) xs v e one has h = h ∙ λ i. record { scale = sym one i; factors = e i }
found_list list_of (Err x) xs v e one has h = tt

-- items whose parts are those of factors are these factors
pub factors_read : (es : List (LinForm × ℕ)) (xs : List Factor) → map item_parts es ≡ map parts_of_factor xs → factors_of es ≡ xs
factors_read es xs e = factors_told (factors_of es) xs (sym (items_parts es) ∙ e)
