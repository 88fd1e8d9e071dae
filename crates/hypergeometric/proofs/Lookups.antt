-- The power of a form in a list, and what a list keeps where a form is multiplied by.
use Rattle.std.specs.Prelude.{◌≡◌, ◌≢◌, ℕ, ◌+◌, ◌≤◌, ◌<◌, ◌^◌, Bool, true, false, ◌&&◌, cond, List, [], ◌∷◌, refl}
use Rattle.std.specs.List.{AllByRecursion}
use Rattle.std.specs.Ordering.{int_eq}
use Rattle.std.proofs.Common.{sym, ◌∙◌, arith, true≢false}
use Rattle.std.proofs.lemmas.Bool.{and_parts, and_from}
use Rattle.std.proofs.lemmas.Bool.Decides.{Decides-int_eq}
use Rattle.hypergeometric.specs.LinearForm.{LinearForm, Factor}
use Rattle.hypergeometric.specs.FormOrder.{IsForm, IsFactor, NoFormTwice, AreFactors}
use Rattle.hypergeometric.specs.Forms.{form_with}
use Rattle.hypergeometric.specs.FactorLists.{same_form, factor_with, power_of, with_factor}

-- the test of forms finds the same form and no other
pub same_form_found : (f g : LinearForm) → same_form f g ≡ true → f ≡ g
same_form_found f g e =
    let parts = and_parts (int_eq f.k_slope g.k_slope) (int_eq f.n_slope g.n_slope && int_eq f.offset g.offset) e in
    let rest = and_parts (int_eq f.n_slope g.n_slope) (int_eq f.offset g.offset) parts.1 in
    let k : f.k_slope ≡ g.k_slope = (Decides-int_eq f.k_slope g.k_slope).0 parts.0 in
    let n : f.n_slope ≡ g.n_slope = (Decides-int_eq f.n_slope g.n_slope).0 rest.0 in
    let o : f.offset ≡ g.offset = (Decides-int_eq f.offset g.offset).0 rest.1 in
    λ i. form_with (n i) (k i) (o i)

pub same_form_itself : (f g : LinearForm) → f ≡ g → same_form f g ≡ true
same_form_itself f g e =
    and_from (int_eq f.k_slope g.k_slope) (int_eq f.n_slope g.n_slope && int_eq f.offset g.offset)
    ((Decides-int_eq f.k_slope g.k_slope).1 (λ i. (e i).k_slope))
    (and_from (int_eq f.n_slope g.n_slope) (int_eq f.offset g.offset) ((Decides-int_eq f.n_slope g.n_slope).1 (λ i. (e i).n_slope))
    ((Decides-int_eq f.offset g.offset).1 (λ i. (e i).offset)))

others_stay : (g f : LinearForm) (p : ℕ) (xs : List Factor) → f ≢ g → AllByRecursion (λ y. y.form ≢ g) xs → AllByRecursion (λ y. y.form ≢ g) (with_factor f p xs)
others_stay g f p [] n h = (n, tt)
others_stay g f p (x ∷ xs) n h = by (same_form f x.form) (others_stay g f p xs n h.1)
  where
    by : (b : Bool) → AllByRecursion (λ y. y.form ≢ g) (with_factor f p xs)
        → AllByRecursion (λ y. y.form ≢ g) (cond b (factor_with x.form (x.power + p) ∷ xs) (x ∷ with_factor f p xs))
    by true rest = h
    by false rest = (h.0, rest)

distinct_stay : (f : LinearForm) (p : ℕ) (xs : List Factor) → NoFormTwice xs → NoFormTwice (with_factor f p xs)
distinct_stay f p [] h = (tt, tt)
distinct_stay f p (x ∷ xs) h = by (same_form f x.form) refl (distinct_stay f p xs h.1)
  where
    by : (b : Bool) → same_form f x.form ≡ b → NoFormTwice (with_factor f p xs)
        → NoFormTwice (cond b (factor_with x.form (x.power + p) ∷ xs) (x ∷ with_factor f p xs))
    by true e rest = h
    by false e rest = (others_stay x.form f p xs (λ s. true≢false (sym (same_form_itself f x.form s) ∙ e)) h.0, rest)

each_stays : (f : LinearForm) (p : ℕ) (xs : List Factor) → IsForm f → 1 ≤ p → power_of f xs + p < 2 ^ 32 → AllByRecursion IsFactor xs
    → AllByRecursion IsFactor (with_factor f p xs)
each_stays f p [] form some few h = (record { form = form; some = some; few = omega arith }, tt)
each_stays f p (x ∷ xs) form some few h = by (same_form f x.form) few (λ few. each_stays f p xs form some few h.1)
  where
    by : (b : Bool) → cond b x.power (power_of f xs) + p < 2 ^ 32
        → (power_of f xs + p < 2 ^ 32 → AllByRecursion IsFactor (with_factor f p xs))
        → AllByRecursion IsFactor (cond b (factor_with x.form (x.power + p) ∷ xs) (x ∷ with_factor f p xs))
    by true few rest = (record { form = h.0.form; some = omega arith; few = few }, h.1)
    by false few rest = (h.0, rest few)

-- a multiplication keeps forms within bounds, powers of at least 1 and no form twice
pub factors_stay : (f : LinearForm) (p : ℕ) (xs : List Factor) → IsForm f → 1 ≤ p → power_of f xs + p < 2 ^ 32 → AreFactors xs
    → AreFactors (with_factor f p xs)
factors_stay f p xs form some few h = record { each = each_stays f p xs form some few h.each; distinct = distinct_stay f p xs h.distinct }
