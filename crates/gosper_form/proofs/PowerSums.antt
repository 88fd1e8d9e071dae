-- The power of a form in a list is a sum over the list. So lists with the same items have the same powers.
use Rattle.std.proofs.Common.{◌≡◌, ◌≢◌, ℕ, ◌+◌, ◌≤◌, Bool, true, false, cond, List, [], ◌∷◌, refl, ap, sym, ◌∙◌, arith, subst, true≢false, sum_by}
use Rattle.std.proofs.lemmas.List.Sorted.{sum_by-IsPermutation}
use Rattle.std.proofs.lemmas.List.Sums.{sum_by-cons}
use Rattle.std.specs.List.{AllByRecursion}
use Rattle.std.specs.List.Sorted.{IsPermutation}
use Rattle.hypergeometric.specs.LinearForm.{LinearForm, Factor}
use Rattle.hypergeometric.specs.FormOrder.{NoFormTwice}
use Rattle.hypergeometric.specs.TermFacts.{total_power}
use Rattle.hypergeometric.specs.FactorLists.{same_form, factor_with, power_of, with_factor}
use Rattle.hypergeometric.proofs.Lookups.{same_form_found, same_form_itself}
use Rattle.hypergeometric.proofs.SharedForms.{IsAbsent}

abbrev one_power : LinearForm → Factor → ℕ
one_power f x = cond (same_form f x.form) x.power 0

other_form : (f g : LinearForm) (b : Bool) → f ≢ g → same_form f g ≡ b → b ≡ false
other_form f g true n e = absurd (n (same_form_found f g e))
other_form f g false n e = refl

absent_sum : (f : LinearForm) (xs : List Factor) → IsAbsent f xs → sum_by (one_power f) xs ≡ 0
absent_sum f [] h = refl
absent_sum f (x ∷ xs) h =
    let no : same_form f x.form ≡ false = other_form f x.form (same_form f x.form) (λ e. h.0 (sym e)) refl in
    let own : one_power f x ≡ 0 = ap (λ (b : Bool). cond b x.power 0) no in
    omega (arith, sum_by-cons (one_power f) x xs, own, absent_sum f xs h.1)

power_sum : (f : LinearForm) (xs : List Factor) → NoFormTwice xs → power_of f xs ≡ sum_by (one_power f) xs
power_sum f [] h = refl
power_sum f (x ∷ xs) h = by (same_form f x.form) refl (power_sum f xs h.1) ∙ sym (sum_by-cons (one_power f) x xs)
  where
    by : (b : Bool) → same_form f x.form ≡ b → power_of f xs ≡ sum_by (one_power f) xs
        → cond b x.power (power_of f xs) ≡ cond b x.power 0 + sum_by (one_power f) xs
    by true e rest =
        let none : sum_by (one_power f) xs ≡ 0 = absent_sum f xs (subst (λ g. IsAbsent g xs) (sym (same_form_found f x.form e)) h.0) in
        omega (arith, none)
    by false e rest = omega (arith, rest)

pub permuted_power : (f : LinearForm) (xs ys : List Factor) → IsPermutation xs ys → NoFormTwice xs → NoFormTwice ys → power_of f ys ≡ power_of f xs
permuted_power f xs ys p h g = power_sum f ys g ∙ sum_by-IsPermutation (one_power f) xs ys p ∙ sym (power_sum f xs h)

-- a form that is multiplied by
pub added_power : (f g : LinearForm) (p : ℕ) (xs : List Factor) → power_of f (with_factor g p xs) ≡ cond (same_form f g) p 0 + power_of f xs
added_power f g p [] = by (same_form f g)
  where
    by : (b : Bool) → cond b p 0 ≡ cond b p 0 + 0
    by true = omega arith
    by false = omega arith
added_power f g p (x ∷ xs) = by (same_form g x.form) refl (added_power f g p xs)
  where
    here : (b : Bool) → cond b (x.power + p) (power_of f xs) ≡ cond b p 0 + cond b x.power (power_of f xs)
    here true = omega arith
    here false = omega arith

    later : (b c : Bool) → same_form f x.form ≡ b → same_form f g ≡ c → same_form g x.form ≡ false
        → power_of f (with_factor g p xs) ≡ cond c p 0 + power_of f xs
        → cond b x.power (power_of f (with_factor g p xs)) ≡ cond c p 0 + cond b x.power (power_of f xs)
    later true true e d n rest =
        absurd (true≢false (sym (same_form_itself g x.form (sym (same_form_found f g d) ∙ same_form_found f x.form e)) ∙ n))
    later true false e d n rest = omega arith
    later false c e d n rest = rest

    by : (b : Bool) → same_form g x.form ≡ b → power_of f (with_factor g p xs) ≡ cond (same_form f g) p 0 + power_of f xs
        → power_of f (cond b (factor_with x.form (x.power + p) ∷ xs) (x ∷ with_factor g p xs)) ≡ cond (same_form f g) p 0 + power_of f (x ∷ xs)
    by true e rest =
        here (same_form f x.form)
        ∙ ap (λ (h : LinearForm). cond (same_form f h) p 0 + power_of f (x ∷ xs)) (sym (same_form_found g x.form e))
    by false e rest = later (same_form f x.form) (same_form f g) refl refl e rest

pub added_total : (g : LinearForm) (p : ℕ) (xs : List Factor) → total_power (with_factor g p xs) ≡ p + total_power xs
added_total g p [] = refl
added_total g p (x ∷ xs) = by (same_form g x.form) (added_total g p xs)
  where
    by : (b : Bool) → total_power (with_factor g p xs) ≡ p + total_power xs
        → total_power (cond b (factor_with x.form (x.power + p) ∷ xs) (x ∷ with_factor g p xs)) ≡ p + total_power (x ∷ xs)
    by true rest = omega arith
    by false rest = omega (arith, rest)

-- no power is greater than all together
pub power_within : (f : LinearForm) (xs : List Factor) → power_of f xs ≤ total_power xs
power_within f [] = omega arith
power_within f (x ∷ xs) = by (same_form f x.form) (power_within f xs)
  where
    by : (b : Bool) → power_of f xs ≤ total_power xs → cond b x.power (power_of f xs) ≤ total_power (x ∷ xs)
    by true rest = omega arith
    by false rest = omega (arith, rest)
