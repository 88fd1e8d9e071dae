-- What is left of two lists once their shared forms are taken from both.
use Rattle.std.proofs.Common.{◌≡◌, ◌≢◌, ◌-◌, ◌≤◌, min, ap, ◌∙◌, List, [], ◌∷◌, arith, ⊎_elim}
use Rattle.std.specs.List.{AllByRecursion}
use Rattle.hypergeometric.specs.LinearForm.{LinearForm, Factor}
use Rattle.hypergeometric.specs.FormOrder.{IsFactor, NoFormTwice}
use Rattle.hypergeometric.specs.FactorLists.{factor_with, power_of, in_both, without}
use Rattle.hypergeometric.proofs.SharedForms.{all_more, power_here, power_later, same_or_other, absent_power, both_by, both_forms, without_by}

pub without_each : (xs ys : List Factor) → AllByRecursion IsFactor xs → AllByRecursion IsFactor (without xs ys)
without_each [] ys h = tt
without_each (x ∷ xs) ys h = without_by (AllByRecursion IsFactor) x xs ys (λ e. without_each xs ys h.1)
    (λ e. (record { form = h.0.form; some = e; few = omega (arith, h.0.few) }, without_each xs ys h.1))

pub both_each : (xs ys : List Factor) → AllByRecursion IsFactor xs → AllByRecursion IsFactor (in_both xs ys)
both_each [] ys h = tt
both_each (x ∷ xs) ys h = both_by (AllByRecursion IsFactor) x xs ys (λ e. both_each xs ys h.1)
    (λ e. (record { form = h.0.form; some = omega (arith, e, h.0.some); few = omega (arith, h.0.few) }, both_each xs ys h.1))

-- the power of a shared form is the smaller of its two powers
pub both_power : (f : LinearForm) (xs ys : List Factor) → NoFormTwice xs → power_of f (in_both xs ys) ≡ min (power_of f xs) (power_of f ys)
both_power f [] ys h = omega arith
both_power f (x ∷ xs) ys h = ⊎_elim here (there (both_power f xs ys h.1)) (same_or_other f x.form)
  where
    here : f ≡ x.form → power_of f (in_both (x ∷ xs) ys) ≡ min (power_of f (x ∷ xs)) (power_of f ys)
    here e =
        let absent : power_of f (in_both xs ys) ≡ 0 =
        ap (λ g. power_of g (in_both xs ys)) e ∙ absent_power x.form (in_both xs ys) (both_forms (λ f. f ≢ x.form) xs ys h.0) in
        let own : power_of f (x ∷ xs) ≡ x.power = power_here f x xs e in
        let second : power_of f ys ≡ power_of x.form ys = ap (λ g. power_of g ys) e in
        both_by (λ zs. power_of f zs ≡ min (power_of f (x ∷ xs)) (power_of f ys)) x xs ys (λ none. omega (arith, none, absent, own, second))
        (λ some. omega (arith, power_here f (factor_with x.form (min x.power (power_of x.form ys))) (in_both xs ys) e, own, second))

    there : power_of f (in_both xs ys) ≡ min (power_of f xs) (power_of f ys) → f ≢ x.form → power_of f (in_both (x ∷ xs) ys)
        ≡ min (power_of f (x ∷ xs)) (power_of f ys)
    there e n =
        let later : power_of f (x ∷ xs) ≡ power_of f xs = power_later f x xs n in
        both_by (λ zs. power_of f zs ≡ min (power_of f (x ∷ xs)) (power_of f ys)) x xs ys (λ none. omega (arith, e, later))
        (λ some. omega (arith, e, later, power_later f (factor_with x.form (min x.power (power_of x.form ys))) (in_both xs ys) n))

-- of each form that is left something is left of its power
pub left_powers : (xs zs ys : List Factor) → AllByRecursion (λ x. power_of x.form zs ≡ x.power) xs
    → AllByRecursion (λ x. 1 ≤ power_of x.form zs - power_of x.form ys) (without xs ys)
left_powers [] zs ys h = tt
left_powers (x ∷ xs) zs ys h = without_by (AllByRecursion (λ x. 1 ≤ power_of x.form zs - power_of x.form ys)) x xs ys (λ e. left_powers xs zs ys h.1)
    (λ e. (omega (arith, e, h.0), left_powers xs zs ys h.1))

pub each_pair : (P Q : Factor → Type 0) (R : Factor → Factor → Type 0) → ((x y : Factor) → P x → Q y → R x y) → (xs ys : List Factor)
    → AllByRecursion P xs → AllByRecursion Q ys → AllByRecursion (λ x. AllByRecursion (R x) ys) xs
each_pair P Q R f xs ys p q = all_more P (λ x. AllByRecursion (R x) ys) (λ x h. all_more Q (R x) (λ y g. f x y h g) ys q) xs p
