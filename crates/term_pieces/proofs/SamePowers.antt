-- A sorted list of forms has the value of every list in which each form has the same power in all.
use Rattle.std.proofs.Common.{◌≡◌, ◌≢◌, ◌+◌, Bool, true, false, List, [], ◌∷◌, ◌++◌, refl, ap, sym, ◌∙◌, arith}
use Rattle.std.proofs.Math.IntN.{pow}
use Rattle.std.specs.Prelude.{ℤ, pos, ◌*ℤ◌, cond}
use Rattle.ring_solver.proofs.Read.{ring_z, reading_z}
use Rattle.hypergeometric.specs.Point.{Point}
use Rattle.hypergeometric.specs.LinearForm.{LinearForm, Factor, form_value, forms_value}
use Rattle.hypergeometric.specs.FormOrder.{IsSorted}
use Rattle.hypergeometric.specs.FactorLists.{same_form, power_of}
use Rattle.hypergeometric.proofs.Lookups.{same_form_found, same_form_itself}
use Rattle.term_pieces.specs.NormalForm.{power_within}
use Rattle.term_pieces.proofs.ProductValues.{pow_of_sum, not_among, not_same}

power_zero : (z : ℤ) → pow z 0 ≡ pos 1
unfolding pow lib.IntN.one
power_zero z = refl

-- the list without a form
abbrev without_form : LinearForm → List Factor → List Factor
without_form f [] = []
without_form f (x ∷ xs) = cond (same_form f x.form) (without_form f xs) (x ∷ without_form f xs)

power_gone : (f : LinearForm) (xs : List Factor) → power_within f (without_form f xs) ≡ 0
power_gone f [] = refl
power_gone f (x ∷ xs) = by (same_form f x.form) refl (power_gone f xs)
  where
    by : (b : Bool) → same_form f x.form ≡ b → power_within f (without_form f xs) ≡ 0
        → power_within f (cond b (without_form f xs) (x ∷ without_form f xs)) ≡ 0
    by true e h = h
    by false e h = ap (λ b. cond b x.power 0 + power_within f (without_form f xs)) e ∙ omega (arith, h)

power_without : (f g : LinearForm) (xs : List Factor) → f ≢ g → power_within g (without_form f xs) ≡ power_within g xs
power_without f g [] other = refl
power_without f g (x ∷ xs) other = by (same_form f x.form) refl (power_without f g xs other)
  where
    unlike : (b : Bool) → same_form g x.form ≡ b → f ≡ x.form → b ≡ false
    unlike true e p = absurd (other (p ∙ sym (same_form_found g x.form e)))
    unlike false e p = refl

    by : (b : Bool) → same_form f x.form ≡ b → power_within g (without_form f xs) ≡ power_within g xs
        → power_within g (cond b (without_form f xs) (x ∷ without_form f xs)) ≡ cond (same_form g x.form) x.power 0 + power_within g xs
    by true e h =
        let none = unlike (same_form g x.form) refl (same_form_found f x.form e) in
        h ∙ sym (ap (λ b. cond b x.power 0 + power_within g xs) none ∙ omega arith)
    by false e h = ap (λ t. cond (same_form g x.form) x.power 0 + t) h

pub power_joined : (f : LinearForm) (xs ys : List Factor) → power_within f (xs ++ ys) ≡ power_within f xs + power_within f ys
power_joined f [] ys = omega arith
power_joined f (x ∷ xs) ys = omega (arith, power_joined f xs ys)

-- in a sorted list each form stands once
pub power_once : (f : LinearForm) (ys : List Factor) → IsSorted ys → power_within f ys ≡ power_of f ys
power_once f [] sorted = refl
power_once f (y ∷ ys) (first, sorted) = by (same_form f y.form) refl (power_once f ys sorted)
  where
    by : (b : Bool) → same_form f y.form ≡ b → power_within f ys ≡ power_of f ys → cond b y.power 0 + power_within f ys ≡ cond b y.power (power_of f ys)
    by true e h =
        let none : power_of f ys ≡ 0 = ap (λ g. power_of g ys) (same_form_found f y.form e) ∙ not_among y.form ys first in
        omega (arith, h, none)
    by false e h = omega (arith, h)

module _ (p : Point) where
  -- one form taken out, with all its powers
  taken_out : (f : LinearForm) (xs : List Factor)
      → forms_value xs p ≡ pow (form_value f p) (power_within f xs) *ℤ forms_value (without_form f xs) p
  taken_out f [] = ap (λ t. t *ℤ pos 1) (sym (power_zero (form_value f p)))
  taken_out f (x ∷ xs) = by (same_form f x.form) refl (taken_out f xs)
    where
      grouped : (a b c : ℤ) → a *ℤ (b *ℤ c) ≡ (a *ℤ b) *ℤ c
      grouped a b c = ring_z (a ∷ b ∷ c ∷ []) (search reading_z depth 40 fits 20000) refl

      moved : (a b c : ℤ) → a *ℤ (b *ℤ c) ≡ b *ℤ (a *ℤ c)
      moved a b c = ring_z (a ∷ b ∷ c ∷ []) (search reading_z depth 40 fits 20000) refl

      by : (b : Bool) → same_form f x.form ≡ b
          → forms_value xs p ≡ pow (form_value f p) (power_within f xs) *ℤ forms_value (without_form f xs) p
          → pow (form_value x.form p) x.power *ℤ forms_value xs p
          ≡ pow (form_value f p) (cond b x.power 0 + power_within f xs) *ℤ forms_value (cond b (without_form f xs) (x ∷ without_form f xs)) p
      by true e h =
          ap (λ g. pow (form_value g p) x.power *ℤ forms_value xs p) (sym (same_form_found f x.form e))
          ∙ ap (λ t. pow (form_value f p) x.power *ℤ t) h
          ∙ grouped (pow (form_value f p) x.power) (pow (form_value f p) (power_within f xs)) (forms_value (without_form f xs) p)
          ∙ ap (λ t. t *ℤ forms_value (without_form f xs) p) (sym (pow_of_sum (form_value f p) x.power (power_within f xs)))
      by false e h =
          let same : power_within f xs ≡ 0 + power_within f xs = omega arith in
          ap (λ t. pow (form_value x.form p) x.power *ℤ t) h
          ∙ moved (pow (form_value x.form p) x.power) (pow (form_value f p) (power_within f xs)) (forms_value (without_form f xs) p)
          ∙ ap (λ given. pow (form_value f p) given *ℤ (pow (form_value x.form p) x.power *ℤ forms_value (without_form f xs) p)) same

  -- where no form has a power
  nothing : (xs : List Factor) → ((f : LinearForm) → power_within f xs ≡ 0) → forms_value xs p ≡ pos 1
  nothing [] h = refl
  nothing (x ∷ xs) h =
      let own = same_form_itself x.form x.form refl in
      let both = ap (λ b. cond b x.power 0 + power_within x.form xs) (sym own) ∙ h x.form in
      let none : x.power ≡ 0 = omega (arith, both) in
      let rest = nothing xs (λ f. omega (arith, h f)) in
      ap (λ given. pow (form_value x.form p) given *ℤ forms_value xs p) none
      ∙ ap (λ t. t *ℤ forms_value xs p) (power_zero (form_value x.form p)) ∙ ap (λ t. pos 1 *ℤ t) rest

  pub same_value : (ys zs : List Factor) → IsSorted ys → ((f : LinearForm) → power_of f ys ≡ power_within f zs)
      → forms_value ys p ≡ forms_value zs p
  same_value [] zs sorted h = sym (nothing zs (λ f. sym (h f)))
  same_value (y ∷ ys) zs (first, sorted) h =
      ap (λ t. pow (form_value y.form p) y.power *ℤ t) (same_value ys (without_form y.form zs) sorted left)
      ∙ ap (λ given. pow (form_value y.form p) given *ℤ forms_value (without_form y.form zs) p) own
      ∙ sym (taken_out y.form zs)
    where
      own : y.power ≡ power_within y.form zs
      own = ap (λ b. cond b y.power (power_of y.form ys)) (sym (same_form_itself y.form y.form refl)) ∙ h y.form

      left : (f : LinearForm) → power_of f ys ≡ power_within f (without_form y.form zs)
      left f = by (same_form f y.form) refl
        where
          by : (b : Bool) → same_form f y.form ≡ b → power_of f ys ≡ power_within f (without_form y.form zs)
          by true e =
              let is = same_form_found f y.form e in
              ap (λ g. power_of g ys) is ∙ not_among y.form ys first ∙ sym (power_gone y.form zs)
              ∙ ap (λ g. power_within g (without_form y.form zs)) (sym is)
          by false e =
              ap (λ b. cond b y.power (power_of f ys)) (sym e) ∙ h f ∙ sym (power_without y.form f zs (λ q. not_same f y.form e (sym q)))
