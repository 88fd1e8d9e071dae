-- The linear form of a polynomial that is no number doesn't have two slopes 0.
use Rattle.std.proofs.Common.{◌≡◌, ◌≢◌, ap, sym, ◌∙◌, List, [], ◌∷◌, Bool, true, not, Some, None, true≢false, subst}
use Rattle.std.proofs.lemmas.Bool.{and_parts}
use Rattle.std.proofs.lemmas.Option.{same_Some, none-some}
use Rattle.std.specs.Prelude.{ℤ, pos, IsTrue}
use Rattle.ring_laws.specs.Meaning.{Meaning, number, several, parted, items}
use Rattle.ring_laws.specs.Algebra.{Algebra}
use Rattle.ring_laws.specs.Wholes.{number_of, is_zero}
use Rattle.poly_laws.specs.Lists.{is_trimmed}
use Rattle.poly_laws.specs.PolyAlgebra.{every_passes, is_empty, poly_passes}
use Rattle.poly_laws.specs.Values.{level}
use Rattle.poly_laws.specs.TwoVariables.{in_n_and_k, constant_in_n, constant_in_k}
use Rattle.hypergeometric.specs.LinearForm.{LinearForm}
use Rattle.hypergeometric.specs.TermFacts.{IsNotConstant}
use Rattle.hypergeometric.specs.Forms.{form_with}
use Rattle.hypergeometric.proofs.PrimitiveForms.{IsNotZero}
use Rattle.term_classes.specs.Forms.{form_of_coefficients, form_of_items, linear_form_of}
use Rattle.term_classes.proofs.PassingPolynomials.{Belongs}

-- a polynomial that is no number
pub record IsVarying (q : Meaning) : Type 0 where
  pub belongs : Belongs q
  pub no_number : constant_in_k (items q) ≡ None

pub varying_not_nought : (q : Meaning) → IsVarying q → q ≢ in_n_and_k.nought
varying_not_nought q h e = none-some (pos 0) (sym h.no_number ∙ ap (λ p. constant_in_k (items p)) e)

-- the items of a polynomial belong to the ring below, and the last isn't 0
record HasItems (a : Algebra) (xs : List Meaning) : Type 0 where
  pub each : every_passes a.passes xs ≡ true
  pub trimmed : is_trimmed a.ops xs ≡ true

has_items : (a : Algebra) (m : Meaning) → IsTrue (poly_passes a m) → HasItems a (items m)
has_items a (number z) h = cc
has_items a (several xs) h =
    let parts = and_parts (every_passes a.passes (parted xs)) (is_trimmed a.ops (parted xs)) h in
    record { each = parts.0; trimmed = parts.1 }

not_both : (b : Bool) → b ≡ true → not b ≡ true → ⊥
not_both b p q = true≢false (sym q ∙ ap not p)

-- a last coefficient that isn't 0
last_number : (c : Meaning) → not (is_zero (number_of c)) ≡ true → number_of c ≢ pos 0
last_number c h e = not_both (is_zero (number_of c)) (ap is_zero e) h

n_slope_not_zero : (xs : List Meaning) (s : ℤ) (l : LinearForm) → is_trimmed (level 0).ops xs ≡ true → constant_in_n xs ≡ None
    → form_of_coefficients xs (Some s) ≡ Some l → l.n_slope ≢ pos 0
n_slope_not_zero [] s l t n e = absurd (none-some (pos 0) (sym n))
n_slope_not_zero (c ∷ []) s l t n e = absurd (none-some (number_of c) (sym n))
n_slope_not_zero (c ∷ d ∷ []) s l t n e = subst (λ (l : LinearForm). l.n_slope ≢ pos 0) (same_Some (form_with (number_of d) s (number_of c)) l e)
    (last_number d t)
n_slope_not_zero (c ∷ d ∷ b ∷ xs) s l t n e = absurd (none-some l e)

given_slope : (xs : List Meaning) (s : ℤ) (l : LinearForm) → s ≢ pos 0 → form_of_coefficients xs (Some s) ≡ Some l → l.k_slope ≢ pos 0
given_slope [] s l n e = subst (λ (l : LinearForm). l.k_slope ≢ pos 0) (same_Some (form_with (pos 0) s (pos 0)) l e) n
given_slope (c ∷ []) s l n e = subst (λ (l : LinearForm). l.k_slope ≢ pos 0) (same_Some (form_with (pos 0) s (number_of c)) l e) n
given_slope (c ∷ d ∷ []) s l n e = subst (λ (l : LinearForm). l.k_slope ≢ pos 0) (same_Some (form_with (number_of d) s (number_of c)) l e) n
given_slope (c ∷ d ∷ b ∷ xs) s l n e = absurd (none-some l e)

k_slope_not_zero : (xs ys : List Meaning) (l : LinearForm) → not (is_empty ys) ≡ true → is_trimmed (level 0).ops ys ≡ true
    → form_of_coefficients xs (constant_in_n ys) ≡ Some l → l.k_slope ≢ pos 0
k_slope_not_zero xs [] l some t e = absurd (true≢false (sym some))
k_slope_not_zero xs (c ∷ []) l some t e = given_slope xs (number_of c) l (last_number c t) e
k_slope_not_zero xs (c ∷ d ∷ ys) l some t e = absurd (none-some l e)

items_not_constant : (xs : List Meaning) (l : LinearForm) → HasItems (level 1) xs → constant_in_k xs ≡ None → form_of_items xs ≡ Some l
    → IsNotConstant l
items_not_constant [] l h n e = absurd (none-some (pos 0) (sym n))
items_not_constant (c ∷ []) l h n e =
    let inner = has_items (level 0) c (and_parts ((level 1).passes c) true h.each).0 in
    λ z. n_slope_not_zero (items c) (pos 0) l inner.trimmed n e z.0
items_not_constant (c ∷ d ∷ []) l h n e =
    let inner = has_items (level 0) d (and_parts ((level 1).passes d) true
    (and_parts ((level 1).passes c) (every_passes (level 1).passes (d ∷ [])) h.each).1).0 in
    λ z. k_slope_not_zero (items c) (items d) l h.trimmed inner.trimmed e z.1
items_not_constant (c ∷ d ∷ b ∷ xs) l h n e = absurd (none-some l e)

pub varying_not_constant : (q : Meaning) (l : LinearForm) → IsVarying q → linear_form_of (Some q) ≡ Some l → IsNotConstant l
varying_not_constant q l h e = items_not_constant (items q) l (has_items (level 1) q h.belongs) h.no_number e

pub varying_not_zero : (q : Meaning) (l : LinearForm) → IsVarying q → linear_form_of (Some q) ≡ Some l → IsNotZero l
varying_not_zero q l h e z = varying_not_constant q l h e (z.1, z.0)
