-- Products of forms that aren't zero: of g they are none where q0 is none.
use Rattle.std.specs.Prelude.{◌≡◌, ℕ, zero, suc, pos, neg_ℤ, ◌+ℤ◌, ◌*ℤ◌, List, [], ◌∷◌, ◌++◌}
use Rattle.std.proofs.Common.{ap, sym, ◌∙◌, ⊎_elim}
use Rattle.std.proofs.Math.IntN.{pow}
use Rattle.ring_laws.specs.Algebra.{RingLaws}
use Rattle.poly_laws.specs.Values.{level}
use Rattle.poly_laws.proofs.Coefficients.{poly_closed}
use Rattle.poly_laws.proofs.Equal.{level_laws}
use Rattle.poly_laws.proofs.ListLaws.{product_nought, nought_product}
use Rattle.poly_laws.proofs.OneQuotient.{NoDivisors}
use Rattle.poly_laws.proofs.PolyDomain.{no_divisors_within, poly_domain}
use Rattle.poly_laws.proofs.PolyLaws.{poly_ring}
use Rattle.division_laws.specs.Polynomials.{Polynomial}
use Rattle.division_laws.proofs.Shifts.{later_nought}
use Rattle.hypergeometric.specs.Point.{later_k}
use Rattle.hypergeometric.specs.LinearForm.{LinearForm, Factor}
use Rattle.hypergeometric.specs.FactorLists.{factor_with}
use Rattle.hypergeometric.specs.Match.{Match}
use Rattle.term_pieces.specs.NormalForm.{at_earlier_k, form_above, matched, forms_before, gosper_forms}
use Rattle.term_pieces.proofs.FormValues.{later_k_value, joined_value, lone_value}
use Rattle.pole_laws.specs.Cancelled.{of_forms}
use Rattle.pole_laws.proofs.Domains.{in_n_domain}
use Rattle.pole_laws.proofs.NormalPolynomials.{in_k, shift_by, list_in, same_polynomials, product_at, shift_at, forms_alone}

pub in_k_ring : RingLaws in_k
in_k_ring = poly_ring (level 1) (level_laws 1).closed (level_laws 1).ring

pub no_divisors : NoDivisors in_k
no_divisors = no_divisors_within (level 2) (poly_closed (level 1) (level_laws 1).closed) (poly_domain (level 1) (level_laws 1) in_n_domain)

-- the product of forms
abbrev pub forms_in_k : List Factor → Polynomial (level 1)
forms_in_k xs = list_in (of_forms xs)

abbrev pub IsNone : Polynomial (level 1) → Type 0
IsNone x = x ≡ in_k.nought

pub joined_forms : (xs ys : List Factor) → forms_in_k (xs ++ ys) ≡ in_k.product (forms_in_k xs) (forms_in_k ys)
joined_forms xs ys =
    same_polynomials (forms_in_k (xs ++ ys)) (in_k.product (forms_in_k xs) (forms_in_k ys))
    (λ p. forms_alone (xs ++ ys) p ∙ joined_value xs ys p
    ∙ sym (product_at (forms_in_k xs) (forms_in_k ys) p ∙ (λ i. forms_alone xs p i *ℤ forms_alone ys p i)))

-- a form at k - h, to a power
earlier_form : (s : LinearForm) (h e : ℕ)
    → forms_in_k (factor_with (at_earlier_k s h) e ∷ []) ≡ shift_by (neg_ℤ (pos h)) (forms_in_k (factor_with s e ∷ []))
earlier_form s h e =
    same_polynomials (forms_in_k (factor_with (at_earlier_k s h) e ∷ [])) (shift_by (neg_ℤ (pos h)) (forms_in_k (factor_with s e ∷ [])))
    (λ p. forms_alone (factor_with (at_earlier_k s h) e ∷ []) p ∙ lone_value (at_earlier_k s h) e p
    ∙ ap (λ t. pow t e) (later_k_value s (neg_ℤ (pos h)) p)
    ∙ sym (shift_at (neg_ℤ (pos h)) (forms_in_k (factor_with s e ∷ [])) p
    ∙ forms_alone (factor_with s e ∷ []) (later_k p (neg_ℤ (pos h))) ∙ lone_value s e (later_k p (neg_ℤ (pos h)))))

pub not_product : (x y : Polynomial (level 1)) → ¬ IsNone x → ¬ IsNone y → ¬ IsNone (in_k.product x y)
not_product x y m n e = ⊎_elim m n (no_divisors x y e)

-- no form, no zero
pub unit_some : ¬ IsNone (forms_in_k [])
unit_some e = cc (ap (λ (t : Polynomial (level 1)). t.0) e)

some_before : (s : LinearForm) (h e : ℕ) → ¬ IsNone (forms_in_k (factor_with s e ∷ [])) → ¬ IsNone (forms_in_k (forms_before s h e))
some_before s zero e some = unit_some
some_before s (suc h) e some = λ z.
    not_product (forms_in_k (forms_before s h e)) (forms_in_k (factor_with (at_earlier_k s (suc h)) e ∷ [])) (some_before s h e some)
    (λ w. some (later_nought (level 1) (level_laws 1) (neg_ℤ (pos (suc h))) (forms_in_k (factor_with s e ∷ [])) (sym (earlier_form s (suc h) e) ∙ w)))
    (sym (joined_forms (forms_before s h e) (factor_with (at_earlier_k s (suc h)) e ∷ [])) ∙ z)

-- where the product of the s(k) isn't zero, that of the s(k-1) .. s(k-h) isn't
pub some_gosper : (ms : List Match) → ¬ IsNone (forms_in_k (matched form_above ms)) → ¬ IsNone (forms_in_k (gosper_forms ms))
some_gosper [] some = some
some_gosper (m ∷ ms) some = λ z.
    not_product (forms_in_k (forms_before m.form m.shift m.power)) (forms_in_k (gosper_forms ms))
    (some_before m.form m.shift m.power (λ w. some (parts ∙ ap (λ t. in_k.product t (forms_in_k (matched form_above ms))) w
    ∙ nought_product in_k in_k_ring (forms_in_k (matched form_above ms)))))
    (some_gosper ms (λ w. some (parts ∙ ap (in_k.product (forms_in_k (factor_with m.form m.power ∷ []))) w
    ∙ product_nought in_k in_k_ring (forms_in_k (factor_with m.form m.power ∷ [])))))
    (sym (joined_forms (forms_before m.form m.shift m.power) (gosper_forms ms)) ∙ z)
  where
    parts : forms_in_k (factor_with m.form m.power ∷ matched form_above ms)
        ≡ in_k.product (forms_in_k (factor_with m.form m.power ∷ [])) (forms_in_k (matched form_above ms))
    parts = joined_forms (factor_with m.form m.power ∷ []) (matched form_above ms)
