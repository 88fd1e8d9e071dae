-- Two primitive forms with a prime in common are the same.
use Rattle.std.specs.Prelude.{◌≡◌, ◌≢◌, ℕ, zero, suc, ◌+◌, ◌<◌, length, ℤ, pos, ◌+ℤ◌, ◌*ℤ◌, List, [], ◌∷◌, refl}
use Rattle.std.proofs.Common.{ap, sym, ◌∙◌, ⊎_elim, subst, arith}
use Rattle.ring_solver.proofs.Read.{ring_z, reading_z}
use Rattle.ring_laws.specs.Meaning.{number}
use Rattle.ring_laws.specs.Algebra.{Ops, Passing, within, same_passing}
use Rattle.ring_laws.specs.Wholes.{number_of, whole_algebra}
use Rattle.ring_laws.specs.WholeLaws.{whole_laws}
use Rattle.poly_laws.specs.Lists.{coefficient_at}
use Rattle.poly_laws.specs.Values.{value_at, level}
use Rattle.poly_laws.proofs.Equal.{level_laws}
use Rattle.poly_laws.proofs.Keeps.{of_list, whole_keeps}
use Rattle.poly_laws.proofs.ListLaws.{product_nought}
use Rattle.hypergeometric.specs.LinearForm.{LinearForm}
use Rattle.division_laws.specs.Polynomials.{Polynomial}
use Rattle.division_laws.proofs.Polynomials.{list_of, part, listed_in, listed_at}
use Rattle.pole_laws.proofs.Cancelling.{form_in_k}
use Rattle.pole_laws.proofs.Domains.{in_n_domain}
use Rattle.pole_laws.proofs.FormProducts.{in_k_ring}
use Rattle.pole_laws.proofs.NormalPolynomials.{in_k}
use Rattle.division_laws.specs.Divisors.{HasDegree, Divides}
use Rattle.division_laws.proofs.Degrees.{degree_by, one_degree, product_degree, not_zero, DegreeBelow, degree_or_zero}
use Rattle.division_laws.proofs.Divisors.{equation}
use Rattle.gosper_theorem.proofs.FormDivisors.{Prime}

abbrev pub in_n : Ops (Passing (level 1))
in_n = within (level 1) (level_laws 1).closed

-- the part of a form that is free of k, as a polynomial in n
abbrev pub free_part : LinearForm → Passing (level 1)
free_part f =
    listed_in whole_algebra whole_laws ((number f.offset, refl) ∷ (number f.n_slope, refl) ∷ []) (number f.offset ∷ number f.n_slope ∷ []) refl

abbrev pub parts : LinearForm → List (Passing (level 1))
parts f = free_part f ∷ in_n.whole f.k_slope ∷ []

abbrev listed_form : LinearForm → Polynomial (level 1)
listed_form f = listed_in (level 1) (level_laws 1) (parts f) ((free_part f).0 ∷ (level 1).ops.whole f.k_slope ∷ []) refl

form_is : (f : LinearForm) → form_in_k f ≡ listed_form f
form_is f = same_passing (level 2) (form_in_k f) (listed_form f) refl

pub form_part : (f : LinearForm) (i : ℕ) → part (level 1) (level_laws 1) (form_in_k f) i ≡ coefficient_at in_n (parts f) i
form_part f i =
    ap (λ t. part (level 1) (level_laws 1) t i) (form_is f)
    ∙ listed_at (level 1) (level_laws 1) (parts f) ((free_part f).0 ∷ (level 1).ops.whole f.k_slope ∷ []) refl i

pub whole_some : (w : ℤ) → w ≢ pos 0 → ¬ (in_n.whole w ≡ in_n.nought)
whole_some w some e = some (in_n_domain.whole_nought w (ap (λ (t : Passing (level 1)). t.0) e))

past_two : (f : LinearForm) (i : ℕ) → 1 < i → coefficient_at in_n (parts f) i ≡ in_n.nought
past_two f zero b = absurd (omega (arith, b))
past_two f (suc zero) b = absurd (omega (arith, b))
past_two f (suc (suc i)) b = refl

pub form_degree : (f : LinearForm) → f.k_slope ≢ pos 0 → HasDegree (level 1) (form_in_k f) 1
form_degree f some =
    degree_by (level 1) (level_laws 1) in_n_domain (form_in_k f) 1 (λ e. whole_some f.k_slope some (sym (form_part f 1) ∙ e))
    (λ i b. form_part f i ∙ past_two f i b)

-- the value of the part that is free of k
pub free_value : (f : LinearForm) (n : ℤ) → value_at (n ∷ []) (free_part f).0 ≡ f.n_slope *ℤ n +ℤ f.offset
free_value f n =
    of_list (level 0).ops number_of whole_keeps n (number f.offset ∷ number f.n_slope ∷ []) ∙ in_order f.offset f.n_slope n
  where
    in_order : (c s n : ℤ) → c +ℤ n *ℤ (s +ℤ n *ℤ pos 0) ≡ s *ℤ n +ℤ c
    in_order c s n = ring_z (c ∷ s ∷ n ∷ []) (search reading_z depth 40 fits 20000) refl

-- a prime that divides a form with a k slope is a form up to something free of k: the quotient is free of k
pub quotient_free : (p : Polynomial (level 1)) → Prime p → (f : LinearForm) → f.k_slope ≢ pos 0 → (h : Divides (level 1) p (form_in_k f))
    → HasDegree (level 1) h.quotient 0
quotient_free p prime f some h =
    ⊎_elim
    (λ z. absurd (not_zero (level 1) (level_laws 1) in_n_domain (in_k.product h.factor (form_in_k f)) (0 + 1) whole
    (equation (level 1) (level_laws 1) in_n_domain p (form_in_k f) h ∙ ap (in_k.product p) z
    ∙ product_nought in_k in_k_ring p)))
    (λ (g : DegreeBelow (level 1) (level_laws 1) in_n_domain h.quotient (length (list_of (level 1) (level_laws 1) h.quotient))).
    let sum : 0 + 1 ≡ suc prime.below + g.degree =
    one_degree (level 1) (level_laws 1) in_n_domain (in_k.product h.factor (form_in_k f)) (0 + 1) (suc prime.below + g.degree) whole
    (subst (λ t. HasDegree (level 1) t (suc prime.below + g.degree)) (sym (equation (level 1) (level_laws 1) in_n_domain p (form_in_k f) h))
    (product_degree (level 1) (level_laws 1) in_n_domain p h.quotient (suc prime.below) g.degree prime.degree g.is)) in
    let none : g.degree ≡ 0 = omega (arith, sum) in
    subst (HasDegree (level 1) h.quotient) none g.is)
    (degree_or_zero (level 1) (level_laws 1) in_n_domain h.quotient)
  where
    whole : HasDegree (level 1) (in_k.product h.factor (form_in_k f)) (0 + 1)
    whole = product_degree (level 1) (level_laws 1) in_n_domain h.factor (form_in_k f) 0 1 h.free (form_degree f some)
