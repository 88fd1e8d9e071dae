-- A prime that divides a product of forms divides one of them.
use Rattle.std.specs.Prelude.{◌≡◌, ◌≢◌, ℕ, zero, suc, ◌+◌, Bool, true, false, cond, ℤ, pos, ◌*ℤ◌, List, [], ◌∷◌, length, refl}
use Rattle.std.proofs.Common.{ap, sym, ◌∙◌, ⊎_elim, subst, arith}
use Rattle.std.specs.List.{AllByRecursion}
use Rattle.ring_laws.specs.Algebra.{Ops, Passing, within}
use Rattle.poly_laws.specs.Values.{level}
use Rattle.poly_laws.proofs.Equal.{level_laws}
use Rattle.poly_laws.proofs.Keeps.{value_at_keeps}
use Rattle.poly_laws.proofs.ListLaws.{nought_product, product_nought}
use Rattle.poly_laws.proofs.PolyLaws.{coefficient-whole}
use Rattle.division_laws.specs.Polynomials.{Polynomial}
use Rattle.division_laws.specs.Divisors.{HasDegree, Divides, IsPrime}
use Rattle.division_laws.proofs.Polynomials.{list_of}
use Rattle.division_laws.proofs.Degrees.{DegreeBelow, degree_or_zero, degree_by, lone_ends, not_zero, one_degree, product_degree, unit_degree}
use Rattle.division_laws.proofs.Divisors.{equation}
use Rattle.division_laws.proofs.Primes.{prime_divides}
use Rattle.hypergeometric.specs.Point.{values}
use Rattle.hypergeometric.specs.LinearForm.{LinearForm, Factor, FactorList}
use Rattle.hypergeometric.specs.FactorLists.{same_form, factor_with, power_of}
use Rattle.hypergeometric.specs.Products.{list_polynomial}
use Rattle.hypergeometric.proofs.Lookups.{same_form_itself}
use Rattle.pole_laws.proofs.Cancelling.{no_forms}
use Rattle.pole_laws.proofs.Domains.{in_n_domain}
use Rattle.pole_laws.proofs.FormProducts.{in_k_ring, forms_in_k, joined_forms}
use Rattle.pole_laws.proofs.NonzeroPieces.{power_step, no_power}
use Rattle.pole_laws.proofs.NormalPolynomials.{in_k, list_in, same_polynomials, product_at, value_of, forms_alone}

abbrev pub Prime : Polynomial (level 1) → Type 0
Prime p = IsPrime (level 1) p

-- no prime divides what is free of k
pub divides_no_free : (p c : Polynomial (level 1)) → Prime p → HasDegree (level 1) c 0 → Divides (level 1) p c → ⊥
divides_no_free p c prime free h =
    ⊎_elim
    (λ z. not_zero (level 1) (level_laws 1) in_n_domain (in_k.product h.factor c) (0 + 0) whole
    (equation (level 1) (level_laws 1) in_n_domain p c h ∙ ap (in_k.product p) z ∙ product_nought in_k in_k_ring p))
    (λ (g : DegreeBelow (level 1) (level_laws 1) in_n_domain h.quotient (length (list_of (level 1) (level_laws 1) h.quotient))).
    let sum : 0 + 0 ≡ suc prime.below + g.degree =
    one_degree (level 1) (level_laws 1) in_n_domain (in_k.product h.factor c) (0 + 0) (suc prime.below + g.degree) whole
    (subst (λ t. HasDegree (level 1) t (suc prime.below + g.degree)) (sym (equation (level 1) (level_laws 1) in_n_domain p c h))
    (product_degree (level 1) (level_laws 1) in_n_domain p h.quotient (suc prime.below) g.degree prime.degree g.is)) in
    omega (arith, sum))
    (degree_or_zero (level 1) (level_laws 1) in_n_domain h.quotient)
  where
    whole : HasDegree (level 1) (in_k.product h.factor c) (0 + 0)
    whole = product_degree (level 1) (level_laws 1) in_n_domain h.factor c 0 0 h.free free

-- a form of a list, which the prime divides
pub record FormOf (p : Polynomial (level 1)) (xs : List Factor) : Type 0 where
  pub form : LinearForm
  pub some : power_of form xs ≢ 0
  pub divides : Divides (level 1) p (forms_in_k (factor_with form 1 ∷ []))

no_forms_free : HasDegree (level 1) (forms_in_k []) 0
no_forms_free = subst (λ t. HasDegree (level 1) t 0) (sym no_forms) (unit_degree (level 1) (level_laws 1) in_n_domain)

from_power : (p : Polynomial (level 1)) → Prime p → (f : LinearForm) (e : ℕ) → Divides (level 1) p (forms_in_k (factor_with f e ∷ []))
    → Divides (level 1) p (forms_in_k (factor_with f 1 ∷ []))
from_power p prime f zero h =
    absurd (divides_no_free p (forms_in_k []) prime no_forms_free (subst (Divides (level 1) p) (no_power f) h))
from_power p prime f (suc e) h =
    ⊎_elim (λ z. z) (λ z. from_power p prime f e z)
    (prime_divides (level 1) (level_laws 1) in_n_domain p (forms_in_k (factor_with f 1 ∷ [])) (forms_in_k (factor_with f e ∷ [])) prime
    (subst (Divides (level 1) p) (power_step f e) h))

from_forms : (p : Polynomial (level 1)) → Prime p → (xs : List Factor) → AllByRecursion (λ x. x.power ≢ 0) xs → Divides (level 1) p (forms_in_k xs)
    → FormOf p xs
from_forms p prime [] all h = absurd (divides_no_free p (forms_in_k []) prime no_forms_free h)
from_forms p prime (x ∷ xs) all h =
    ⊎_elim first (λ z. later (from_forms p prime xs all.1 z))
    (prime_divides (level 1) (level_laws 1) in_n_domain p (forms_in_k (factor_with x.form x.power ∷ [])) (forms_in_k xs) prime
    (subst (Divides (level 1) p) (joined_forms (factor_with x.form x.power ∷ []) xs) h))
  where
    first : Divides (level 1) p (forms_in_k (factor_with x.form x.power ∷ [])) → FormOf p (x ∷ xs)
    first z = record {
      form = x.form;
      some = λ none. all.0 (sym (ap (λ b. cond b x.power (power_of x.form xs)) (same_form_itself x.form x.form refl)) ∙ none);
      divides = from_power p prime x.form x.power z;
    }

    later : FormOf p xs → FormOf p (x ∷ xs)
    later r = record { form = r.form; some = by (same_form r.form x.form); divides = r.divides }
      where
        by : (b : Bool) → cond b x.power (power_of r.form xs) ≢ 0
        by true = all.0
        by false = r.some

parts_of : (l : FactorList) → list_in l ≡ in_k.product (in_k.whole l.scale) (forms_in_k l.factors)
parts_of l =
    same_polynomials (list_in l) (in_k.product (in_k.whole l.scale) (forms_in_k l.factors))
    (λ p. value_of l p ∙ sym (product_at (in_k.whole l.scale) (forms_in_k l.factors) p
    ∙ (λ i. (value_at_keeps (values p)).whole l.scale i *ℤ forms_alone l.factors p i)))

scale_some : (l : FactorList) → ¬ (list_polynomial l ≡ (level 2).ops.nought) → l.scale ≢ pos 0
scale_some l some e =
    some (ap (λ (t : Polynomial (level 1)). t.0) (parts_of l ∙ ap (λ t. in_k.product t (forms_in_k l.factors)) (ap in_k.whole e ∙ in_k_ring.whole_zero)
    ∙ nought_product in_k in_k_ring (forms_in_k l.factors)))

whole_free : (w : ℤ) → w ≢ pos 0 → HasDegree (level 1) (in_k.whole w) 0
whole_free w some =
    let base : Ops (Passing (level 1)) = within (level 1) (level_laws 1).closed in
    degree_by (level 1) (level_laws 1) in_n_domain (in_k.whole w) 0
    (λ e. some (in_n_domain.whole_nought w (ap (λ (t : Passing (level 1)). t.0)
    (sym (coefficient-whole (level 1) (level_laws 1).closed (level_laws 1).ring w 0) ∙ e))))
    (λ i b. coefficient-whole (level 1) (level_laws 1).closed (level_laws 1).ring w i
    ∙ lone_ends (level 1) (level_laws 1) in_n_domain (base.whole w) i b)

-- of a list that isn't zero
pub form_of : (p : Polynomial (level 1)) → Prime p → (l : FactorList) → ¬ (list_polynomial l ≡ (level 2).ops.nought)
    → AllByRecursion (λ x. x.power ≢ 0) l.factors → Divides (level 1) p (list_in l) → FormOf p l.factors
form_of p prime l some all h =
    ⊎_elim (λ z. absurd (divides_no_free p (in_k.whole l.scale) prime (whole_free l.scale (scale_some l some)) z))
    (from_forms p prime l.factors all)
    (prime_divides (level 1) (level_laws 1) in_n_domain p (in_k.whole l.scale) (forms_in_k l.factors) prime
    (subst (Divides (level 1) p) (parts_of l) h))
