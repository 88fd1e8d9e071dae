-- The lists q0 and r0 of the pieces of a term aren't zero as polynomials: their forms have k slopes that aren't 0.
use Rattle.std.specs.Prelude.{◌≡◌, ◌≢◌, ℕ, zero, suc, ℤ, pos, ◌+ℤ◌, ◌*ℤ◌, List, [], ◌∷◌, refl}
use Rattle.std.proofs.Common.{ap, sym, ◌∙◌, arith}
use Rattle.std.proofs.lemmas.Int.{ints}
use Rattle.std.proofs.Math.IntN.{pow, pow-succ'}
use Rattle.ring_solver.proofs.Read.{ring_z, reading_z}
use Rattle.ring_laws.specs.Algebra.{same_passing}
use Rattle.poly_laws.specs.Values.{level}
use Rattle.poly_laws.proofs.Equal.{level_laws}
use Rattle.poly_laws.proofs.Keeps.{value_at_keeps}
use Rattle.poly_laws.proofs.PolyDomain.{poly_domain}
use Rattle.division_laws.specs.Polynomials.{Polynomial}
use Rattle.hypergeometric.specs.Point.{Point, point, values}
use Rattle.hypergeometric.specs.LinearForm.{LinearForm, Factor, FactorList, form_value}
use Rattle.hypergeometric.specs.ProperTerm.{ProperTerm, HasFractions, poly_value}
use Rattle.hypergeometric.specs.FactorLists.{factor_with}
use Rattle.hypergeometric.specs.Products.{list_polynomial}
use Rattle.term_pieces.specs.Products.{IsProductOf}
use Rattle.term_pieces.specs.Pieces.{Pieces, q_forms, r_forms, ArePiecesOf}
use Rattle.term_pieces.proofs.FormValues.{lone_value}
use Rattle.term_pieces.proofs.ProductValues.{product_value}
use Rattle.pole_laws.proofs.Domains.{in_n_domain}
use Rattle.pole_laws.proofs.FormProducts.{forms_in_k, joined_forms, unit_some, not_product}
use Rattle.pole_laws.proofs.FormsWithK.{HaveK, q_forms_k, r_forms_k}
use Rattle.pole_laws.proofs.NormalPolynomials.{in_k, list_in, same_polynomials, product_at, value_of, forms_alone}

power_one : (z : ℤ) → pow z 1 ≡ z
unfolding pow lib.IntN.one
power_one z = one_times z
  where
    one_times : (z : ℤ) → pos 1 *ℤ z ≡ z
    one_times z = ring_z (z ∷ []) (search reading_z depth 40 fits 20000) refl

power_zero : (z : ℤ) → pow z 0 ≡ pos 1
unfolding pow lib.IntN.one
power_zero z = refl

power_at : (f : LinearForm) (p : Point) (e : ℕ) → poly_value (forms_in_k (factor_with f e ∷ [])).0 p ≡ pow (form_value f p) e
power_at f p e = forms_alone (factor_with f e ∷ []) p ∙ lone_value f e p

pub no_power : (f : LinearForm) → forms_in_k (factor_with f 0 ∷ []) ≡ forms_in_k []
no_power f =
    same_polynomials (forms_in_k (factor_with f 0 ∷ [])) (forms_in_k [])
    (λ p. power_at f p 0 ∙ power_zero (form_value f p) ∙ sym (forms_alone [] p))

pub power_step : (f : LinearForm) (e : ℕ)
    → forms_in_k (factor_with f (suc e) ∷ []) ≡ in_k.product (forms_in_k (factor_with f 1 ∷ [])) (forms_in_k (factor_with f e ∷ []))
power_step f e =
    same_polynomials (forms_in_k (factor_with f (suc e) ∷ [])) (in_k.product (forms_in_k (factor_with f 1 ∷ [])) (forms_in_k (factor_with f e ∷ [])))
    (λ p. power_at f p (suc e) ∙ pow-succ' (form_value f p) e ∙ ap (λ t. t *ℤ pow (form_value f p) e) (sym (power_one (form_value f p)))
    ∙ sym (product_at (forms_in_k (factor_with f 1 ∷ [])) (forms_in_k (factor_with f e ∷ [])) p
    ∙ (λ i. power_at f p 1 i *ℤ power_at f p e i)))

-- a form with a k slope that isn't 0 has other values than 0
slope_of_values : (a b c : ℤ) → a *ℤ pos 0 +ℤ b *ℤ pos 0 +ℤ c ≡ pos 0 → a *ℤ pos 0 +ℤ b *ℤ pos 1 +ℤ c ≡ pos 0 → b ≡ pos 0
slope_of_values a b c h k = omega (arith, ints, h, k)

pub lone_some : (f : LinearForm) → f.k_slope ≢ pos 0 → ¬ (forms_in_k (factor_with f 1 ∷ []) ≡ in_k.nought)
lone_some f slope e = slope (slope_of_values f.n_slope f.k_slope f.offset (at_point (pos 0)) (at_point (pos 1)))
  where
    at_point : (k : ℤ) → form_value f (point (pos 0) k) ≡ pos 0
    at_point k =
        sym (power_one (form_value f (point (pos 0) k))) ∙ sym (power_at f (point (pos 0) k) 1)
        ∙ ap (λ (t : Polynomial (level 1)). poly_value t.0 (point (pos 0) k)) e ∙ (value_at_keeps (values (point (pos 0) k))).nought

powers_some : (f : LinearForm) (e : ℕ) → f.k_slope ≢ pos 0 → ¬ (forms_in_k (factor_with f e ∷ []) ≡ in_k.nought)
powers_some f zero slope z = unit_some (sym (no_power f) ∙ z)
powers_some f (suc e) slope z =
    not_product (forms_in_k (factor_with f 1 ∷ [])) (forms_in_k (factor_with f e ∷ [])) (lone_some f slope) (powers_some f e slope)
    (sym (power_step f e) ∙ z)

forms_some : (xs : List Factor) → HaveK xs → ¬ (forms_in_k xs ≡ in_k.nought)
forms_some [] h = unit_some
forms_some (x ∷ xs) h = λ z.
    not_product (forms_in_k (factor_with x.form x.power ∷ [])) (forms_in_k xs) (powers_some x.form x.power h.0) (forms_some xs h.1)
    (sym (joined_forms (factor_with x.form x.power ∷ []) xs) ∙ z)

-- a number that isn't 0 times such forms
product_some : (l : FactorList) (number : ℤ) (forms : List Factor) → IsProductOf l number forms → number ≢ pos 0 → HaveK forms
    → ¬ (list_polynomial l ≡ (level 2).ops.nought)
product_some l number forms is not_zero h z =
    not_product (in_k.whole number) (forms_in_k forms)
    (λ e. not_zero ((poly_domain (level 1) (level_laws 1) in_n_domain).whole_nought number (ap (λ (t : Polynomial (level 1)). t.0) e)))
    (forms_some forms h)
    (sym parts ∙ same_passing (level 2) (list_in l) in_k.nought z)
  where
    parts : list_in l ≡ in_k.product (in_k.whole number) (forms_in_k forms)
    parts =
        same_polynomials (list_in l) (in_k.product (in_k.whole number) (forms_in_k forms))
        (λ p. value_of l p ∙ product_value p l number forms is
        ∙ sym (product_at (in_k.whole number) (forms_in_k forms) p
        ∙ (λ i. (value_at_keeps (values p)).whole number i *ℤ forms_alone forms p i)))

pub q0_some : (f : ProperTerm) (pieces : Pieces) (order : ℕ) → HasFractions f → ArePiecesOf pieces f order
    → ¬ (list_polynomial pieces.q0 ≡ (level 2).ops.nought)
q0_some f pieces order fractions are =
    product_some pieces.q0 f.k_base.top (q_forms f order) are.q0 fractions.k_base.top (q_forms_k f order)

pub r0_some : (f : ProperTerm) (pieces : Pieces) (order : ℕ) → HasFractions f → ArePiecesOf pieces f order
    → ¬ (list_polynomial pieces.r0 ≡ (level 2).ops.nought)
r0_some f pieces order fractions are =
    product_some pieces.r0 f.k_base.bottom (r_forms f order) are.r0 fractions.k_base.bottom (r_forms_k f order)
