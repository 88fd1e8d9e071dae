-- Powers of a form as polynomials in k and n.
use Rattle.std.proofs.Common.{◌≡◌, ℕ, zero, suc, ◌+◌, [], ◌∷◌, refl, ap, sym, ◌∙◌, arith}
use Rattle.std.specs.Prelude.{pos}
use Rattle.ring_laws.specs.Algebra.{same_passing}
use Rattle.poly_laws.specs.Values.{level}
use Rattle.poly_laws.specs.Powers.{power_in}
use Rattle.division_laws.specs.Polynomials.{Polynomial}
use Rattle.hypergeometric.specs.LinearForm.{LinearForm}
use Rattle.hypergeometric.specs.FactorLists.{factor_with}
use Rattle.hypergeometric.specs.Products.{form_polynomial}
use Rattle.pole_laws.proofs.NormalPolynomials.{in_k}
use Rattle.pole_laws.proofs.FormProducts.{in_k_ring, forms_in_k}
use Rattle.pole_laws.proofs.Cancelling.{form_in_k}

-- a power of a form
abbrev pub power : LinearForm → ℕ → Polynomial (level 1)
power f n = power_in in_k (form_in_k f) n

pub power_is : (f : LinearForm) (n : ℕ) → (power_in in_k (form_in_k f) n).0 ≡ power_in (level 2).ops (form_polynomial f) n
power_is f zero = refl
power_is f (suc n) = ap ((level 2).ops.product (form_polynomial f)) (power_is f n)

pub power_split : (f : LinearForm) (m p k : ℕ) → k ≡ m + p
    → power_in in_k (form_in_k f) k ≡ in_k.product (power_in in_k (form_in_k f) m) (power_in in_k (form_in_k f) p)
power_split f zero p k e = let same : k ≡ p = omega (arith, e) in ap (power f) same ∙ sym (in_k_ring.unit_product (power f p))
power_split f (suc m) p zero e = absurd (omega (arith, e))
power_split f (suc m) p (suc k) e =
    let same : k ≡ m + p = omega (arith, e) in
    ap (in_k.product (form_in_k f)) (power_split f m p k same) ∙ sym (in_k_ring.product_assoc (form_in_k f) (power f m) (power f p))

times_unit : (x : Polynomial (level 1)) → in_k.product x in_k.unit ≡ x
times_unit x = in_k_ring.product_comm x in_k.unit ∙ in_k_ring.unit_product x

-- as a list of one form
pub lone_power : (f : LinearForm) (n : ℕ) → forms_in_k (factor_with f n ∷ []) ≡ power_in in_k (form_in_k f) n
lone_power f n =
    same_passing (level 2) (forms_in_k (factor_with f n ∷ [])) (in_k.product (in_k.whole (pos 1)) (in_k.product (power f n) in_k.unit))
    (ap (λ t. (level 2).ops.product ((level 2).ops.whole (pos 1)) ((level 2).ops.product t (level 2).ops.unit)) (sym (power_is f n)))
    ∙ ap (λ t. in_k.product t (in_k.product (power f n) in_k.unit)) in_k_ring.whole_one
    ∙ in_k_ring.unit_product (in_k.product (power f n) in_k.unit) ∙ times_unit (power f n)
