-- The lead of a product of polynomials in n is the product of their leads.
-- These are lemmas: they stand here, and not in proofs/, since the laws of the polynomials in n name the last of them.
use Rattle.std.specs.Prelude.{◌≡◌, ℕ, suc, ◌+◌, ◌-◌, ◌≤◌, ◌<◌, ◌*ℤ◌, ◌⊎◌, length, refl}
use Rattle.std.proofs.Common.{ap, sym, ◌∙◌, arith, ⊎_elim}
use Rattle.std.proofs.Math.IntN.{*ℤ-zero, zero-*ℤ}
use Rattle.std.proofs.lemmas.Bool.{cases_lt}
use Rattle.ring_laws.specs.Algebra.{Passing, same_passing}
use Rattle.ring_laws.specs.Wholes.{number_of, whole_algebra}
use Rattle.ring_laws.specs.WholeLaws.{whole_laws}
use Rattle.ring_laws.specs.WholeDomain.{whole_domain}
use Rattle.poly_laws.specs.Lists.{coefficient_at}
use Rattle.poly_laws.specs.Values.{level}
use Rattle.poly_laws.proofs.Coefficients.{coefficients_trimmed}
use Rattle.poly_laws.proofs.ListLaws.{nought_product, product_nought}
use Rattle.poly_laws.proofs.PolyLaws.{coefficient-product, poly_ring}
use Rattle.poly_laws.proofs.ProductTops.{product_top, product_ends}
use Rattle.poly_laws.proofs.Trimming.{beyond, length_within, zero_or_not}
use Rattle.form_rings.specs.OneVariable.{lead_in_n}
use Rattle.form_rings.specs.OneVariableLeads.{numbers, list_of, polynomials, lead_at_end, zero_lead}

-- the place of the last coefficient
abbrev degree : Passing (level 1) → ℕ
degree f = length (list_of f) - 1

top : Passing (level 1) → Passing whole_algebra
top f = coefficient_at numbers (list_of f) (degree f)

top_some : (f : Passing (level 1)) → ¬ (f ≡ polynomials.nought) → ¬ (top f ≡ numbers.nought)
unfolding top
top_some f some e =
    some (same_passing (level 1) f polynomials.nought
    (zero_lead f (lead_at_end f ∙ ap (λ (t : Passing whole_algebra). number_of t.0) e)))

ends : (f : Passing (level 1)) (k : ℕ) → degree f < k → coefficient_at numbers (list_of f) k ≡ numbers.nought
ends f k b = beyond numbers (list_of f) k (omega (arith, b))

zero_or_top : (f : Passing (level 1)) → (f ≡ polynomials.nought) ⊎ ¬ (f ≡ polynomials.nought)
zero_or_top f = zero_or_not polynomials (poly_ring whole_algebra whole_laws.closed whole_laws.ring) f

module _ (f g : Passing (level 1)) where
  abbrev both : Passing (level 1)
  both = polynomials.product f g

  top_product : coefficient_at numbers (list_of both) (degree f + degree g) ≡ numbers.product (top f) (top g)
  unfolding top
  top_product = coefficient-product whole_algebra whole_laws.closed whole_laws.ring f g (degree f + degree g)
      ∙ product_top numbers whole_laws.ring (list_of f) (list_of g) (degree f) (degree g) (degree f + degree g) (ends f) (ends g) refl

  above : (k : ℕ) → suc (degree f + degree g) ≤ k → coefficient_at numbers (list_of both) k ≡ numbers.nought
  above k b = coefficient-product whole_algebra whole_laws.closed whole_laws.ring f g k
      ∙ product_ends numbers whole_laws.ring (list_of f) (list_of g) (degree f) (degree g) (ends f) (ends g) k (omega (arith, b))

  product_some : ¬ (top f ≡ numbers.nought) → ¬ (top g ≡ numbers.nought) → ¬ (numbers.product (top f) (top g) ≡ numbers.nought)
  product_some some more e =
      ⊎_elim (λ h. some (same_passing whole_algebra (top f) numbers.nought h)) (λ h. more (same_passing whole_algebra (top g) numbers.nought h))
      (whole_domain.no_divisors (top f) (top g) (ap (λ (t : Passing whole_algebra). t.0) e))

  degree_product : ¬ (top f ≡ numbers.nought) → ¬ (top g ≡ numbers.nought) → degree both ≡ degree f + degree g
  degree_product some more =
      let most = length_within numbers whole_laws.ring (list_of both) (suc (degree f + degree g))
      (coefficients_trimmed whole_algebra whole_laws.closed both) above in
      ⊎_elim (λ b. omega (arith, b, most))
      (λ b. absurd (product_some some more (sym top_product ∙ beyond numbers (list_of both) (degree f + degree g) b)))
      (cases_lt (degree f + degree g) (length (list_of both)))

  product_of_tops : ¬ (top f ≡ numbers.nought) → ¬ (top g ≡ numbers.nought) → lead_in_n both.0 ≡ lead_in_n f.0 *ℤ lead_in_n g.0
  unfolding top
  product_of_tops some more =
      lead_at_end both
      ∙ ap (λ k. number_of (coefficient_at numbers (list_of both) k).0) (degree_product some more)
      ∙ ap (λ (t : Passing whole_algebra). number_of t.0) top_product
      ∙ sym (λ i. lead_at_end f i *ℤ lead_at_end g i)

-- the lead of a product is the product of the leads
pub product_lead : (f g : Passing (level 1)) → lead_in_n ((level 1).ops.product f.0 g.0) ≡ lead_in_n f.0 *ℤ lead_in_n g.0
product_lead f g =
    ⊎_elim left (λ some. ⊎_elim right (λ more. product_of_tops f g (top_some f some) (top_some g more)) (zero_or_top g)) (zero_or_top f)
  where
    left : f ≡ polynomials.nought → lead_in_n ((level 1).ops.product f.0 g.0) ≡ lead_in_n f.0 *ℤ lead_in_n g.0
    left e =
        ap (λ (t : Passing (level 1)). lead_in_n t.0)
        (ap (λ t. polynomials.product t g) e ∙ nought_product polynomials (poly_ring whole_algebra whole_laws.closed whole_laws.ring) g)
        ∙ sym (zero-*ℤ (lead_in_n g.0)) ∙ ap (λ (t : Passing (level 1)). lead_in_n t.0 *ℤ lead_in_n g.0) (sym e)

    right : g ≡ polynomials.nought → lead_in_n ((level 1).ops.product f.0 g.0) ≡ lead_in_n f.0 *ℤ lead_in_n g.0
    right e =
        ap (λ (t : Passing (level 1)). lead_in_n t.0)
        (ap (polynomials.product f) e ∙ product_nought polynomials (poly_ring whole_algebra whole_laws.closed whole_laws.ring) f)
        ∙ sym (*ℤ-zero (lead_in_n f.0)) ∙ ap (λ (t : Passing (level 1)). lead_in_n f.0 *ℤ lead_in_n t.0) (sym e)
