-- How often a form divides a polynomial.
use Rattle.std.specs.Prelude.{◌≡◌, ℕ, zero, suc, ◌≤◌, ℤ, pos, IsTrue, [], length, refl, ⊤}
use Rattle.std.proofs.Common.{ap, sym, ◌∙◌, arith}
use Rattle.ring_laws.specs.Meaning.{Meaning, listed, items}
use Rattle.ring_laws.specs.Algebra.{Ops, Laws, Passing, within, same_passing}
use Rattle.ring_laws.specs.Division.{DomainLaws}
use Rattle.ring_laws.specs.WholeDomain.{whole_domain}
use Rattle.ring_laws.specs.WholeLaws.{whole_laws}
use Rattle.ring_laws.specs.Wholes.{whole_algebra}
use Rattle.poly_laws.specs.LongDivision.{DivisionInBounds}
use Rattle.poly_laws.proofs.PolyDomain.{poly_domain}
use Rattle.poly_laws.proofs.PolyMagnitudes.{poly_laws}
use Rattle.poly_divide.specs.Forms.{linear}
use Rattle.poly_divide.proofs.CommonFactors.{cancel_factor}
use Rattle.whole_roots.specs.Differences.{polynomials}
use Rattle.whole_roots.specs.LinearFactors.{form_power, PowerDivides, IsGreatestPower}
use Rattle.whole_roots.specs.FactorBounds.{DivisionsInBounds}

abbrev pub laws : Laws polynomials
laws = poly_laws whole_algebra whole_laws

abbrev pub domain : DomainLaws polynomials
domain = poly_domain whole_algebra whole_laws whole_domain

abbrev ring : Ops (Passing polynomials)
ring = within polynomials laws.closed

pub form_passes : (u : ℕ) (v : ℤ) → 1 ≤ u → IsTrue (polynomials.passes (linear (pos u) v))
form_passes zero v h = absurd (omega (arith, h))
form_passes (suc u) v h = refl

module _ (u : ℕ) (v : ℤ) (some : 1 ≤ u) where
  abbrev pub form : Passing polynomials
  form = (linear (pos u) v, form_passes u v some)

  form_not_nought : ¬ (form ≡ ring.nought)
  form_not_nought e = absurd (omega (arith, ap (λ (x : Passing polynomials). length (items x.0)) e))

  power_passes : (e : ℕ) → IsTrue (polynomials.passes (form_power u v e))
  power_passes zero = laws.closed.unit
  power_passes (suc e) = laws.closed.product (form_power u v e, power_passes e) form

  abbrev power : ℕ → Passing polynomials
  power e = (form_power u v e, power_passes e)

  times_none : (f : Passing polynomials) → polynomials.ops.product f.0 (form_power u v 0) ≡ f.0
  times_none f = ap (λ (x : Passing polynomials). x.0) (laws.ring.product_comm f ring.unit ∙ laws.ring.unit_product f)

  times_more : (r : Passing polynomials) (e : ℕ)
      → polynomials.ops.product r.0 (form_power u v (suc e))
      ≡ polynomials.ops.product (polynomials.ops.product r.0 (form_power u v e)) (linear (pos u) v)
  times_more r e = sym (ap (λ (x : Passing polynomials). x.0) (laws.ring.product_assoc r (power e) form))

  module _ (f q : Passing polynomials) (is : polynomials.ops.product q.0 (linear (pos u) v) ≡ f.0) where
    step_out : (e : ℕ) (r : Passing polynomials) → polynomials.ops.product r.0 (form_power u v e) ≡ q.0
        → polynomials.ops.product r.0 (form_power u v (suc e)) ≡ f.0
    step_out e r h = times_more r e ∙ ap (λ (m : Meaning). polynomials.ops.product m (linear (pos u) v)) h ∙ is

    step_back : (e : ℕ) (r : Passing polynomials) → polynomials.ops.product r.0 (form_power u v (suc e)) ≡ f.0
        → polynomials.ops.product r.0 (form_power u v e) ≡ q.0
    step_back e r h =
        ap (λ (x : Passing polynomials). x.0)
        (cancel_factor polynomials laws domain (ring.product r (power e)) q form form_not_nought
        (same_passing polynomials (ring.product (ring.product r (power e)) form) (ring.product q form) (sym (times_more r e) ∙ h ∙ sym is)))

    pub quotient_not_zero : ¬ (f.0 ≡ listed []) → ¬ (q.0 ≡ listed [])
    quotient_not_zero n e = n (sym is ∙ ap (λ (m : Meaning). polynomials.ops.product m (linear (pos u) v)) e)

    -- one more than it divides the quotient
    pub greatest_more : (e : ℕ) → IsGreatestPower u v e q.0 → IsGreatestPower u v (suc e) f.0
    greatest_more e h = record {
      divides = record { quotient = h.divides.quotient; is = step_out e h.divides.quotient h.divides.is };
      greatest = below;
    }
      where
        below : (k : ℕ) → PowerDivides u v k f.0 → k ≤ suc e
        below zero d = omega arith
        below (suc k) d = omega (arith, h.greatest k (record { quotient = d.quotient; is = step_back k d.quotient d.is }))

    -- the divisions of the quotient are among those of f
    pub divisions_behind : DivisionsInBounds u v f.0 → DivisionsInBounds u v q.0
    divisions_behind h e r k = h (suc e) r (step_out e r k)

  -- not at all
  pub greatest_none : (f : Passing polynomials) → ((r : Passing polynomials) → ¬ (polynomials.ops.product r.0 (linear (pos u) v) ≡ f.0))
      → IsGreatestPower u v 0 f.0
  greatest_none f none = record { divides = record { quotient = f; is = times_none f }; greatest = below }
    where
      below : (k : ℕ) → PowerDivides u v k f.0 → k ≤ 0
      below zero d = omega arith
      below (suc k) d = absurd (none (ring.product d.quotient (power k)) (sym (times_more d.quotient k) ∙ d.is))

  -- the first division
  pub first_division : (f : Passing polynomials) → DivisionsInBounds u v f.0
      → DivisionInBounds whole_algebra (λ (x y : Meaning). ⊤) f.0 (linear (pos u) v)
  first_division f h = h 0 f (times_none f)

  -- a quotient by the form itself
  pub one_division : (f : Passing polynomials) (d : PowerDivides u v 1 f.0) → polynomials.ops.product d.quotient.0 (linear (pos u) v) ≡ f.0
  one_division f d =
      ap (λ (m : Meaning). polynomials.ops.product m (linear (pos u) v)) (sym (times_none d.quotient)) ∙ sym (times_more d.quotient 0) ∙ d.is

  pub one_power : (f q : Passing polynomials) → polynomials.ops.product q.0 (linear (pos u) v) ≡ f.0 → PowerDivides u v 1 f.0
  one_power f q is = record { quotient = q; is = step_out f q is 0 q (times_none q) }
