-- Polynomials over a domain are a domain.
use Rattle.std.specs.Prelude.{◌≡◌, ℕ, ◌⊎◌, IsTrue, List, [], ◌∷◌, length, refl}
use Rattle.std.proofs.Common.{ap, sym, ◌∙◌, inl, inr, ⊎_elim, arith}
use Rattle.poly_laws.specs.Lists.{coefficient_at, list_product, is_trimmed}
use Rattle.poly_laws.specs.PolyAlgebra.{poly_algebra}
use Rattle.ring_laws.specs.Algebra.{Ops, RingLaws, Algebra, Passing, Closed, within, Laws, same_passing}
use Rattle.ring_laws.specs.Division.{DomainLaws}
use Rattle.poly_laws.proofs.Coefficients.{coefficients, coefficients_trimmed, poly_closed}
use Rattle.poly_laws.proofs.OneQuotient.{NoDivisors, Degree, short_times}
use Rattle.poly_laws.proofs.PolyLaws.{coefficient-product, coefficient-nought, coefficient-whole}
use Rattle.poly_laws.proofs.PolyMagnitudes.{nought_by}
use Rattle.poly_laws.proofs.Trimming.{beyond, last_not}

pub no_divisors_within : (a : Algebra) (c : Closed a) → DomainLaws a → NoDivisors (within a c)
no_divisors_within a c d x y e =
    ⊎_elim (λ h. inl (same_passing a x (within a c).nought h)) (λ h. inr (same_passing a y (within a c).nought h))
    (d.no_divisors x y (ap (λ (v : Passing a). v.0) e))

-- the degree of a trimmed list
pub degree_of : {A : Type 0} (o : Ops A) (l : RingLaws o) (x : A) (xs : List A) → IsTrue (is_trimmed o (x ∷ xs)) → Degree o l (x ∷ xs) (length xs)
degree_of o l x xs h = record { lead = last_not o l x xs h; above = λ k b. beyond o (x ∷ xs) k (omega arith) }

module _ (a : Algebra) (l : Laws a) (d : DomainLaws a) where
  abbrev base : Ops (Passing a)
  base = within a l.closed

  abbrev poly : Ops (Passing (poly_algebra a))
  poly = within (poly_algebra a) (poly_closed a l.closed)

  no_factor : (x y : Passing (poly_algebra a)) (ys : List (Passing a)) → coefficients a l.closed y ≡ ys → poly.product x y ≡ poly.nought
      → (x ≡ poly.nought) ⊎ (y ≡ poly.nought)
  no_factor x y [] f e = inr (nought_by a l.closed l.ring l.magnitudes y (λ k. ap (λ t. coefficient_at base t k) f))
  no_factor x y (v ∷ vs) f e =
      let t : IsTrue (is_trimmed base (v ∷ vs)) = ap (is_trimmed base) (sym f) ∙ coefficients_trimmed a l.closed y in
      let z : (k : ℕ) → coefficient_at base (list_product base (coefficients a l.closed x) (v ∷ vs)) k ≡ base.nought =
      λ k. ap (λ s. coefficient_at base (list_product base (coefficients a l.closed x) s) k) (sym f)
      ∙ sym (coefficient-product a l.closed l.ring x y k) ∙ ap (λ s. coefficient_at base (coefficients a l.closed s) k) e
      ∙ coefficient-nought a l.closed l.ring k in
      inl (nought_by a l.closed l.ring l.magnitudes x
      (short_times base l.ring (no_divisors_within a l.closed d) (v ∷ vs) (length vs) (degree_of base l.ring v vs t) (coefficients a l.closed x)
      (λ k b. z k)))

  pub poly_domain : DomainLaws (poly_algebra a)
  poly_domain = record {
    no_divisors = λ x y e.
        ⊎_elim (λ h. inl (ap (λ (v : Passing (poly_algebra a)). v.0) h)) (λ h. inr (ap (λ (v : Passing (poly_algebra a)). v.0) h))
        (no_factor x y (coefficients a l.closed y) refl (same_passing (poly_algebra a) (poly.product x y) poly.nought e));
    whole_nought = λ w e. d.whole_nought w
        (ap (λ (v : Passing a). v.0)
        (sym (coefficient-whole a l.closed l.ring w 0)
        ∙ ap (λ s. coefficient_at base (coefficients a l.closed s) 0) (same_passing (poly_algebra a) (poly.whole w) poly.nought e)
        ∙ coefficient-nought a l.closed l.ring 0));
  }
