-- Two polynomials have a common divisor that is a combination of them.
use Rattle.std.specs.Prelude.{◌≡◌, ℕ, zero, suc, ◌≤◌, [], ◌∷◌, length, refl}
use Rattle.std.proofs.Common.{ap, sym, ◌∙◌, ⊎_elim, subst, arith}
use Rattle.ring_laws.specs.Algebra.{Ops, Algebra, Passing, within, Laws}
use Rattle.ring_laws.specs.Division.{DomainLaws}
use Rattle.poly_laws.proofs.PolyLaws.{poly_ring}
use Rattle.poly_laws.proofs.Trimming.{beyond}
use Rattle.poly_laws.proofs.Rings.{solvable, read_nought, read_unit}
use Rattle.ring_solver.specs.Rings.{CommRing}
use Rattle.ring_solver.proofs.Read.{reading, ring}
use Rattle.division_laws.specs.Polynomials.{Polynomial}
use Rattle.division_laws.proofs.Polynomials.{polynomials, list_of, part}
use Rattle.division_laws.specs.Divisors.{Divides}
use Rattle.division_laws.proofs.Degrees.{DegreeBelow, degree_below, not_zero, zero_by}
use Rattle.division_laws.proofs.PseudoDivision.{divided}
use Rattle.division_laws.proofs.Divisors.{itself, divides_none, divides_right, divides_sum, divides_without}

module _ (a : Algebra) (l : Laws a) (d : DomainLaws a) where
  abbrev base : Ops (Passing a)
  base = within a l.closed

  abbrev P : Ops (Polynomial a)
  P = polynomials a l

  abbrev R : CommRing
  R = solvable (polynomials a l) (poly_ring a l.closed l.ring)

  pub record Common (f g : Polynomial a) : Type 0 where
    pub divisor : Polynomial a
    pub left : Polynomial a
    pub right : Polynomial a
    pub is : divisor ≡ P.sum (P.product left f) (P.product right g)
    pub of_f : Divides a divisor f
    pub of_g : Divides a divisor g
    pub some : ¬ (divisor ≡ P.nought)

  alone : (f g : Polynomial a) → f ≡ P.sum (P.product P.unit f) (P.product P.nought g)
  alone f g =
      ring R (f ∷ g ∷ []) (search (reading, read_nought P (poly_ring a l.closed l.ring), read_unit P (poly_ring a l.closed l.ring)) depth 40 fits 20000) refl

  with_none : (f g : Polynomial a) → ¬ (f ≡ P.nought) → g ≡ P.nought → Common f g
  with_none f g some none = record {
    divisor = f;
    left = P.unit;
    right = P.nought;
    is = alone f g;
    of_f = itself a l d f;
    of_g = subst (Divides a f) (sym none) (divides_none a l d f);
    some = some;
  }

  -- u g + v r, where r = c f - e g
  combined : (u v c e f g r : Polynomial a)
      → P.sum (P.product u g) (P.product v (P.sum (P.sum (P.product e g) r) (P.neg (P.product e g))))
      ≡ P.sum (P.product u g) (P.product v r)
  combined u v c e f g r = ring R (u ∷ v ∷ c ∷ e ∷ f ∷ g ∷ r ∷ []) (search reading depth 40 fits 20000) refl

  as_combination : (u v c e f g : Polynomial a)
      → P.sum (P.product u g) (P.product v (P.sum (P.product c f) (P.neg (P.product e g))))
      ≡ P.sum (P.product (P.product v c) f) (P.product (P.sum u (P.neg (P.product v e))) g)
  as_combination u v c e f g = ring R (u ∷ v ∷ c ∷ e ∷ f ∷ g ∷ []) (search reading depth 40 fits 20000) refl

  pub common : (n : ℕ) (f g : Polynomial a) → ((i : ℕ) → n ≤ i → part a l g i ≡ base.nought) → ¬ (f ≡ P.nought) → Common f g
  common zero f g short some = with_none f g some (zero_by a l d g (λ i. short i (omega arith)))
  common (suc n) f g short some = ⊎_elim (with_none f g some) (step (common n)) (degree_below a l d g (suc n) short)
    where
      step : ((e r : Polynomial a) → ((i : ℕ) → n ≤ i → part a l r i ≡ base.nought) → ¬ (e ≡ P.nought) → Common e r)
          → DegreeBelow a l d g (suc n) → Common f g
      step again h =
          let r = divided a l d (length (list_of a l f)) f g h.degree h.is (λ i b. beyond base (list_of a l f) i b) in
          let c = again g r.rest (λ i b. r.below i (omega (arith, b, h.below))) (not_zero a l d g h.degree h.is) in
          record {
            divisor = c.divisor;
            left = P.product c.right r.factor;
            right = P.sum c.left (P.neg (P.product c.right r.quotient));
            is = c.is ∙ sym (combined c.left c.right r.factor r.quotient f g r.rest)
                ∙ ap (λ t. P.sum (P.product c.left g) (P.product c.right (P.sum t (P.neg (P.product r.quotient g))))) (sym r.is)
                ∙ as_combination c.left c.right r.factor r.quotient f g;
            of_f = divides_without a l d c.divisor r.factor f r.free
                (subst (Divides a c.divisor) (sym r.is)
                (divides_sum a l d c.divisor (P.product r.quotient g) r.rest (divides_right a l d c.divisor r.quotient g c.of_f) c.of_g));
            of_g = c.of_f;
            some = c.some;
          }

  pub common_of : (f g : Polynomial a) → ¬ (f ≡ P.nought) → Common f g
  common_of f g some = common (length (list_of a l g)) f g (λ i b. beyond base (list_of a l g) i b) some
