-- Divisors up to a factor that is free of k.
use Rattle.std.specs.Prelude.{◌≡◌, [], ◌∷◌, refl}
use Rattle.std.proofs.Common.{ap, sym, ◌∙◌, subst}
use Rattle.ring_laws.specs.Algebra.{Ops, RingLaws, Algebra, Laws, same_passing}
use Rattle.ring_laws.specs.Division.{DomainLaws}
use Rattle.poly_laws.specs.PolyAlgebra.{poly_algebra}
use Rattle.poly_laws.proofs.PolyLaws.{poly_ring}
use Rattle.poly_laws.proofs.Rings.{solvable, read_nought, read_unit}
use Rattle.ring_solver.specs.Rings.{CommRing}
use Rattle.ring_solver.proofs.Read.{reading, ring}
use Rattle.division_laws.specs.Polynomials.{Polynomial}
use Rattle.division_laws.proofs.Polynomials.{polynomials}
use Rattle.division_laws.specs.Divisors.{HasDegree, Divides}
use Rattle.division_laws.proofs.Degrees.{unit_degree, product_degree}

module _ (a : Algebra) (l : Laws a) (d : DomainLaws a) where
  abbrev P : Ops (Polynomial a)
  P = polynomials a l

  P_ring : RingLaws (polynomials a l)
  P_ring = poly_ring a l.closed l.ring

  abbrev R : CommRing
  R = solvable (polynomials a l) (poly_ring a l.closed l.ring)

  pub equation : (p f : Polynomial a) (h : Divides a p f) → P.product h.factor f ≡ P.product p h.quotient
  equation p f h = same_passing (poly_algebra a) (P.product h.factor f) (P.product p h.quotient) h.is

  pub divides_by : (p f c h : Polynomial a) → HasDegree a c 0 → P.product c f ≡ P.product p h → Divides a p f
  divides_by p f c h free e = record { factor = c; free = free; quotient = h; is = ap (λ (t : Polynomial a). t.0) e }

  pub free_product : (c e : Polynomial a) → HasDegree a c 0 → HasDegree a e 0 → HasDegree a (P.product c e) 0
  free_product c e h k = product_degree a l d c e 0 0 h k

  exchanged : (x y : Polynomial a) → P.product x y ≡ P.product y x
  exchanged x y = P_ring.product_comm x y

  pub itself : (p : Polynomial a) → Divides a p p
  itself p = divides_by p p P.unit P.unit (unit_degree a l d) (exchanged P.unit p)

  none_is : (p : Polynomial a) → P.product P.unit P.nought ≡ P.product p P.nought
  none_is p = ring R (p ∷ []) (search (reading, read_nought P (poly_ring a l.closed l.ring), read_unit P (poly_ring a l.closed l.ring)) depth 40 fits 20000) refl

  pub divides_none : (p : Polynomial a) → Divides a p P.nought
  divides_none p = divides_by p P.nought P.unit P.nought (unit_degree a l d) (none_is p)

  pub divides_product : (p f g : Polynomial a) → Divides a p f → Divides a p (P.product f g)
  divides_product p f g h =
      divides_by p (P.product f g) h.factor (P.product h.quotient g) h.free
      (sym (P_ring.product_assoc h.factor f g) ∙ ap (λ t. P.product t g) (equation p f h) ∙ P_ring.product_assoc p h.quotient g)

  pub divides_right : (p f g : Polynomial a) → Divides a p g → Divides a p (P.product f g)
  divides_right p f g h = subst (Divides a p) (exchanged g f) (divides_product p g f h)

  spread : (c e f g : Polynomial a) → P.product (P.product c e) (P.sum f g) ≡ P.sum (P.product e (P.product c f)) (P.product c (P.product e g))
  spread c e f g = ring R (c ∷ e ∷ f ∷ g ∷ []) (search reading depth 40 fits 20000) refl

  collected : (c e p h k : Polynomial a) → P.sum (P.product e (P.product p h)) (P.product c (P.product p k)) ≡ P.product p (P.sum (P.product e h) (P.product c k))
  collected c e p h k = ring R (c ∷ e ∷ p ∷ h ∷ k ∷ []) (search reading depth 40 fits 20000) refl

  pub divides_sum : (p f g : Polynomial a) → Divides a p f → Divides a p g → Divides a p (P.sum f g)
  divides_sum p f g h k =
      divides_by p (P.sum f g) (P.product h.factor k.factor) (P.sum (P.product k.factor h.quotient) (P.product h.factor k.quotient))
      (free_product h.factor k.factor h.free k.free)
      (spread h.factor k.factor f g
      ∙ (λ i. P.sum (P.product k.factor (equation p f h i)) (P.product h.factor (equation p g k i)))
      ∙ collected h.factor k.factor p h.quotient k.quotient)

  negated : (c f : Polynomial a) → P.product c (P.neg f) ≡ P.neg (P.product c f)
  negated c f = ring R (c ∷ f ∷ []) (search reading depth 40 fits 20000) refl

  pub divides_neg : (p f : Polynomial a) → Divides a p f → Divides a p (P.neg f)
  divides_neg p f h =
      divides_by p (P.neg f) h.factor (P.neg h.quotient) h.free (negated h.factor f ∙ ap P.neg (equation p f h) ∙ sym (negated p h.quotient))

  regrouped : (c e g : Polynomial a) → P.product (P.product c e) g ≡ P.product c (P.product e g)
  regrouped c e g = P_ring.product_assoc c e g

  pub divides_trans : (p f g : Polynomial a) → Divides a p f → Divides a f g → Divides a p g
  divides_trans p f g h k =
      divides_by p g (P.product h.factor k.factor) (P.product h.quotient k.quotient) (free_product h.factor k.factor h.free k.free)
      (regrouped h.factor k.factor g ∙ ap (P.product h.factor) (equation f g k) ∙ sym (regrouped h.factor f k.quotient)
      ∙ ap (λ t. P.product t k.quotient) (equation p f h) ∙ regrouped p h.quotient k.quotient)

  -- a factor free of k doesn't count
  pub divides_without : (p c f : Polynomial a) → HasDegree a c 0 → Divides a p (P.product c f) → Divides a p f
  divides_without p c f free h =
      divides_by p f (P.product h.factor c) h.quotient (free_product h.factor c h.free free)
      (regrouped h.factor c f ∙ equation p (P.product c f) h)
