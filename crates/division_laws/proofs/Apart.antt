-- Shifts of a polynomial of positive degree by different numbers don't divide one another.
use Rattle.std.specs.Prelude.{◌≡◌, ℕ, suc, ◌+◌, pos, [], ◌∷◌, length, refl}
use Rattle.std.proofs.Common.{ap, sym, ◌∙◌, ⊎_elim, subst, arith}
use Rattle.ring_laws.specs.Algebra.{Ops, RingLaws, Algebra, Passing, within, Laws}
use Rattle.ring_laws.specs.Division.{DomainLaws}
use Rattle.poly_laws.specs.Lists.{coefficient_at, list_product}
use Rattle.poly_laws.proofs.ListLaws.{product_nought, nought_product, sum_nought}
use Rattle.poly_laws.proofs.OneQuotient.{cancel, cancelled}
use Rattle.poly_laws.proofs.PolyLaws.{coefficient-product, poly_ring}
use Rattle.poly_laws.proofs.Rings.{solvable}
use Rattle.ring_solver.proofs.Read.{reading, ring}
use Rattle.division_laws.specs.Polynomials.{Polynomial}
use Rattle.division_laws.proofs.Polynomials.{polynomials, list_of, part, shifted_at}
use Rattle.poly_laws.proofs.ProductTops.{product_top, product_second}
use Rattle.poly_laws.proofs.ShiftedTops.{shifted_top, shifted_second}
use Rattle.division_laws.specs.Divisors.{HasDegree, Divides}
use Rattle.division_laws.proofs.Degrees.{DegreeBelow, degree_or_zero, no_divisors, ends, lead_some, not_zero, one_degree, product_degree}
use Rattle.division_laws.proofs.Divisors.{equation, divides_by}
use Rattle.division_laws.proofs.Shifts.{at_later}
use Rattle.division_laws.proofs.ShiftedDivisors.{later_degree}

module _ (a : Algebra) (l : Laws a) (d : DomainLaws a) where
  abbrev base : Ops (Passing a)
  base = within a l.closed

  abbrev P : Ops (Polynomial a)
  P = polynomials a l

  whole_some : (n : ℕ) → ¬ (base.whole (pos (suc n)) ≡ base.nought)
  whole_some n e =
      let no : pos (suc n) ≡ pos 0 = d.whole_nought (pos (suc n)) (ap (λ (t : Passing a). t.0) e) in
      cc

  -- of two polynomials of one degree, of which one divides the other, the quotient is free of k
  pub same_degree : (p f : Polynomial a) (m : ℕ) → HasDegree a p m → HasDegree a f m → (h : Divides a p f) → HasDegree a h.quotient 0
  same_degree p f m of_p of_f h =
      ⊎_elim
      (λ z. absurd (not_zero a l d (P.product h.factor f) (0 + m) (product_degree a l d h.factor f 0 m h.free of_f)
      (equation a l d p f h ∙ ap (P.product p) z ∙ product_nought P (poly_ring a l.closed l.ring) p)))
      (λ (g : DegreeBelow a l d h.quotient (length (list_of a l h.quotient))).
      let sum : 0 + m ≡ m + g.degree = one_degree a l d (P.product h.factor f) (0 + m) (m + g.degree)
      (product_degree a l d h.factor f 0 m h.free of_f)
      (subst (λ t. HasDegree a t (m + g.degree)) (sym (equation a l d p f h)) (product_degree a l d p h.quotient m g.degree of_p g.is)) in
      let none : g.degree ≡ 0 = omega (arith, sum) in
      subst (HasDegree a h.quotient) none g.is)
      (degree_or_zero a l d h.quotient)

  moved : (c x y w e : Passing a)
      → base.product (base.sum x (base.product w y)) e ≡ base.sum (base.product e x) (base.product (base.product w y) e)
  moved c x y w e = ring (solvable base l.ring) (c ∷ x ∷ y ∷ w ∷ e ∷ []) (search reading depth 40 fits 20000) refl

  -- c x = (x + w y) c, with y and c that aren't zero: w is zero
  no_shift : (c x y w : Passing a) → ¬ (c ≡ base.nought) → ¬ (y ≡ base.nought)
      → base.product c x ≡ base.product (base.sum x (base.product w y)) c → w ≡ base.nought
  no_shift c x y w c_some y_some e =
      ⊎_elim (λ z. ⊎_elim (λ u. u) (λ u. absurd (y_some u)) (no_divisors a l d w y z)) (λ z. absurd (c_some z))
      (no_divisors a l d (base.product w y) c none)
    where
      none : base.product (base.product w y) c ≡ base.nought
      none =
          cancel base l.ring (base.product (base.product w y) c) base.nought (base.product c x)
          (l.ring.sum_comm (base.product (base.product w y) c) (base.product c x) ∙ sym (moved c x y w c) ∙ sym e
          ∙ sym (l.ring.nought_sum (base.product c x)))

  pub apart : (p : Polynomial a) (m t : ℕ) → HasDegree a p (suc m) → Divides a (at_later a l (pos (suc t)) p) p → ⊥
  apart p m t of_p h =
      ⊎_elim (whole_some m) (whole_some t)
      (no_divisors a l d (base.whole (pos (suc m))) (base.whole (pos (suc t)))
      (no_shift c x y (base.product (base.whole (pos (suc m))) (base.whole (pos (suc t)))) (lead_some a l d h.factor 0 h.free) (lead_some a l d p (suc m) of_p)
      (second ∙ ap (base.product (base.sum x (base.product (base.product (base.whole (pos (suc m))) (base.whole (pos (suc t)))) y))) (sym same))))
    where
      s : Polynomial a
      s = at_later a l (pos (suc t)) p

      of_s : HasDegree a (at_later a l (pos (suc t)) p) (suc m)
      of_s = later_degree a l d (pos (suc t)) p (suc m) of_p

      free : HasDegree a h.quotient 0
      free = same_degree (at_later a l (pos (suc t)) p) p (suc m) (later_degree a l d (pos (suc t)) p (suc m) of_p) of_p h

      c : Passing a
      c = part a l h.factor 0

      e : Passing a
      e = part a l h.quotient 0

      x : Passing a
      x = part a l p m

      y : Passing a
      y = part a l p (suc m)

      both : (n : ℕ) → coefficient_at base (list_product base (list_of a l h.factor) (list_of a l p)) n
          ≡ coefficient_at base (list_product base (list_of a l (at_later a l (pos (suc t)) p)) (list_of a l h.quotient)) n
      both n =
          sym (coefficient-product a l.closed l.ring h.factor p n)
          ∙ ap (λ f. part a l f n) (equation a l d (at_later a l (pos (suc t)) p) p h)
          ∙ coefficient-product a l.closed l.ring (at_later a l (pos (suc t)) p) h.quotient n

      s_top : part a l (at_later a l (pos (suc t)) p) (suc m) ≡ part a l p (suc m)
      s_top = shifted_at a l (pos (suc t)) p (suc m) ∙ shifted_top base l.ring (base.whole (pos (suc t))) (list_of a l p) (suc m) (ends a l d p (suc m) of_p)

      s_second : part a l (at_later a l (pos (suc t)) p) m
          ≡ base.sum (part a l p m) (base.product (base.product (base.whole (pos (suc m))) (base.whole (pos (suc t)))) (part a l p (suc m)))
      s_second =
          shifted_at a l (pos (suc t)) p m
          ∙ shifted_second base l.ring (base.whole (pos (suc t))) (list_of a l p) (suc m) (ends a l d p (suc m) of_p)

      same : part a l h.factor 0 ≡ part a l h.quotient 0
      same =
          cancelled base l.ring (no_divisors a l d) (part a l h.factor 0) (part a l h.quotient 0) (part a l p (suc m)) (lead_some a l d p (suc m) of_p)
          (sym (product_top base l.ring (list_of a l h.factor) (list_of a l p) 0 (suc m) (suc m) (ends a l d h.factor 0 h.free) (ends a l d p (suc m) of_p)
          (omega arith))
          ∙ both (suc m)
          ∙ product_top base l.ring (list_of a l (at_later a l (pos (suc t)) p)) (list_of a l h.quotient) (suc m) 0 (suc m)
          (ends a l d (at_later a l (pos (suc t)) p) (suc m) of_s) (ends a l d h.quotient 0 free) (omega arith)
          ∙ ap (λ z. base.product z (part a l h.quotient 0)) s_top
          ∙ l.ring.product_comm (part a l p (suc m)) (part a l h.quotient 0))

      second : base.product (part a l h.factor 0) (part a l p m)
          ≡ base.product (base.sum (part a l p m)
          (base.product (base.product (base.whole (pos (suc m))) (base.whole (pos (suc t)))) (part a l p (suc m)))) (part a l h.quotient 0)
      second =
          sym (product_second base l.ring (list_of a l h.factor) (list_of a l p) 0 (suc m) m (ends a l d h.factor 0 h.free) (ends a l d p (suc m) of_p)
          (omega arith)
          ∙ ap (base.sum (base.product (part a l h.factor 0) (part a l p m))) (nought_product base l.ring (part a l p (suc m)))
          ∙ sum_nought base l.ring (base.product (part a l h.factor 0) (part a l p m)))
          ∙ both m
          ∙ product_second base l.ring (list_of a l (at_later a l (pos (suc t)) p)) (list_of a l h.quotient) (suc m) 0 m
          (ends a l d (at_later a l (pos (suc t)) p) (suc m) of_s) (ends a l d h.quotient 0 free) (omega arith)
          ∙ ap (λ z. base.sum z (base.product (part a l (at_later a l (pos (suc t)) p) m) (part a l h.quotient 0)))
          (product_nought base l.ring (part a l (at_later a l (pos (suc t)) p) (suc m)))
          ∙ l.ring.nought_sum (base.product (part a l (at_later a l (pos (suc t)) p) m) (part a l h.quotient 0))
          ∙ ap (λ z. base.product z (part a l h.quotient 0)) s_second

  -- nor the other way round
  pub apart_back : (p : Polynomial a) (m t : ℕ) → HasDegree a p (suc m) → Divides a p (at_later a l (pos (suc t)) p) → ⊥
  apart_back p m t of_p h =
      let s : Polynomial a = at_later a l (pos (suc t)) p in
      let free : HasDegree a h.quotient 0 = same_degree p s (suc m) of_p (later_degree a l d (pos (suc t)) p (suc m) of_p) h in
      let ring_of : RingLaws P = poly_ring a l.closed l.ring in
      apart p m t of_p
      (divides_by a l d s p h.quotient h.factor free
      (ring_of.product_comm h.quotient p ∙ sym (equation a l d p s h) ∙ ring_of.product_comm h.factor s))
