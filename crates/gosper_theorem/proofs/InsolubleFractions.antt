-- An insoluble key equation has no rational solution either (Gosper's theorem, after A=B chapter 5).
use Rattle.std.specs.Prelude.{◌≡◌, ℕ, zero, suc, ◌<◌, ℤ, pos, List, [], ◌∷◌, length, refl}
use Rattle.std.proofs.Common.{ap, sym, ◌∙◌, ⊎_elim, arith}
use Rattle.ring_laws.specs.Algebra.{Ops, RingLaws, Algebra, Passing, within, Laws, same_passing}
use Rattle.ring_laws.specs.Division.{DomainLaws}
use Rattle.poly_laws.specs.Lists.{coefficient_at, list_product}
use Rattle.poly_laws.proofs.ListLaws.{product_nought, sum_nought, times_zero, times_suc}
use Rattle.poly_laws.proofs.PolyLaws.{equal_coefficients, product_same, poly_ring}
use Rattle.kernel_laws.specs.Answers.{Vector, meant}
use Rattle.poly_laws.proofs.Rings.{solvable}
use Rattle.poly_laws.proofs.Trimming.{zero_or_not}
use Rattle.ring_solver.specs.Rings.{CommRing}
use Rattle.ring_solver.proofs.Read.{reading, ring}
use Rattle.division_laws.specs.Polynomials.{Polynomial}
use Rattle.key_laws.specs.KeyEquation.{meanings, SolvesWith, InsolubleWith}
use Rattle.division_laws.proofs.Polynomials.{polynomials, list_of, part, listed_at, shifted_at, constant_in}
use Rattle.key_laws.proofs.Polynomials.{difference_in, combination_in, combination_is}
use Rattle.poly_laws.proofs.OneQuotient.{cancelled}
use Rattle.poly_laws.proofs.ShiftedCoefficients.{shifted_same}
use Rattle.division_laws.specs.Divisors.{HasDegree, Divides, IsPrime}
use Rattle.division_laws.proofs.Degrees.{DegreeBelow, degree_or_zero, no_divisors, ends, lead_some, not_zero, unit_degree}
use Rattle.gosper_theorem.proofs.Fractions.{no_factors, next, fraction_difference, Solves}
use Rattle.gosper_theorem.proofs.NoPoles.{no_fraction}
use Rattle.gosper_theorem.proofs.ShiftFamilies.{up, down}
use Rattle.poly_laws.proofs.ShiftsTwice.{alone}
use Rattle.division_laws.proofs.Shifts.{at_later}

module _ (a : Algebra) (l : Laws a) (d : DomainLaws a) where
  abbrev base : Ops (Passing a)
  base = within a l.closed

  abbrev P : Ops (Polynomial a)
  P = polynomials a l

  P_ring : RingLaws (polynomials a l)
  P_ring = poly_ring a l.closed l.ring

  abbrev R : CommRing
  R = solvable (polynomials a l) (poly_ring a l.closed l.ring)

  abbrev constant : Passing a → Polynomial a
  constant x = constant_in a l x

  constant_at : (x : Passing a) (k : ℕ) → part a l (constant x) k ≡ coefficient_at base (x ∷ []) k
  constant_at x k = listed_at a l (x ∷ []) (x.0 ∷ []) refl k

  pub free_is : (f : Polynomial a) → HasDegree a f 0 → f ≡ constant (part a l f 0)
  free_is f h = equal_coefficients a l.closed l.ring f (constant (part a l f 0)) (λ k. each k ∙ sym (constant_at (part a l f 0) k))
    where
      each : (k : ℕ) → part a l f k ≡ coefficient_at base (part a l f 0 ∷ []) k
      each zero = refl
      each (suc k) = ends a l d f 0 h (suc k) (omega arith)

  -- what is free of k doesn't change with k
  constant_stays : (w : ℤ) (x : Passing a) → at_later a l w (constant x) ≡ constant x
  constant_stays w x =
      equal_coefficients a l.closed l.ring (at_later a l w (constant x)) (constant x)
      (λ k. shifted_at a l w (constant x) k
      ∙ shifted_same base l.ring (base.whole w) (list_of a l (constant x)) (x ∷ []) (constant_at x) k
      ∙ alone base l.ring (base.whole w) x k ∙ sym (constant_at x k))

  constant_product : (x y : Passing a) → constant (base.product x y) ≡ P.product (constant x) (constant y)
  constant_product x y =
      equal_coefficients a l.closed l.ring (constant (base.product x y)) (P.product (constant x) (constant y))
      (λ k. constant_at (base.product x y) k ∙ sym (product_same a l.closed l.ring (constant x) (constant y) (x ∷ []) (y ∷ [])
      (constant_at x) (constant_at y) k ∙ each k))
    where
      each : (k : ℕ) → coefficient_at base (list_product base (x ∷ []) (y ∷ [])) k ≡ coefficient_at base (base.product x y ∷ []) k
      each zero = times_zero base l.ring x [] (y ∷ [])
      each (suc k) =
          times_suc base l.ring x [] (y ∷ []) k ∙ sum_nought base l.ring (base.product x base.nought) ∙ product_nought base l.ring x

  by_side : (e c s r : Polynomial a) → P.sum (P.product (P.product e c) s) (P.product e r) ≡ P.product e (P.sum (P.product c s) r)
  by_side e c s r = ring R (e ∷ c ∷ s ∷ r ∷ []) (search reading depth 40 fits 20000) refl

  scaled : (e : Passing a) (v : Vector a) (sides : List (Polynomial a))
      → combination_in a l (λ j. base.product e (v j)) sides ≡ P.product (constant e) (combination_in a l v sides)
  scaled e v [] = sym (product_nought P P_ring (constant e))
  scaled e v (s ∷ ss) =
      (λ i. P.sum (P.product (constant_product e (v 0) i) s) (scaled e (λ j. v (suc j)) ss i))
      ∙ by_side (constant e) (constant (v 0)) s (combination_in a l (λ j. v (suc j)) ss)

  -- over a denominator W that is free of k
  over_constant : (q b f f' w : Polynomial a)
      → P.sum (P.product q (P.product f' w)) (P.neg (P.product b (P.product f w))) ≡ P.product (P.sum (P.product q f') (P.neg (P.product b f))) w
  over_constant q b f f' w = ring R (q ∷ b ∷ f ∷ f' ∷ w ∷ []) (search reading depth 40 fits 20000) refl

  right_over : (c s w : Polynomial a) → P.product (P.product c s) (P.product w w) ≡ P.product (P.product (P.product c w) s) w
  right_over c s w = ring R (c ∷ s ∷ w ∷ []) (search reading depth 40 fits 20000) refl

  module _ (q b : Polynomial a) (sides : List (Polynomial a)) (insoluble : InsolubleWith a q.0 b.0 (meanings a sides)) where
    -- a fraction over something free of k: its multiples solve the equation
    no_free : (v : Vector a) (j : ℕ) → j < length (meanings a sides) → ¬ (v j ≡ base.nought) → (f w : Polynomial a)
        → Solves a l d q b (combination_in a l v sides) f w 0 → ⊥
    no_free v j c some f w h =
        ⊎_elim (λ z. ⊎_elim (lead_some a l d h.factor 0 h.free) (lead_some a l d w 0 h.of_w) (no_divisors a l d (part a l h.factor 0) (part a l w 0) z))
        some
        (no_divisors a l d (base.product (part a l h.factor 0) (part a l w 0)) (v j)
        (same_passing a (base.product e (v j)) base.nought (insoluble f (λ i. base.product e (v i)) solves j c)))
      where
        e : Passing a
        e = base.product (part a l h.factor 0) (part a l w 0)

        stays : next a l d w ≡ w
        stays = ap (at_later a l (pos 1)) (free_is w h.of_w) ∙ constant_stays (pos 1) (part a l w 0) ∙ sym (free_is w h.of_w)

        factor_is : P.product h.factor w ≡ constant (base.product (part a l h.factor 0) (part a l w 0))
        factor_is = (λ i. P.product (free_is h.factor h.free i) (free_is w h.of_w i)) ∙ sym (constant_product (part a l h.factor 0) (part a l w 0))

        by_multiple : difference_in a l q b f ≡ combination_in a l (λ i. base.product (base.product (part a l h.factor 0) (part a l w 0)) (v i)) sides
        by_multiple =
            cancelled P P_ring (no_factors a l d) (difference_in a l q b f) (P.product (P.product h.factor w) (combination_in a l v sides)) w
            (not_zero a l d w 0 h.of_w)
            (sym (over_constant q b f (next a l d f) w)
            ∙ ap (λ t. P.sum (P.product q (P.product (next a l d f) w)) (P.neg (P.product b (P.product f t)))) (sym stays)
            ∙ h.is ∙ ap (λ t. P.product (P.product h.factor (combination_in a l v sides)) (P.product w t)) stays
            ∙ right_over h.factor (combination_in a l v sides) w)
            ∙ ap (λ t. P.product t (combination_in a l v sides)) factor_is
            ∙ sym (scaled (base.product (part a l h.factor 0) (part a l w 0)) v sides)

        solves : SolvesWith a.ops q.0 b.0 (meanings a sides) f.0
            (meant a (λ i. base.product (base.product (part a l h.factor 0) (part a l w 0)) (v i)))
        solves =
            ap (λ (t : Polynomial a). t.0) by_multiple
            ∙ combination_is a l (λ i. base.product (base.product (part a l h.factor 0) (part a l w 0)) (v i)) sides

    -- no fraction at all, where no prime of q is one of r at the same or a later k
    pub no_rational_solution
        : ((p : Polynomial a) → IsPrime a p → (i j : ℕ) → Divides a (up a l d p (suc i)) q → Divides a (down a l d p j) b → ⊥)
        → (v : Vector a) (u w : Polynomial a) → ¬ (w ≡ P.nought)
        → fraction_difference a l d q b u w ≡ P.product (combination_in a l v sides) (P.product w (next a l d w))
        → (j : ℕ) → j < length (meanings a sides) → v j ≡ base.nought
    no_rational_solution no_common v u w some e j c =
        ⊎_elim (λ z. z) (λ not. absurd (⊎_elim some (with_degree not) (degree_or_zero a l d w))) (zero_or_not base l.ring (v j))
      where
        with_degree : ¬ (v j ≡ base.nought) → DegreeBelow a l d w (length (list_of a l w)) → ⊥
        with_degree not g =
            no_fraction a l d q b (combination_in a l v sides) no_common (no_free v j c not) g.degree u w g.degree (omega arith) (record {
              factor = P.unit;
              free = unit_degree a l d;
              of_w = g.is;
              is = e ∙ ap (λ t. P.product t (P.product w (next a l d w))) (sym (P_ring.unit_product (combination_in a l v sides)));
            })
