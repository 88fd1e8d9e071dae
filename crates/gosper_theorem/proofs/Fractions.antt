-- A fraction that solves the equation, in lower terms.
use Rattle.std.specs.Prelude.{◌≡◌, ℕ, suc, ◌+◌, ◌<◌, pos, [], ◌∷◌, length, refl}
use Rattle.std.proofs.Common.{ap, sym, ◌∙◌, ⊎_elim, subst, arith}
use Rattle.ring_laws.specs.Algebra.{Ops, Algebra, Laws}
use Rattle.ring_laws.specs.Division.{DomainLaws}
use Rattle.poly_laws.specs.PolyAlgebra.{poly_algebra}
use Rattle.poly_laws.proofs.Coefficients.{poly_closed}
use Rattle.poly_laws.proofs.ListLaws.{product_nought}
use Rattle.poly_laws.proofs.OneQuotient.{NoDivisors, cancelled}
use Rattle.poly_laws.proofs.PolyDomain.{no_divisors_within, poly_domain}
use Rattle.poly_laws.proofs.PolyLaws.{poly_ring}
use Rattle.poly_laws.proofs.Rings.{solvable}
use Rattle.ring_solver.specs.Rings.{CommRing}
use Rattle.ring_solver.proofs.Read.{reading, ring}
use Rattle.division_laws.specs.Polynomials.{Polynomial}
use Rattle.division_laws.proofs.Polynomials.{polynomials, list_of}
use Rattle.division_laws.specs.Divisors.{HasDegree, Divides, IsPrime}
use Rattle.division_laws.proofs.Degrees.{DegreeBelow, degree_or_zero, not_zero, one_degree, product_degree}
use Rattle.division_laws.proofs.Divisors.{equation}
use Rattle.division_laws.proofs.Shifts.{at_later, later_product}
use Rattle.division_laws.proofs.ShiftedDivisors.{later_degree}

module _ (a : Algebra) (l : Laws a) (d : DomainLaws a) where
  abbrev P : Ops (Polynomial a)
  P = polynomials a l

  abbrev R : CommRing
  R = solvable (polynomials a l) (poly_ring a l.closed l.ring)

  pub no_factors : NoDivisors (polynomials a l)
  no_factors = no_divisors_within (poly_algebra a) (poly_closed a l.closed) (poly_domain a l d)

  abbrev pub next : Polynomial a → Polynomial a
  next f = at_later a l (pos 1) f

  -- q(k) f(k+1) w(k) - b(k) f(k) w(k+1)
  abbrev pub fraction_difference : (q b f w : Polynomial a) → Polynomial a
  fraction_difference q b f w = P.sum (P.product q (P.product (next f) w)) (P.neg (P.product b (P.product f (next w))))

  -- f/w solves the equation with the right side s times something free of k
  pub record Solves (q b s f w : Polynomial a) (m : ℕ) : Type 0 where
    pub factor : Polynomial a
    pub free : HasDegree a factor 0
    pub of_w : HasDegree a w m
    pub is : fraction_difference q b f w ≡ P.product (P.product factor s) (P.product w (next w))

  first : (q b f' w' F' W' F W : Polynomial a)
      → P.product (P.sum (P.product q (P.product F' W)) (P.neg (P.product b (P.product F W')))) (P.product w' f')
      ≡ P.sum (P.product q (P.product (P.product F' f') (P.product W w'))) (P.neg (P.product b (P.product (P.product F w') (P.product W' f'))))
  first q b f' w' F' W' F W = ring R (q ∷ b ∷ f' ∷ w' ∷ F' ∷ W' ∷ F ∷ W ∷ []) (search reading depth 40 fits 20000) refl

  second : (q b f f' w w' W W' : Polynomial a)
      → P.sum (P.product q (P.product (P.product f' W') (P.product W w))) (P.neg (P.product b (P.product (P.product f W) (P.product W' w'))))
      ≡ P.product (P.sum (P.product q (P.product f' w)) (P.neg (P.product b (P.product f w')))) (P.product W W')
  second q b f f' w w' W W' = ring R (q ∷ b ∷ f ∷ f' ∷ w ∷ w' ∷ W ∷ W' ∷ []) (search reading depth 40 fits 20000) refl

  third : (c x y : Polynomial a) → P.product (P.product c x) y ≡ P.product (P.product c y) x
  third c x y = ring R (c ∷ x ∷ y ∷ []) (search reading depth 40 fits 20000) refl

  -- an equal fraction solves it too
  pub equal_fraction : (q b s f w F W : Polynomial a) (m n : ℕ) → Solves q b s f w m → HasDegree a W n → P.product f W ≡ P.product F w
      → Solves q b s F W n
  equal_fraction q b s f w F W m n h of_W same = record {
    factor = h.factor;
    free = h.free;
    of_w = of_W;
    is =
        cancelled P (poly_ring a l.closed l.ring) no_factors (fraction_difference q b F W) (P.product (P.product h.factor s) (P.product W (next W)))
        (P.product w (next w)) some
        (first q b (next w) w (next F) (next W) F W
        ∙ (λ i. P.sum (P.product q (P.product (sym shifted i) (P.product W w))) (P.neg (P.product b (P.product (sym same i) (P.product (next W) (next w))))))
        ∙ second q b f (next f) w (next w) W (next W)
        ∙ ap (λ t. P.product t (P.product W (next W))) h.is
        ∙ third (P.product h.factor s) (P.product w (next w)) (P.product W (next W)));
  }
    where
      some : ¬ (P.product w (next w) ≡ P.nought)
      some = not_zero a l d (P.product w (next w)) (m + m) (product_degree a l d w (next w) m m h.of_w (later_degree a l d (pos 1) w m h.of_w))

      shifted : P.product (next f) (next W) ≡ P.product (next F) (next w)
      shifted = sym (later_product a l (pos 1) f W) ∙ ap next same ∙ later_product a l (pos 1) F w

  pub record Lower (q b s : Polynomial a) (m : ℕ) : Type 0 where
    pub top : Polynomial a
    pub bottom : Polynomial a
    pub degree : ℕ
    pub below : degree < m
    pub solves : Solves q b s top bottom degree

  across : (c e p f w F W : Polynomial a) → P.product c f ≡ P.product p F → P.product e w ≡ P.product p W
      → P.product f (P.product c W) ≡ P.product (P.product e F) w
  across c e p f w F W h k = left f c W ∙ ap (λ t. P.product t W) h ∙ middle p F W ∙ ap (λ t. P.product t F) (sym k) ∙ right e w F
    where
      left : (f c W : Polynomial a) → P.product f (P.product c W) ≡ P.product (P.product c f) W
      left f c W = ring R (f ∷ c ∷ W ∷ []) (search reading depth 40 fits 20000) refl

      middle : (p F W : Polynomial a) → P.product (P.product p F) W ≡ P.product (P.product p W) F
      middle p F W = ring R (p ∷ F ∷ W ∷ []) (search reading depth 40 fits 20000) refl

      right : (e w F : Polynomial a) → P.product (P.product e w) F ≡ P.product (P.product e F) w
      right e w F = ring R (e ∷ w ∷ F ∷ []) (search reading depth 40 fits 20000) refl

  -- without a common prime
  pub lower : (q b s f w : Polynomial a) (m : ℕ) → Solves q b s f w m → (p : Polynomial a) → IsPrime a p → Divides a p f → Divides a p w
      → Lower q b s m
  lower q b s f w m h p prime of_f of_w = ⊎_elim (λ z. absurd (no_quotient z)) with_degree (degree_or_zero a l d of_w.quotient)
    where
      no_quotient : of_w.quotient ≡ P.nought → ⊥
      no_quotient z =
          not_zero a l d (P.product of_w.factor w) (0 + m) (product_degree a l d of_w.factor w 0 m of_w.free h.of_w)
          (equation a l d p w of_w ∙ ap (P.product p) z ∙ product_nought P (poly_ring a l.closed l.ring) p)

      with_degree : DegreeBelow a l d of_w.quotient (length (list_of a l of_w.quotient)) → Lower q b s m
      with_degree g =
          let sum : 0 + m ≡ suc prime.below + g.degree = one_degree a l d (P.product of_w.factor w) (0 + m) (suc prime.below + g.degree)
          (product_degree a l d of_w.factor w 0 m of_w.free h.of_w)
          (subst (λ t. HasDegree a t (suc prime.below + g.degree)) (sym (equation a l d p w of_w))
          (product_degree a l d p of_w.quotient (suc prime.below) g.degree prime.degree g.is)) in
          record {
            top = P.product of_w.factor of_f.quotient;
            bottom = P.product of_f.factor of_w.quotient;
            degree = 0 + g.degree;
            below = omega (arith, sum);
            solves =
                equal_fraction q b s f w (P.product of_w.factor of_f.quotient) (P.product of_f.factor of_w.quotient) m (0 + g.degree) h
                (product_degree a l d of_f.factor of_w.quotient 0 g.degree of_f.free g.is)
                (across of_f.factor of_w.factor p f w of_f.quotient of_w.quotient (equation a l d p f of_f) (equation a l d p w of_w));
          }
