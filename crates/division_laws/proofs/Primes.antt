-- Prime divisors of positive degree: where one divides a product it divides a factor, and every polynomial of positive degree has one.
use Rattle.std.specs.Prelude.{◌≡◌, ℕ, zero, suc, ◌+◌, ◌<◌, ◌≤◌, ◌⊎◌, [], ◌∷◌, length, refl}
use Rattle.std.proofs.Common.{ap, sym, ◌∙◌, inl, inr, ⊎_elim, subst, arith}
use Rattle.ring_laws.specs.Algebra.{Ops, Algebra, Laws, same_passing}
use Rattle.ring_laws.specs.Division.{DomainLaws}
use Rattle.poly_laws.specs.PolyAlgebra.{poly_algebra}
use Rattle.poly_laws.proofs.ListLaws.{product_nought}
use Rattle.poly_laws.proofs.PolyLaws.{poly_ring}
use Rattle.poly_laws.proofs.Rings.{solvable}
use Rattle.ring_solver.specs.Rings.{CommRing}
use Rattle.ring_solver.proofs.Read.{reading, ring}
use Rattle.division_laws.specs.Polynomials.{Polynomial}
use Rattle.division_laws.proofs.Polynomials.{polynomials, list_of}
use Rattle.division_laws.specs.Divisors.{HasDegree, Divides, IsPrime}
use Rattle.division_laws.proofs.Degrees.{DegreeBelow, degree_or_zero, one_degree, not_zero, product_degree}
use Rattle.division_laws.proofs.CommonDivisors.{Common, common_of}
use Rattle.division_laws.proofs.Divisors.{equation, divides_by, free_product, itself, divides_product, divides_right, divides_sum, divides_trans, divides_without}

module _ (a : Algebra) (l : Laws a) (d : DomainLaws a) where
  abbrev P : Ops (Polynomial a)
  P = polynomials a l

  abbrev R : CommRing
  R = solvable (polynomials a l) (poly_ring a l.closed l.ring)

  pub prime_some : (p : Polynomial a) → IsPrime a p → ¬ (p ≡ P.nought)
  prime_some p prime = not_zero a l d p (suc prime.below) prime.degree

  around : (g u p v f : Polynomial a)
      → P.product (P.sum (P.product u p) (P.product v f)) g ≡ P.sum (P.product p (P.product u g)) (P.product v (P.product f g))
  around g u p v f = ring R (g ∷ u ∷ p ∷ v ∷ f ∷ []) (search reading depth 40 fits 20000) refl

  turned : (c h f : Polynomial a) → P.product (P.product c h) f ≡ P.product h (P.product c f)
  turned c h f = ring R (c ∷ h ∷ f ∷ []) (search reading depth 40 fits 20000) refl

  pulled : (h g q : Polynomial a) → P.product h (P.product g q) ≡ P.product (P.product g h) q
  pulled h g q = ring R (h ∷ g ∷ q ∷ []) (search reading depth 40 fits 20000) refl

  last_step : (c p q : Polynomial a) → P.product (P.product c p) q ≡ P.product p (P.product c q)
  last_step c p q = ring R (c ∷ p ∷ q ∷ []) (search reading depth 40 fits 20000) refl

  pub prime_divides : (p f g : Polynomial a) → IsPrime a p → Divides a p (P.product f g) → Divides a p f ⊎ Divides a p g
  prime_divides p f g prime whole = ⊎_elim (λ e. absurd (c.some e)) with_degree (degree_or_zero a l d c.divisor)
    where
      c : Common a l d p f
      c = common_of a l d p f (prime_some p prime)

      -- free of k: then p divides a multiple of g
      no_common : HasDegree a c.divisor 0 → Divides a p f ⊎ Divides a p g
      no_common free =
          inr (divides_without a l d p c.divisor g free
          (subst (Divides a p) (sym (ap (λ t. P.product t g) c.is ∙ around g c.left p c.right f))
          (divides_sum a l d p (P.product p (P.product c.left g)) (P.product c.right (P.product f g))
          (divides_product a l d p p (P.product c.left g) (itself a l d p)) (divides_right a l d p c.right (P.product f g) whole))))

      -- of positive degree: then it is p up to factors free of k, and divides f
      is_common : (n : ℕ) → HasDegree a c.divisor (suc n) → Divides a p f ⊎ Divides a p g
      is_common n h =
          let q = c.of_f.quotient in
          let free : HasDegree a q 0 =
          prime.minimal c.of_f.factor c.divisor q c.of_f.free c.of_f.is n h in
          inl (divides_by a l d p f (P.product c.of_g.factor q) (P.product c.of_f.factor c.of_g.quotient)
          (free_product a l d c.of_g.factor q c.of_g.free free)
          (turned c.of_g.factor q f ∙ ap (P.product q) (equation a l d c.divisor f c.of_g) ∙ pulled q c.divisor c.of_g.quotient
          ∙ ap (λ t. P.product t c.of_g.quotient) (sym (equation a l d c.divisor p c.of_f)) ∙ last_step c.of_f.factor p c.of_g.quotient))

      by_degree : (m : ℕ) → HasDegree a c.divisor m → Divides a p f ⊎ Divides a p g
      by_degree zero h = no_common h
      by_degree (suc n) h = is_common n h

      with_degree : DegreeBelow a l d c.divisor (length (list_of a l c.divisor)) → Divides a p f ⊎ Divides a p g
      with_degree h = by_degree h.degree h.is

  -- where no divisor of w has a lower positive degree
  least : (w p : Polynomial a) (m : ℕ) → HasDegree a p (suc m) → Divides a p w
      → ((j : ℕ) → j < m → (e : Polynomial a) → HasDegree a e (suc j) → Divides a e w → ⊥)
      → (c e q : Polynomial a) → HasDegree a c 0 → (P.product c p).0 ≡ (P.product e q).0 → (j : ℕ) → HasDegree a e (suc j) → HasDegree a q 0
  least w p m h k lower c e q free same j of_e =
      ⊎_elim
      (λ z. absurd (not_zero a l d (P.product c p) (0 + suc m) (product_degree a l d c p 0 (suc m) free h)
      (is ∙ ap (P.product e) z ∙ product_nought P (poly_ring a l.closed l.ring) e)))
      (λ g. by_degree g.degree g.is)
      (degree_or_zero a l d q)
    where
      is : P.product c p ≡ P.product e q
      is = same_passing (poly_algebra a) (P.product c p) (P.product e q) same

      by_degree : (i : ℕ) → HasDegree a q i → HasDegree a q 0
      by_degree zero g = g
      by_degree (suc i) g =
          let sum : 0 + suc m ≡ suc j + suc i = one_degree a l d (P.product c p) (0 + suc m) (suc j + suc i)
          (product_degree a l d c p 0 (suc m) free h)
          (subst (λ t. HasDegree a t (suc j + suc i)) (sym is) (product_degree a l d e q (suc j) (suc i) of_e g)) in
          absurd (lower j (omega (arith, sum)) e of_e (divides_trans a l d e p w (divides_by a l d e p c q free is) k))

  -- a divisor of least positive degree is prime; so there isn't none
  prime_below : (w : Polynomial a) → ((p : Polynomial a) → IsPrime a p → Divides a p w → ⊥) → (n m : ℕ) → m ≤ n → (p : Polynomial a)
      → HasDegree a p (suc m) → Divides a p w → ⊥
  prime_below w never zero m b p h k =
      never p (record { below = m; degree = h; minimal = least w p m h k (λ j c e of_e q. absurd (omega (arith, b, c))) }) k
  prime_below w never (suc n) m b p h k =
      never p (record {
        below = m;
        degree = h;
        minimal = least w p m h k (λ j c e of_e q. prime_below w never n j (omega (arith, b, c)) e of_e q);
      }) k

  pub has_prime : (w : Polynomial a) (m : ℕ) → HasDegree a w (suc m) → ((p : Polynomial a) → IsPrime a p → Divides a p w → ⊥) → ⊥
  has_prime w m h never = prime_below w never m m (omega arith) w h (itself a l d w)

  -- a polynomial of the degree 1 is prime
  pub linear_prime : (p : Polynomial a) → HasDegree a p 1 → IsPrime a p
  linear_prime p h = record { below = 0; degree = h; minimal = least p p 0 h (itself a l d p) (λ j b e of_e q. absurd (omega (arith, b))) }
