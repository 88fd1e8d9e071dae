-- Of primes that don't divide one another only finitely many divide a polynomial.
use Rattle.std.specs.Prelude.{◌≡◌, ℕ, zero, suc, ◌+◌, ◌<◌, ◌≤◌, length}
use Rattle.std.proofs.Common.{ap, sym, ◌∙◌, ⊎_elim, subst, arith}
use Rattle.std.proofs.lemmas.Bool.{cases_lt}
use Rattle.ring_laws.specs.Algebra.{Ops, Algebra, Laws}
use Rattle.ring_laws.specs.Division.{DomainLaws}
use Rattle.poly_laws.proofs.ListLaws.{product_nought}
use Rattle.poly_laws.proofs.PolyLaws.{poly_ring}
use Rattle.division_laws.specs.Polynomials.{Polynomial}
use Rattle.division_laws.proofs.Polynomials.{polynomials, list_of}
use Rattle.division_laws.specs.Divisors.{HasDegree, Divides, IsPrime}
use Rattle.division_laws.proofs.Degrees.{DegreeBelow, degree_or_zero, not_zero, one_degree, product_degree}
use Rattle.division_laws.proofs.Divisors.{equation, divides_right}
use Rattle.division_laws.proofs.Primes.{prime_divides}

module _ (a : Algebra) (l : Laws a) (d : DomainLaws a) (family : ℕ → Polynomial a) (primes : (j : ℕ) → IsPrime a (family j))
    (differ : (i j : ℕ) → i < j → Divides a (family j) (family i) → ⊥) where
  abbrev P : Ops (Polynomial a)
  P = polynomials a l

  -- what is left of w without a prime of the family that divides it
  pub record Left (i : ℕ) (w : Polynomial a) (m : ℕ) : Type 0 where
    pub rest : Polynomial a
    pub degree : ℕ
    pub is_degree : HasDegree a rest degree
    pub below : degree < m
    pub later : (j : ℕ) → i < j → Divides a (family j) w → Divides a (family j) rest

  left_of : (i : ℕ) (w : Polynomial a) (m : ℕ) → HasDegree a w m → Divides a (family i) w → Left i w m
  left_of i w m of_w h = ⊎_elim (λ z. absurd (no_quotient z)) with_degree (degree_or_zero a l d h.quotient)
    where
      no_quotient : h.quotient ≡ P.nought → ⊥
      no_quotient z =
          not_zero a l d (P.product h.factor w) (0 + m) (product_degree a l d h.factor w 0 m h.free of_w)
          (equation a l d (family i) w h ∙ ap (P.product (family i)) z ∙ product_nought P (poly_ring a l.closed l.ring) (family i))

      with_degree : DegreeBelow a l d h.quotient (length (list_of a l h.quotient)) → Left i w m
      with_degree g =
          let b : ℕ = (primes i).below in
          let sum : 0 + m ≡ suc b + g.degree = one_degree a l d (P.product h.factor w) (0 + m) (suc b + g.degree)
          (product_degree a l d h.factor w 0 m h.free of_w)
          (subst (λ t. HasDegree a t (suc b + g.degree)) (sym (equation a l d (family i) w h))
          (product_degree a l d (family i) h.quotient (suc b) g.degree (primes i).degree g.is)) in
          record {
            rest = h.quotient;
            degree = g.degree;
            is_degree = g.is;
            below = omega (arith, sum);
            later = λ j c k.
                ⊎_elim (λ z. absurd (differ i j c z)) (λ z. z)
                (prime_divides a l d (family j) (family i) h.quotient (primes j)
                (subst (Divides a (family j)) (equation a l d (family i) w h) (divides_right a l d (family j) h.factor w k)));
          }

  few : (n i : ℕ) (w : Polynomial a) (m : ℕ) → HasDegree a w m → m ≤ n → ((j : ℕ) → i ≤ j → j ≤ i + n → Divides a (family j) w) → ⊥
  few zero i w m of_w b all =
      let r = left_of i w m of_w (all i (omega arith) (omega arith)) in
      omega (arith, r.below, b)
  few (suc n) i w m of_w b all =
      let r = left_of i w m of_w (all i (omega arith) (omega arith)) in
      few n (suc i) r.rest r.degree r.is_degree (omega (arith, r.below, b))
      (λ j c e. r.later j (omega (arith, c)) (all j (omega (arith, c)) (omega (arith, e))))

  climb : (fuel n : ℕ) (w : Polynomial a) (m : ℕ) → HasDegree a w m → m ≤ n + fuel → ((j : ℕ) → j ≤ n → Divides a (family j) w)
      → ((j : ℕ) → Divides a (family j) w → (Divides a (family (suc j)) w → ⊥) → ⊥) → ⊥
  climb zero n w m of_w b all never = few n 0 w m of_w (omega (arith, b)) (λ j c e. all j (omega (arith, e)))
  climb (suc fuel) n w m of_w b all never =
      never n (all n (omega arith))
      (λ next. climb fuel (suc n) w m of_w (omega (arith, b))
      (λ j c. ⊎_elim (λ e. all j (omega (arith, e))) (λ e. subst (λ i. Divides a (family i) w) (same j c e) next) (cases_lt j (suc n))) never)
    where
      same : (j : ℕ) → j ≤ suc n → suc n ≤ j → suc n ≡ j
      same j c e = omega (arith, c, e)

  -- where the first divides w, there isn't no last one before the next doesn't
  pub has_last : (w : Polynomial a) (m : ℕ) → HasDegree a w m → Divides a (family 0) w
      → ((j : ℕ) → Divides a (family j) w → (Divides a (family (suc j)) w → ⊥) → ⊥) → ⊥
  has_last w m of_w first never =
      climb m 0 w m of_w (omega arith) (λ j c. subst (λ i. Divides a (family i) w) (none j c) first) never
    where
      none : (j : ℕ) → j ≤ 0 → 0 ≡ j
      none j c = omega (arith, c)
