-- Division with remainder, after multiplying by something free of k.
use Rattle.std.specs.Prelude.{◌≡◌, ℕ, zero, suc, ◌-◌, ◌<◌, ◌≤◌, [], ◌∷◌, refl}
use Rattle.std.proofs.Common.{ap, ◌∙◌, ⊎_elim, subst, arith}
use Rattle.std.proofs.lemmas.Bool.{cases_lt}
use Rattle.ring_laws.specs.Algebra.{Ops, Algebra, Passing, within, Laws}
use Rattle.ring_laws.specs.Division.{DomainLaws}
use Rattle.poly_laws.specs.Lists.{coefficient_at}
use Rattle.poly_laws.proofs.Coefficients.{meanings_of}
use Rattle.poly_laws.proofs.ListLaws.{neg_nought}
use Rattle.poly_laws.proofs.PolyLaws.{coefficient-sum, coefficient-neg, coefficient-product, poly_ring}
use Rattle.poly_laws.proofs.Rings.{solvable, read_nought, read_unit}
use Rattle.ring_solver.specs.Rings.{CommRing}
use Rattle.ring_solver.proofs.Read.{reading, ring}
use Rattle.division_laws.specs.Polynomials.{Polynomial}
use Rattle.division_laws.proofs.Polynomials.{polynomials, list_of, part, constant_in, listed_in, listed_at}
use Rattle.poly_laws.proofs.ShiftedTops.{EndsBy}
use Rattle.poly_laws.proofs.ProductTops.{product_top, product_ends}
use Rattle.division_laws.specs.Divisors.{HasDegree}
use Rattle.division_laws.proofs.Monomials.{raised, raised_top, raised_ends}
use Rattle.division_laws.proofs.Degrees.{ends, lead_some, constant_degree, unit_degree, product_degree}

module _ (a : Algebra) (l : Laws a) (d : DomainLaws a) where
  abbrev base : Ops (Passing a)
  base = within a l.closed

  abbrev P : Ops (Polynomial a)
  P = polynomials a l

  abbrev R : CommRing
  R = solvable (polynomials a l) (poly_ring a l.closed l.ring)

  pub record Divided (f g : Polynomial a) (m : ℕ) : Type 0 where
    pub factor : Polynomial a
    pub free : HasDegree a factor 0
    pub quotient : Polynomial a
    pub rest : Polynomial a
    pub is : P.product factor f ≡ P.sum (P.product quotient g) rest
    pub below : (i : ℕ) → m ≤ i → part a l rest i ≡ base.nought

  abbrev monomial : ℕ → Passing a → Polynomial a
  monomial j x = listed_in a l (raised base j x) (meanings_of a l.closed (raised base j x)) refl

  monomial_at : (j : ℕ) (x : Passing a) (i : ℕ) → part a l (monomial j x) i ≡ coefficient_at base (raised base j x) i
  monomial_at j x i = listed_at a l (raised base j x) (meanings_of a l.closed (raised base j x)) refl i

  monomial_ends : (j : ℕ) (x : Passing a) → EndsBy base l.ring (list_of a l (monomial j x)) j
  monomial_ends j x i b = monomial_at j x i ∙ raised_ends base j x i b

  left_alone : (f g : Polynomial a) → P.product P.unit f ≡ P.sum (P.product P.nought g) f
  left_alone f g =
      ring R (f ∷ g ∷ []) (search (reading, read_nought P (poly_ring a l.closed l.ring), read_unit P (poly_ring a l.closed l.ring)) depth 40 fits 20000) refl

  no_step : (f g : Polynomial a) (m : ℕ) → ((i : ℕ) → m ≤ i → part a l f i ≡ base.nought) → Divided f g m
  no_step f g m h = record {
    factor = P.unit;
    free = unit_degree a l d;
    quotient = P.nought;
    rest = f;
    is = left_alone f g;
    below = h;
  }

  -- f times the leading coefficient of g, less a multiple of g
  abbrev less : (f g : Polynomial a) (m n : ℕ) → Polynomial a
  less f g m n = P.sum (P.product (constant_in a l (part a l g m)) f) (P.neg (P.product (monomial (n - m) (part a l f n)) g))

  abbrev constant_ends : (x : Passing a) → EndsBy base l.ring (list_of a l (constant_in a l x)) 0
  constant_ends x i b = listed_at a l (x ∷ []) (x.0 ∷ []) refl i ∙ raised_ends base 0 x i b

  less_at : (f g : Polynomial a) (m n : ℕ) → HasDegree a g m → m ≤ n → ((i : ℕ) → suc n ≤ i → part a l f i ≡ base.nought)
      → (i : ℕ) → n ≤ i → part a l (less f g m n) i ≡ base.nought
  less_at f g m n h b short i c =
      ⊎_elim above (λ e. subst (λ j. part a l (less f g m n) j ≡ base.nought) (same e) here) (cases_lt n i)
    where
      lead : Passing a
      lead = part a l g m

      same : i ≤ n → n ≡ i
      same e = omega (arith, c, e)

      parts : (j : ℕ) → part a l (less f g m n) j
          ≡ base.sum (part a l (P.product (constant_in a l (part a l g m)) f) j) (base.neg (part a l (P.product (monomial (n - m) (part a l f n)) g) j))
      parts j =
          coefficient-sum a l.closed l.ring (P.product (constant_in a l (part a l g m)) f) (P.neg (P.product (monomial (n - m) (part a l f n)) g)) j
          ∙ ap (base.sum (part a l (P.product (constant_in a l (part a l g m)) f) j))
          (coefficient-neg a l.closed l.ring (P.product (monomial (n - m) (part a l f n)) g) j)

      f_ends : EndsBy base l.ring (list_of a l f) n
      f_ends j e = short j (omega (arith, e))

      first_top : part a l (P.product (constant_in a l (part a l g m)) f) n ≡ base.product (part a l g m) (part a l f n)
      first_top =
          coefficient-product a l.closed l.ring (constant_in a l (part a l g m)) f n
          ∙ product_top base l.ring (list_of a l (constant_in a l (part a l g m))) (list_of a l f) 0 n n (constant_ends (part a l g m)) f_ends (omega arith)
          ∙ ap (λ t. base.product t (part a l f n)) (listed_at a l (part a l g m ∷ []) ((part a l g m).0 ∷ []) refl 0)

      second_top : part a l (P.product (monomial (n - m) (part a l f n)) g) n ≡ base.product (part a l f n) (part a l g m)
      second_top =
          coefficient-product a l.closed l.ring (monomial (n - m) (part a l f n)) g n
          ∙ product_top base l.ring (list_of a l (monomial (n - m) (part a l f n))) (list_of a l g) (n - m) m n
          (monomial_ends (n - m) (part a l f n)) (ends a l d g m h) (omega (arith, b))
          ∙ ap (λ t. base.product t (part a l g m)) (monomial_at (n - m) (part a l f n) (n - m) ∙ raised_top base (n - m) (part a l f n))

      here : part a l (less f g m n) n ≡ base.nought
      here = cc (
        parts n,
        first_top,
        second_top,
        l.ring.product_comm (part a l f n) (part a l g m),
        l.ring.sum_neg (base.product (part a l g m) (part a l f n)),
      )

      above : n < i → part a l (less f g m n) i ≡ base.nought
      above e = cc (
        parts i,
        coefficient-product a l.closed l.ring (constant_in a l (part a l g m)) f i,
        product_ends base l.ring (list_of a l (constant_in a l (part a l g m))) (list_of a l f) 0 n (constant_ends (part a l g m)) f_ends i (omega (arith, e)),
        coefficient-product a l.closed l.ring (monomial (n - m) (part a l f n)) g i,
        product_ends base l.ring (list_of a l (monomial (n - m) (part a l f n))) (list_of a l g) (n - m) m
            (monomial_ends (n - m) (part a l f n)) (ends a l d g m h) i (omega (arith, e, b)),
        neg_nought base l.ring,
        l.ring.nought_sum base.nought,
      )

  with_step : (c lead f u g : Polynomial a)
      → P.product (P.product c lead) f ≡ P.sum (P.product c (P.sum (P.product lead f) (P.neg (P.product u g)))) (P.product (P.product c u) g)
  with_step c lead f u g = ring R (c ∷ lead ∷ f ∷ u ∷ g ∷ []) (search reading depth 40 fits 20000) refl

  gathered : (e g r cu : Polynomial a) → P.sum (P.sum (P.product e g) r) (P.product cu g) ≡ P.sum (P.product (P.sum e cu) g) r
  gathered e g r cu = ring R (e ∷ g ∷ r ∷ cu ∷ []) (search reading depth 40 fits 20000) refl

  pub divided : (n : ℕ) (f g : Polynomial a) (m : ℕ) → HasDegree a g m → ((i : ℕ) → n ≤ i → part a l f i ≡ base.nought) → Divided f g m
  divided zero f g m h short = no_step f g m (λ i b. short i (omega arith))
  divided (suc n) f g m h short =
      ⊎_elim (λ b. no_step f g m (λ i c. short i (omega (arith, b, c))))
      (λ b. step b (divided n (less f g m n) g m h (less_at f g m n h b short))) (cases_lt n m)
    where
      step : m ≤ n → Divided (less f g m n) g m → Divided f g m
      step b r = record {
        factor = P.product r.factor (constant_in a l (part a l g m));
        free = product_degree a l d r.factor (constant_in a l (part a l g m)) 0 0 r.free (constant_degree a l d (part a l g m) (lead_some a l d g m h));
        quotient = P.sum r.quotient (P.product r.factor (monomial (n - m) (part a l f n)));
        rest = r.rest;
        is = with_step r.factor (constant_in a l (part a l g m)) f (monomial (n - m) (part a l f n)) g
            ∙ ap (λ t. P.sum t (P.product (P.product r.factor (monomial (n - m) (part a l f n))) g)) r.is
            ∙ gathered r.quotient g r.rest (P.product r.factor (monomial (n - m) (part a l f n)));
        below = r.below;
      }
