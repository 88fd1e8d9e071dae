-- The degree of a polynomial, and of a product.
use Rattle.std.specs.Prelude.{◌≡◌, ℕ, zero, suc, ◌+◌, ◌<◌, ◌≤◌, ◌⊎◌, pos, length, [], ◌∷◌, refl}
use Rattle.std.proofs.Common.{ap, sym, ◌∙◌, inl, inr, ⊎_elim, arith}
use Rattle.std.proofs.lemmas.Bool.{cases_lt}
use Rattle.ring_laws.specs.Algebra.{Ops, Algebra, Passing, within, Laws}
use Rattle.ring_laws.specs.Division.{DomainLaws}
use Rattle.poly_laws.specs.Lists.{coefficient_at}
use Rattle.poly_laws.proofs.OneQuotient.{NoDivisors}
use Rattle.poly_laws.proofs.PolyDomain.{no_divisors_within}
use Rattle.poly_laws.proofs.PolyLaws.{equal_coefficients, coefficient-nought, coefficient-product, coefficient-unit}
use Rattle.poly_laws.proofs.Trimming.{beyond, zero_or_not}
use Rattle.division_laws.specs.Polynomials.{Polynomial}
use Rattle.division_laws.proofs.Polynomials.{part_nought, nought_part, polynomials, list_of, part, constant_in, listed_at}
use Rattle.poly_laws.proofs.ShiftedTops.{EndsBy}
use Rattle.poly_laws.proofs.ProductTops.{product_top, product_ends}
use Rattle.division_laws.specs.Divisors.{HasDegree}

module _ (a : Algebra) (l : Laws a) (d : DomainLaws a) where
  abbrev base : Ops (Passing a)
  base = within a l.closed

  abbrev P : Ops (Polynomial a)
  P = polynomials a l

  pub no_divisors : NoDivisors base
  no_divisors = no_divisors_within a l.closed d

  pub ends : (f : Polynomial a) (m : ℕ) → HasDegree a f m → EndsBy base l.ring (list_of a l f) m
  ends f m h k b = part_nought a l f k (h.above k b)

  pub lead_some : (f : Polynomial a) (m : ℕ) → HasDegree a f m → ¬ (part a l f m ≡ base.nought)
  lead_some f m h e = h.lead (nought_part a l f m e)

  pub degree_by : (f : Polynomial a) (m : ℕ) → ¬ (part a l f m ≡ base.nought) → EndsBy base l.ring (list_of a l f) m → HasDegree a f m
  degree_by f m some h = record { lead = λ e. some (part_nought a l f m e); above = λ i b. nought_part a l f i (h i b) }

  pub one_degree : (f : Polynomial a) (m n : ℕ) → HasDegree a f m → HasDegree a f n → m ≡ n
  one_degree f m n h k =
      ⊎_elim (λ b. absurd (k.lead (h.above n b))) (λ b. ⊎_elim (λ c. absurd (h.lead (k.above m c))) (λ c. omega (arith, b, c)) (cases_lt n m)) (cases_lt m n)

  pub not_zero : (f : Polynomial a) (m : ℕ) → HasDegree a f m → ¬ (f ≡ P.nought)
  not_zero f m h e = lead_some f m h (ap (λ t. part a l t m) e ∙ coefficient-nought a l.closed l.ring m)

  pub zero_by : (f : Polynomial a) → ((i : ℕ) → part a l f i ≡ base.nought) → f ≡ P.nought
  zero_by f h = equal_coefficients a l.closed l.ring f P.nought (λ i. h i ∙ sym (coefficient-nought a l.closed l.ring i))

  -- a polynomial with zeros from n on is zero or has a degree below n
  pub record DegreeBelow (f : Polynomial a) (n : ℕ) : Type 0 where
    pub degree : ℕ
    pub is : HasDegree a f degree
    pub below : degree < n

  pub degree_below : (f : Polynomial a) (n : ℕ) → ((i : ℕ) → n ≤ i → part a l f i ≡ base.nought) → (f ≡ P.nought) ⊎ DegreeBelow f n
  degree_below f zero h = inl (zero_by f (λ i. h i (omega arith)))
  degree_below f (suc n) h =
      ⊎_elim
      (λ z. ⊎_elim inl (λ g. inr (record { degree = g.degree; is = g.is; below = omega (arith, g.below) }))
      (degree_below f n (λ i b. ⊎_elim (λ c. h i c) (λ c. ap (part a l f) (same i b c) ∙ z) (cases_lt n i))))
      (λ m. inr (record { degree = n; is = degree_by f n m (λ i b. h i b); below = omega arith }))
      (zero_or_not base l.ring (part a l f n))
    where
      same : (i : ℕ) → n ≤ i → i ≤ n → i ≡ n
      same i b c = omega (arith, b, c)

  pub degree_or_zero : (f : Polynomial a) → (f ≡ P.nought) ⊎ DegreeBelow f (length (list_of a l f))
  degree_or_zero f = degree_below f (length (list_of a l f)) (λ i b. beyond base (list_of a l f) i b)

  pub product_degree : (f g : Polynomial a) (m e : ℕ) → HasDegree a f m → HasDegree a g e → HasDegree a (P.product f g) (m + e)
  product_degree f g m e h k =
      degree_by (P.product f g) (m + e)
      (λ z. ⊎_elim (lead_some f m h) (lead_some g e k) (no_divisors (part a l f m) (part a l g e)
      (sym (coefficient-product a l.closed l.ring f g (m + e)
      ∙ product_top base l.ring (list_of a l f) (list_of a l g) m e (m + e) (ends f m h) (ends g e k) refl) ∙ z)))
      (λ i b. coefficient-product a l.closed l.ring f g i ∙ product_ends base l.ring (list_of a l f) (list_of a l g) m e (ends f m h) (ends g e k) i b)

  one_some : ¬ (base.unit ≡ base.nought)
  one_some e =
      let no : pos 1 ≡ pos 0 = d.whole_nought (pos 1) (ap (λ (t : Passing a). t.0) (l.ring.whole_one ∙ e)) in
      cc

  pub lone_ends : (x : Passing a) (i : ℕ) → 0 < i → coefficient_at base (x ∷ []) i ≡ base.nought
  lone_ends x zero b = absurd (omega (arith, b))
  lone_ends x (suc i) b = refl

  pub constant_degree : (x : Passing a) → ¬ (x ≡ base.nought) → HasDegree a (constant_in a l x) 0
  constant_degree x some =
      degree_by (constant_in a l x) 0 (λ e. some (sym (listed_at a l (x ∷ []) (x.0 ∷ []) refl 0) ∙ e))
      (λ i b. listed_at a l (x ∷ []) (x.0 ∷ []) refl i ∙ lone_ends x i b)

  pub unit_degree : HasDegree a P.unit 0
  unit_degree =
      degree_by P.unit 0 (λ e. one_some (sym (coefficient-unit a l.closed l.ring 0) ∙ e))
      (λ i b. coefficient-unit a l.closed l.ring i ∙ lone_ends base.unit i b)
