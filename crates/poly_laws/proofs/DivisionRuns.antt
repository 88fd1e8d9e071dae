-- What a run of long division leaves: the list is the product of the quotient and the divisor, and the rest more.
use Rattle.std.specs.Prelude.{◌≡◌, ℕ, zero, suc, List, [], ◌∷◌, ◌++◌, length, replicate, refl}
use Rattle.std.proofs.Common.{ap, sym, ◌∙◌, arith}
use Rattle.std.proofs.lemmas.List.{length-map, length-replicate}
use Rattle.poly_laws.specs.Lists.{coefficient_at}
use Rattle.poly_laws.specs.LongDivision.{list_less, last_of, front_of, Divided, begin, step}
use Rattle.ring_laws.specs.Algebra.{Ops, Algebra, Passing, within, Laws, same_passing}
use Rattle.ring_laws.specs.Meaning.{Meaning}
use Rattle.poly_laws.proofs.Coefficients.{meanings_of}
use Rattle.poly_laws.proofs.ListLaws.{product_nought, neg_nought}
use Rattle.poly_laws.proofs.OneQuotient.{Part, front, part_front}

module _ (a : Algebra) (l : Laws a) where
  abbrev base : Ops (Passing a)
  base = within a l.closed

  abbrev meanings : List (Passing a) → List Meaning
  meanings xs = meanings_of a l.closed xs

  meanings-less : (rs : List (Passing a)) (c : Passing a) (gs : List (Passing a))
      → meanings (list_less base rs c gs) ≡ list_less a.ops (meanings rs) c.0 (meanings gs)
  meanings-less [] c gs = refl
  meanings-less (r ∷ rs) c [] = refl
  meanings-less (r ∷ rs) c (g ∷ gs) = ap (λ t. a.ops.sum r.0 (a.ops.neg (a.ops.product c.0 g.0)) ∷ t) (meanings-less rs c gs)

  meanings-front : (x : Passing a) (rs : List (Passing a)) → meanings (front_of x rs) ≡ front_of x.0 (meanings rs)
  meanings-front x [] = refl
  meanings-front x (r ∷ rs) = ap (λ t. x.0 ∷ t) (meanings-front r rs)

  pub meanings-last : (x : Passing a) (rs : List (Passing a)) → (last_of x rs).0 ≡ last_of x.0 (meanings rs)
  meanings-last x [] = refl
  meanings-last x (r ∷ rs) = meanings-last r rs

  meanings-noughts : (n : ℕ) → meanings (replicate n base.nought) ≡ replicate n a.ops.nought
  meanings-noughts zero = refl
  meanings-noughts (suc n) = ap (λ t. a.ops.nought ∷ t) (meanings-noughts n)

  -- the step at each power: the list is as long as gs, and lead stands above
  less_at_all : (x : Passing a) (rs : List (Passing a)) (c : Passing a) (gs : List (Passing a)) (lead : Passing a) → length rs ≡ length gs
      → base.product c lead ≡ last_of x rs
      → (k : ℕ) → coefficient_at base (list_less base (front_of x rs) c gs) k ≡ base.sum (front base l.ring x (λ j. coefficient_at base rs j) k)
      (base.neg (base.product c (coefficient_at base (gs ++ lead ∷ []) k)))
  less_at_all x [] c [] lead n e zero = sym (cc (e, l.ring.sum_neg x))
  less_at_all x [] c [] lead n e (suc k) = sym (cc (product_nought base l.ring c, neg_nought base l.ring, l.ring.nought_sum base.nought))
  less_at_all x [] c (g ∷ gs) lead n e k = absurd (omega arith)
  less_at_all x (r ∷ rs) c [] lead n e k = absurd (omega arith)
  less_at_all x (r ∷ rs) c (g ∷ gs) lead n e zero = refl
  less_at_all x (r ∷ rs) c (g ∷ gs) lead n e (suc k) =
      less_at_all r rs c gs lead (omega arith) e k
      ∙ ap (λ t. base.sum t (base.neg (base.product c (coefficient_at base (gs ++ lead ∷ []) k)))) (shift k)
    where
      shift : (k : ℕ) → front base l.ring r (λ j. coefficient_at base rs j) k ≡ coefficient_at base (r ∷ rs) k
      shift zero = refl
      shift (suc k) = refl

  length-list_less : (x : Passing a) (rs : List (Passing a)) (c : Passing a) (gs : List (Passing a)) → length rs ≡ length gs
      → length (list_less base (front_of x rs) c gs) ≡ length gs
  length-list_less x [] c [] n = refl
  length-list_less x [] c (g ∷ gs) n = absurd (omega arith)
  length-list_less x (r ∷ rs) c [] n = absurd (omega arith)
  length-list_less x (r ∷ rs) c (g ∷ gs) n = omega (arith, length-list_less r rs c gs (omega arith))

  pub record Sound (gs : List (Passing a)) (lead : Passing a) (xs : List (Passing a)) (qs rs : List Meaning) : Type 0 where
    pub quotient : List (Passing a)
    pub rest : List (Passing a)
    pub quotient_is : meanings quotient ≡ qs
    pub rest_is : meanings rest ≡ rs
    pub same_length : length rest ≡ length gs
    pub part : Part base l.ring (gs ++ lead ∷ []) xs quotient (λ k. coefficient_at base rest k)

  noughts_at : (n k : ℕ) → coefficient_at base (replicate n base.nought) k ≡ base.nought
  noughts_at zero k = refl
  noughts_at (suc n) zero = refl
  noughts_at (suc n) (suc k) = noughts_at n k

  pub sound : (gs : List (Passing a)) (lead : Passing a) {ms qs rs : List Meaning} → Divided a (meanings gs) lead.0 ms qs rs → (xs : List (Passing a))
      → meanings xs ≡ ms → Sound gs lead xs qs rs
  sound gs lead begin [] e = record {
    quotient = [];
    rest = replicate (length gs) base.nought;
    quotient_is = refl;
    rest_is = meanings-noughts (length gs) ∙ ap (λ n. replicate n a.ops.nought) (sym (length-map gs (λ (v : Passing a). v.0)));
    same_length = length-replicate (length gs) base.nought;
    part = λ k. sym (cc (noughts_at (length gs) k, l.ring.nought_sum base.nought));
  }
  sound gs lead begin (x ∷ xs) e = cc
  sound gs lead (step m c run h) [] e = cc
  sound gs lead (step {xs = ms} {qs = qs} {rs = rs} m c run h) (x ∷ xs) e =
      let t : meanings xs ≡ ms = cc in
      let v : x.0 ≡ m = cc in
      let s = sound gs lead run xs t in
      let top : base.product c lead ≡ last_of x s.rest =
      same_passing a (base.product c lead) (last_of x s.rest) (h ∙ sym (meanings-last x s.rest ∙ cc (v, s.rest_is))) in
      record {
        quotient = c ∷ s.quotient;
        rest = list_less base (front_of x s.rest) c gs;
        quotient_is = ap (λ u. c.0 ∷ u) s.quotient_is;
        rest_is = meanings-less (front_of x s.rest) c gs
            ∙ ap (λ u. list_less a.ops u c.0 (meanings gs)) (meanings-front x s.rest ∙ cc (v, s.rest_is));
        same_length = length-list_less x s.rest c gs s.same_length;
        part = part_front base l.ring (gs ++ lead ∷ []) s.quotient xs x c (λ k. coefficient_at base s.rest k)
            (λ k. coefficient_at base (list_less base (front_of x s.rest) c gs) k) s.part (less_at_all x s.rest c gs lead s.same_length top);
      }
