-- Long division gives the quotient, or finds that there is none.
use Rattle.std.specs.Prelude.{◌≡◌, ℕ, zero, suc, List, [], ◌∷◌, ◌++◌, length, drop, refl}
use Rattle.std.proofs.Common.{ap, sym, ◌∙◌, subst, arith}
use Rattle.std.proofs.lemmas.List.{length-append, drop-map}
use Rattle.poly_laws.specs.Lists.{coefficient_at, list_product}
use Rattle.poly_laws.specs.LongDivision.{last_of, Divided, Stuck}
use Rattle.poly_laws.specs.PolyAlgebra.{poly_algebra}
use Rattle.ring_laws.specs.Algebra.{Ops, Algebra, Passing, within, Laws}
use Rattle.ring_laws.specs.Division.{DomainLaws}
use Rattle.ring_laws.specs.Meaning.{Meaning, items}
use Rattle.poly_laws.proofs.Coefficients.{meanings_of, coefficients, meanings-coefficients, poly_closed}
use Rattle.poly_laws.proofs.DivisionRuns.{meanings-last, Sound, sound}
use Rattle.poly_laws.proofs.ListLaws.{sum_nought, times_same_left}
use Rattle.poly_laws.proofs.OneQuotient.{Short, Degree, Part, one_rest, front, Quotient, quotient_from, has_coefficient}
use Rattle.poly_laws.proofs.PolyDomain.{no_divisors_within}
use Rattle.poly_laws.proofs.PolyLaws.{equal_coefficients, coefficient-product}
use Rattle.poly_laws.proofs.Trimming.{beyond}

module _ (a : Algebra) (l : Laws a) (d : DomainLaws a) where
  abbrev base : Ops (Passing a)
  base = within a l.closed

  abbrev poly : Ops (Passing (poly_algebra a))
  poly = within (poly_algebra a) (poly_closed a l.closed)

  abbrev parts : Passing (poly_algebra a) → List (Passing a)
  parts x = coefficients a l.closed x

  at_end : (gs : List (Passing a)) (lead : Passing a) → coefficient_at base (gs ++ lead ∷ []) (length gs) ≡ lead
  at_end [] lead = refl
  at_end (g ∷ gs) lead = at_end gs lead

  front_last : (x : Passing a) (rs : List (Passing a)) (n : ℕ) → length rs ≡ n → front base l.ring x (λ k. coefficient_at base rs k) n ≡ last_of x rs
  front_last x [] zero e = refl
  front_last x [] (suc n) e = absurd (omega arith)
  front_last x (r ∷ rs) zero e = absurd (omega arith)
  front_last x (r ∷ rs) (suc n) e = shift n ∙ front_last r rs n (omega arith)
    where
      shift : (k : ℕ) → coefficient_at base (r ∷ rs) k ≡ front base l.ring r (λ j. coefficient_at base rs j) k
      shift zero = refl
      shift (suc k) = refl

  degree_at : (gs : List (Passing a)) (lead : Passing a) → ¬ (lead ≡ base.nought) → Degree base l.ring (gs ++ lead ∷ []) (length gs)
  degree_at gs lead n = record {
    lead = λ e. n (sym (at_end gs lead) ∙ e);
    above = λ k b. beyond base (gs ++ lead ∷ []) k (omega (arith, length-append gs (lead ∷ [])));
  }

  short_rest : (gs rest : List (Passing a)) → length rest ≡ length gs → Short base l.ring (length gs) (λ k. coefficient_at base rest k)
  short_rest gs rest e k b = beyond base rest k (omega arith)

  -- a quotient q of f by g
  pub quotient_of : (f g q : Passing (poly_algebra a)) (gs : List (Passing a)) (lead : Passing a) → parts g ≡ gs ++ lead ∷ [] → poly.product q g ≡ f
      → Part base l.ring (gs ++ lead ∷ []) (parts f) (parts q) (λ _. base.nought)
  quotient_of f g q gs lead e h k =
      ap (λ t. coefficient_at base (parts t) k) (sym h) ∙ coefficient-product a l.closed l.ring q g k
      ∙ ap (λ t. coefficient_at base (list_product base (parts q) t) k) e
      ∙ sym (sum_nought base l.ring (coefficient_at base (list_product base (parts q) (gs ++ lead ∷ [])) k))

  pub rest_is_nought : (f g q : Passing (poly_algebra a)) (gs : List (Passing a)) (lead : Passing a) (qs rs : List Meaning)
      → parts g ≡ gs ++ lead ∷ [] → ¬ (lead ≡ base.nought) → (s : Sound a l gs lead (parts f) qs rs) → poly.product q g ≡ f → (k : ℕ)
      → coefficient_at base s.rest k ≡ base.nought
  rest_is_nought f g q gs lead qs rs e n s h k =
      one_rest base l.ring (no_divisors_within a l.closed d) (gs ++ lead ∷ []) (length gs) (degree_at gs lead n) (parts f) s.quotient (parts q)
      (λ j. coefficient_at base s.rest j) (λ _. base.nought) s.part
      (quotient_of f g q gs lead e h) (short_rest gs s.rest s.same_length) (λ j b. refl) k

  pub gives_quotient : (f g q : Passing (poly_algebra a)) (gs : List (Passing a)) (lead : Passing a) (qs rs : List Meaning)
      → parts g ≡ gs ++ lead ∷ [] → (s : Sound a l gs lead (parts f) qs rs) → ((k : ℕ) → coefficient_at base s.rest k ≡ base.nought)
      → ((k : ℕ) → coefficient_at base (parts q) k ≡ coefficient_at base s.quotient k) → poly.product q g ≡ f
  gives_quotient f g q gs lead qs rs e s z h =
      equal_coefficients a l.closed l.ring (poly.product q g) f
      (λ k. coefficient-product a l.closed l.ring q g k ∙ ap (λ t. coefficient_at base (list_product base (parts q) t) k) e
      ∙ times_same_left base l.ring (parts q) s.quotient (gs ++ lead ∷ []) h k
      ∙ sym (s.part k ∙ cc (z k, sum_nought base l.ring (coefficient_at base (list_product base s.quotient (gs ++ lead ∷ [])) k))))

  stuck_here : (f g q : Passing (poly_algebra a)) (gs : List (Passing a)) (lead : Passing a) (i : ℕ) (m : Meaning) (ms qs rs : List Meaning)
      (us : List (Passing a)) → parts g ≡ gs ++ lead ∷ [] → ¬ (lead ≡ base.nought)
      → drop i (parts f) ≡ us → meanings_of a l.closed us ≡ m ∷ ms → Divided a (meanings_of a l.closed gs) lead.0 ms qs rs → poly.product q g ≡ f
      → (c : Passing a) × (a.ops.product c.0 lead.0 ≡ last_of m rs)
  stuck_here f g q gs lead i m ms qs rs [] e n u v run h = cc
  stuck_here f g q gs lead i m ms qs rs (x ∷ xs) e n u v run h =
      let t : meanings_of a l.closed xs ≡ ms = cc in
      let w : x.0 ≡ m = cc in
      let s = sound a l gs lead run xs t in
      let whole : Quotient base l.ring (gs ++ lead ∷ []) (length gs) (parts f) =
      record { parts = parts q; rest = λ _. base.nought; part = quotient_of f g q gs lead e h; short = λ k b. refl } in
      let cut : Quotient base l.ring (gs ++ lead ∷ []) (length gs) (x ∷ xs) =
      subst (λ z. Quotient base l.ring (gs ++ lead ∷ []) (length gs) z) u
      (quotient_from base l.ring (gs ++ lead ∷ []) (length gs) (degree_at gs lead n) i (parts f) whole) in
      let found = has_coefficient base l.ring (no_divisors_within a l.closed d) (gs ++ lead ∷ []) (length gs) (degree_at gs lead n) x xs s.quotient
      (λ k. coefficient_at base s.rest k) s.part (short_rest gs s.rest s.same_length) cut in
      let p : base.product (coefficient_at base cut.parts 0) lead ≡ last_of x s.rest =
      ap (base.product (coefficient_at base cut.parts 0)) (sym (at_end gs lead)) ∙ found ∙ front_last x s.rest (length gs) s.same_length in
      (coefficient_at base cut.parts 0, ap (λ (z : Passing a). z.0) p ∙ meanings-last a l x s.rest ∙ cc (w, s.rest_is))

  pub stuck_none : (f g : Passing (poly_algebra a)) (gs : List (Passing a)) (lead : Passing a) → parts g ≡ gs ++ lead ∷ [] → ¬ (lead ≡ base.nought)
      → Stuck a (items f.0) (meanings_of a l.closed gs) lead.0 → (q : Passing (poly_algebra a)) → ¬ (poly.product q g ≡ f)
  stuck_none f g gs lead e n s q h =
      let v : meanings_of a l.closed (drop s.i (parts f)) ≡ s.x ∷ s.xs =
      sym (drop-map (λ (z : Passing a). z.0) s.i (parts f)) ∙ ap (drop s.i) (meanings-coefficients a l.closed f) ∙ s.here in
      let c = stuck_here f g q gs lead s.i s.x s.xs s.qs s.rs (drop s.i (parts f)) e n refl v s.run h in
      s.none c.0 c.1
