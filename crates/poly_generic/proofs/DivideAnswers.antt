-- The steps of a division, from what the ring's calls answer.
use Rattle.std.proofs.Common.{◌≡◌, ℕ, zero, suc, ◌+◌, ◌<◌, List, [], ◌∷◌, ◌++◌, map, length, get_or, take, drop, set, replicate, refl, sym, ap, ◌∙◌, subst, arith, Result, Ok, Err, Option, IsErrAnd}
use Rattle.std.proofs.lemmas.List.{length-map, map-append, append_assoc, get_or-drop, take_more, take_more_set, drop-map, drop_more}
use Rattle.ring_laws.specs.declared.faults.RingFault.{RingFault}
use Rattle.poly_generic.specs.ListAnswer.{DividesList}
use Rattle.poly_laws.specs.Lists.{coefficient_at}
use Rattle.poly_laws.specs.LongDivision.{list_less, last_of, front_of, Divided, begin, step, ReductionInBounds, ListDivisionInBounds, Stuck}
use Rattle.ring_laws.specs.Algebra.{Ops, Algebra, Passing, SumInBounds, ProductInBounds}
use Rattle.ring_laws.specs.Answer.{OnFault, fault_weaker}
use Rattle.ring_laws.specs.Meaning.{Meaning}
use Rattle.poly_generic.proofs.ListLemmas.{at_item}
use Rattle.poly_laws.proofs.OneQuotient.{front}

pub less_at : {A : Type 0} (o : Ops A) (rs : List A) (c : A) (gs : List A) (i : ℕ) → i < length rs → i < length gs
    → coefficient_at o (list_less o rs c gs) i ≡ o.sum (coefficient_at o rs i) (o.neg (o.product c (coefficient_at o gs i)))
less_at o [] c gs i p q = absurd (omega arith)
less_at o (r ∷ rs) c [] i p q = absurd (omega arith)
less_at o (r ∷ rs) c (g ∷ gs) zero p q = refl
less_at o (r ∷ rs) c (g ∷ gs) (suc i) p q = less_at o rs c gs i (omega arith) (omega arith)

pub length-less : {A : Type 0} (o : Ops A) (rs : List A) (c : A) (gs : List A) → length rs ≡ length gs → length (list_less o rs c gs) ≡ length rs
length-less o [] c gs e = refl
length-less o (r ∷ rs) c [] e = refl
length-less o (r ∷ rs) c (g ∷ gs) e = omega (arith, length-less o rs c gs (omega arith))

-- a list that ends in a top
pub last-push : {A : Type 0} (x : A) (rs front : List A) (top : A) → x ∷ rs ≡ front ++ top ∷ [] → (last_of x rs ≡ top) × (front_of x rs ≡ front)
last-push x [] [] top e = (cc, refl)
last-push x [] (y ∷ []) top e = cc
last-push x [] (y ∷ z ∷ ys) top e = cc
last-push x (r ∷ rs) [] top e = cc
last-push x (r ∷ rs) (y ∷ ys) top e =
    let h = last-push r rs ys top (cc) in
    (h.0, cc (h.1))

module _ {T : Type 0} (a : Algebra) (meaning : T → Meaning) where
  pub product_not : (rs : List Meaning) (c : Meaning) (ys : List T) (i : ℕ) (y : T) (fault : RingFault) → i < length ys → y ≡ get_or ys i y
      → OnFault (¬ (ProductInBounds a c (meaning y))) fault → OnFault (¬ (ReductionInBounds a rs c (map meaning ys))) fault
  product_not rs c ys i y fault p e h =
      fault_weaker fault (λ n t.
      n (subst (λ u. ProductInBounds a c u) (at_item a.ops meaning ys i y p e) (t i (omega (arith, length-map ys meaning))).0)) h

  pub difference_not : (rs : List Meaning) (c : Meaning) (ys : List T) (i : ℕ) (x y : T) (part : Meaning) (fault : RingFault)
      → coefficient_at a.ops rs i ≡ meaning x → i < length ys → y ≡ get_or ys i y → part ≡ a.ops.product c (meaning y)
      → OnFault (¬ (SumInBounds a (meaning x) part)) fault → OnFault (¬ (ReductionInBounds a rs c (map meaning ys))) fault
  difference_not rs c ys i x y part fault s q f g h =
      let t = at_item a.ops meaning ys i y q f in
      fault_weaker fault
      (λ n k. n (subst (λ u. SumInBounds a (meaning x) u) (ap (a.ops.product c) t
      ∙ sym g) (subst (λ u. SumInBounds a u (a.ops.product c (coefficient_at a.ops (map meaning ys) i))) s
      (k i (omega (arith, length-map ys meaning))).1))) h

  -- the coefficient of what is left from a place on
  pub left_at : (xs : List T) (from i : ℕ) (x : T) → from + i < length xs → x ≡ get_or xs (from + i) x
      → coefficient_at a.ops (drop from (map meaning xs)) i ≡ meaning x
  left_at xs from i x b e = get_or-drop from (map meaning xs) i a.ops.nought ∙ at_item a.ops meaning xs (from + i) x b e

  -- one difference more, in its place
  pub less_more : (before rs : List Meaning) (c : Meaning) (ys old new : List T) (i j : ℕ) (x y item : T) (part : Meaning)
      → length rs ≡ length ys → i < length ys → j < length old → coefficient_at a.ops rs i ≡ meaning x → y ≡ get_or ys i y
      → part ≡ a.ops.product c (meaning y) → meaning item ≡ a.ops.sum (meaning x) (a.ops.neg part) → new ≡ set old j item
      → map meaning (take j old) ≡ before ++ take i (list_less a.ops rs c (map meaning ys))
      → map meaning (take (j + 1) new) ≡ before ++ take (i + 1) (list_less a.ops rs c (map meaning ys))
  less_more before rs c ys old new i j x y item part n p q e f g h k made =
      let zs : List Meaning = list_less a.ops rs c (map meaning ys) in
      let l : length rs ≡ length (map meaning ys) = omega (arith, n, length-map ys meaning) in
      let b : i < length rs = omega (arith, n, p) in
      let d : i < length (map meaning ys) = omega (arith, p, length-map ys meaning) in
      let is : meaning item ≡ coefficient_at a.ops zs i =
      cc (
        h,
        g,
        less_at a.ops rs c (map meaning ys) i b d,
        e,
        at_item a.ops meaning ys i y p f,
      ) in
      ap (λ t. map meaning (take (j + 1) t)) k
      ∙ ap (map meaning) (take_more_set old j item q)
      ∙ map-append meaning (take j old) (item ∷ [])
      ∙ ap (λ t. t ++ meaning item ∷ []) made
      ∙ append_assoc before (take i zs) (meaning item ∷ [])
      ∙ ap (λ t. before ++ (take i zs ++ t ∷ [])) is
      ∙ ap (λ t. before ++ t) (sym (take_more zs i a.ops.nought (omega (arith, b, length-less a.ops rs c (map meaning ys) l))))

  -- the run, one coefficient further
  pub run_on : (xs : List T) (i : ℕ) (x : T) (qs rs front : List Meaning) (gs : List Meaning) (lead top : Meaning) (c : Passing a) → i < length xs
      → x ≡ get_or xs i x → Divided a gs lead (map meaning (drop (i + 1) xs)) qs rs
      → meaning x ∷ rs ≡ front ++ top ∷ [] → a.ops.product c.0 lead ≡ top
      → Divided a gs lead (map meaning (drop i xs)) (c.0 ∷ qs) (list_less a.ops front c.0 gs)
  run_on xs i x qs rs front gs lead top c p e run f h =
      let t = last-push (meaning x) rs front top f in
      let d : map meaning (drop i xs) ≡ meaning x ∷ map meaning (drop (i + 1) xs) =
      ap (map meaning) (drop_more xs i x p) ∙ ap (λ v. meaning v ∷ map meaning (drop (i + 1) xs)) (sym e) in
      subst (λ u. Divided a gs lead u (c.0 ∷ qs) (list_less a.ops front c.0 gs)) (sym d)
      (subst (λ u. Divided a gs lead (meaning x ∷ map meaning (drop (i + 1) xs)) (c.0 ∷ qs) (list_less a.ops u c.0 gs)) t.1
      (step (meaning x) c run (h ∙ sym t.0)))

  pub run_begin : (gs ms qs rs : List Meaning) (lead : Meaning) → ms ≡ [] → qs ≡ [] → rs ≡ replicate (length gs) a.ops.nought
      → Divided a gs lead ms qs rs
  run_begin gs ms qs rs lead e f h =
      subst (λ t. Divided a gs lead t qs rs) (sym e)
      (subst (λ t. Divided a gs lead [] t rs) (sym f) (subst (λ t. Divided a gs lead [] [] t) (sym h) begin))

  here : (xs : List T) (i : ℕ) (x : T) → i < length xs → x ≡ get_or xs i x → drop i (map meaning xs) ≡ meaning x ∷ map meaning (drop (i + 1) xs)
  here xs i x p e = drop-map meaning i xs ∙ ap (map meaning) (drop_more xs i x p) ∙ ap (λ v. meaning v ∷ map meaning (drop (i + 1) xs)) (sym e)

  pub part_not : (InBounds : Meaning → Meaning → Type 0) (xs : List T) (i : ℕ) (x : T) (qs rs front gs : List Meaning) (lead top : Meaning)
      (fault : RingFault) → i < length xs → x ≡ get_or xs i x
      → Divided a gs lead (map meaning (drop (i + 1) xs)) qs rs → meaning x ∷ rs ≡ front ++ top ∷ [] → OnFault (¬ (InBounds top lead)) fault
      → OnFault (¬ (ListDivisionInBounds a InBounds (map meaning xs) gs lead)) fault
  part_not InBounds xs i x qs rs front gs lead top fault p e run f h =
      fault_weaker fault
      (λ n t. n (subst (λ u. InBounds u lead) (last-push (meaning x) rs front top f).0
      (t (meaning x) (map meaning (drop (i + 1) xs)) qs rs i (here xs i x p e) run).division)) h

  pub rest_not : (InBounds : Meaning → Meaning → Type 0) (xs : List T) (i : ℕ) (x : T) (qs rs front gs : List Meaning) (lead top : Meaning)
      (c : Passing a) (fault : RingFault) → i < length xs → x ≡ get_or xs i x
      → Divided a gs lead (map meaning (drop (i + 1) xs)) qs rs → meaning x ∷ rs ≡ front ++ top ∷ [] → a.ops.product c.0 lead ≡ top
      → OnFault (¬ (ReductionInBounds a front c.0 gs)) fault → OnFault (¬ (ListDivisionInBounds a InBounds (map meaning xs) gs lead)) fault
  rest_not InBounds xs i x qs rs front gs lead top c fault p e run f k h =
      let t = last-push (meaning x) rs front top f in
      fault_weaker fault
      (λ n s. n (subst (λ u. ReductionInBounds a u c.0 gs) t.1
      ((s (meaning x) (map meaning (drop (i + 1) xs)) qs rs i (here xs i x p e) run).reduction c (k ∙ sym t.0)))) h

  pub stuck_at : (xs : List T) (i : ℕ) (x : T) (qs rs front gs : List Meaning) (lead top : Meaning) → i < length xs → x ≡ get_or xs i x
      → Divided a gs lead (map meaning (drop (i + 1) xs)) qs rs → meaning x ∷ rs ≡ front ++ top ∷ []
      → ((c : Passing a) → ¬ (a.ops.product c.0 lead ≡ top)) → Stuck a (map meaning xs) gs lead
  stuck_at xs i x qs rs front gs lead top p e run f n = record {
    x = meaning x;
    xs = map meaning (drop (i + 1) xs);
    qs = qs;
    rs = rs;
    i = i;
    here = here xs i x p e;
    run = run;
    none = λ c k. n c (k ∙ (last-push (meaning x) rs front top f).0);
  }

  -- what the exit of a `?` returns
  pub fault_divides : {Q : Type 0} (quotient rest : Q → List Meaning) (InBounds : Meaning → Meaning → Type 0) (ms gs : List Meaning) (lead : Meaning)
      (r : Result (Option Q) RingFault) (fault : RingFault) → IsErrAnd r (λ e. e ≡ fault)
      → OnFault (¬ (ListDivisionInBounds a InBounds ms gs lead)) fault → DividesList a InBounds quotient rest ms gs lead r
  fault_divides quotient rest InBounds ms gs lead (Ok v) fault e h = absurd e
  fault_divides quotient rest InBounds ms gs lead (Err d) fault e h = subst (OnFault (¬ (ListDivisionInBounds a InBounds ms gs lead))) (sym e) h
