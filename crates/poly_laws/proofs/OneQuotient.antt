-- In a domain a quotient with a short rest is the only one, and its last coefficient is that of the first step.
use Rattle.std.specs.Prelude.{◌≡◌, ℕ, zero, suc, ◌<◌, ◌≤◌, ◌⊎◌, List, [], ◌∷◌, map, drop, refl}
use Rattle.std.proofs.Common.{ap, sym, ◌∙◌, ⊎_elim, arith}
use Rattle.poly_laws.specs.Lists.{coefficient_at, list_sum, list_product}
use Rattle.ring_laws.specs.Algebra.{Ops, RingLaws}
use Rattle.poly_laws.proofs.ListLaws.{sum_nought, product_nought, nought_product, neg_nought, swap, interchange, at_sum, at_neg, times_zero, times_suc, times_same_left, times_sum_left}

-- no product of two that aren't zero is zero
abbrev pub NoDivisors : {A : Type 0} → Ops A → Type 0
NoDivisors {A} o = (x y : A) → o.product x y ≡ o.nought → (x ≡ o.nought) ⊎ (y ≡ o.nought)

module _ {A : Type 0} (o : Ops A) (l : RingLaws o) where
  pub cancel : (a b c : A) → o.sum a c ≡ o.sum b c → a ≡ b
  cancel a b c e =
      sym (sum_nought o l a) ∙ ap (o.sum a) (sym (l.sum_neg c)) ∙ sym (l.sum_assoc a c (o.neg c)) ∙ ap (λ t. o.sum t (o.neg c)) e
      ∙ l.sum_assoc b c (o.neg c) ∙ ap (o.sum b) (l.sum_neg c) ∙ sum_nought o l b

  -- a is b where their difference is zero
  pub equal_by : (a b : A) → o.sum a (o.neg b) ≡ o.nought → a ≡ b
  equal_by a b e = cancel a b (o.neg b) (e ∙ sym (l.sum_neg b))

  pub product_neg : (a b : A) → o.product a (o.neg b) ≡ o.neg (o.product a b)
  product_neg a b =
      cancel (o.product a (o.neg b)) (o.neg (o.product a b)) (o.product a b)
      (cc (
        l.sum_comm (o.product a (o.neg b)) (o.product a b),
        l.distributes a b (o.neg b),
        l.sum_neg b,
        product_nought o l a,
        l.sum_neg (o.product a b),
        l.sum_comm (o.neg (o.product a b)) (o.product a b),
      ))

  pub neg_product : (a b : A) → o.product (o.neg a) b ≡ o.neg (o.product a b)
  neg_product a b = l.product_comm (o.neg a) b ∙ product_neg b a ∙ ap o.neg (l.product_comm b a)

  pub neg_sum : (a b : A) → o.neg (o.sum a b) ≡ o.sum (o.neg a) (o.neg b)
  neg_sum a b = cancel (o.neg (o.sum a b)) (o.sum (o.neg a) (o.neg b)) (o.sum a b)
      (cc (
        l.sum_comm (o.neg (o.sum a b)) (o.sum a b),
        l.sum_neg (o.sum a b),
        interchange o l (o.neg a) (o.neg b) a b,
        l.sum_comm (o.neg a) a,
        l.sum_comm (o.neg b) b,
        l.sum_neg a,
        l.sum_neg b,
        l.nought_sum o.nought,
      ))

  pub times_neg : (xs gs : List A) (k : ℕ) → coefficient_at o (list_product o (map o.neg xs) gs) k ≡ o.neg (coefficient_at o (list_product o xs gs) k)
  times_neg [] gs k = sym (neg_nought o l)
  times_neg (x ∷ xs) gs zero = cc (times_zero o l (o.neg x) (map o.neg xs) gs, times_zero o l x xs gs, neg_product x (coefficient_at o gs 0))
  times_neg (x ∷ xs) gs (suc k) =
      cc (
        times_suc o l (o.neg x) (map o.neg xs) gs k,
        times_suc o l x xs gs k,
        neg_product x (coefficient_at o gs (suc k)),
        times_neg xs gs k,
        neg_sum (o.product x (coefficient_at o gs (suc k))) (coefficient_at o (list_product o xs gs) k),
      )

  abbrev pub Short : ℕ → (ℕ → A) → Type 0
  Short n s = (k : ℕ) → n ≤ k → s k ≡ o.nought

  -- the coefficients above n are zero, and that at n isn't
  pub record Degree (gs : List A) (n : ℕ) : Type 0 where
    pub lead : ¬ (coefficient_at o gs n ≡ o.nought)
    pub above : (k : ℕ) → n < k → coefficient_at o gs k ≡ o.nought

  -- xs is the product of qs and gs, and s more
  abbrev pub Part : List A → List A → List A → (ℕ → A) → Type 0
  Part gs xs qs s = (k : ℕ) → coefficient_at o xs k ≡ o.sum (coefficient_at o (list_product o qs gs) k) (s k)

  abbrev pub tail : List A → List A
  tail [] = []
  tail (x ∷ xs) = xs

  times_tail : (qs gs : List A) (k : ℕ)
      → coefficient_at o (list_product o qs gs) (suc k) ≡ o.sum (o.product (coefficient_at o qs 0) (coefficient_at o gs (suc k)))
      (coefficient_at o (list_product o (tail qs) gs) k)
  times_tail [] gs k = cc (nought_product o l (coefficient_at o gs (suc k)), l.nought_sum o.nought)
  times_tail (q ∷ qs) gs k = times_suc o l q qs gs k

  times_head : (qs gs : List A) → coefficient_at o (list_product o qs gs) 0 ≡ o.product (coefficient_at o qs 0) (coefficient_at o gs 0)
  times_head [] gs = sym (nought_product o l (coefficient_at o gs 0))
  times_head (q ∷ qs) gs = times_zero o l q qs gs

  -- one coefficient less
  abbrev pub carried : List A → List A → (ℕ → A) → ℕ → A
  carried gs qs s k = o.sum (o.product (coefficient_at o qs 0) (coefficient_at o gs (suc k))) (s (suc k))

  pub part_tail : (gs qs : List A) (x : A) (xs : List A) (s : ℕ → A) → Part gs (x ∷ xs) qs s → Part gs xs (tail qs) (carried gs qs s)
  part_tail gs qs x xs s h k =
      h (suc k) ∙ ap (λ t. o.sum t (s (suc k))) (times_tail qs gs k)
      ∙ cc (
        l.sum_assoc (o.product (coefficient_at o qs 0) (coefficient_at o gs (suc k))) (coefficient_at o (list_product o (tail qs) gs) k) (s (suc k)),
        swap o l (o.product (coefficient_at o qs 0) (coefficient_at o gs (suc k))) (coefficient_at o (list_product o (tail qs) gs) k) (s (suc k)),
      )

  pub short_tail : (gs qs : List A) (n : ℕ) (s : ℕ → A) → Degree gs n → Short n s → Short n (carried gs qs s)
  short_tail gs qs n s d h k b =
      cc (d.above (suc k) (omega arith), h (suc k) (omega arith), product_nought o l (coefficient_at o qs 0), l.nought_sum o.nought)

  -- the division's step: x comes to the front, and c times gs goes
  pub part_step : (gs qs xs : List A) (x c : A) (r s : ℕ → A) → Part gs xs qs r → (s 0 ≡ o.sum x (o.neg (o.product c (coefficient_at o gs 0))))
      → ((k : ℕ) → s (suc k) ≡ o.sum (r k) (o.neg (o.product c (coefficient_at o gs (suc k))))) → Part gs (x ∷ xs) (c ∷ qs) s
  part_step gs qs xs x c r s h e f zero =
      let p : A = o.product c (coefficient_at o gs 0) in
      cc (times_zero o l c qs gs, e, swap o l p x (o.neg p), l.sum_neg p, sum_nought o l x)
  part_step gs qs xs x c r s h e f (suc k) =
      let p : A = o.product c (coefficient_at o gs (suc k)) in
      let t : A = coefficient_at o (list_product o qs gs) k in
      cc (
        times_suc o l c qs gs k,
        f k,
        h k,
        l.sum_assoc p t (o.sum (r k) (o.neg p)),
        swap o l t (r k) (o.neg p),
        swap o l p (r k) (o.sum t (o.neg p)),
        swap o l p t (o.neg p),
        l.sum_neg p,
        sum_nought o l t,
        l.sum_comm (r k) t,
      )

  module _ (d : NoDivisors o) where
    -- a factor that isn't zero is cancelled
    pub cancelled : (x y t : A) → ¬ (t ≡ o.nought) → o.product x t ≡ o.product y t → x ≡ y
    cancelled x y t some e =
        equal_by x y (⊎_elim (λ h. h) (λ h. absurd (some h)) (d (o.sum x (o.neg y)) t (cc (
          l.product_comm (o.sum x (o.neg y)) t,
          l.distributes t x (o.neg y),
          l.product_comm t x,
          l.product_comm t (o.neg y),
          neg_product y t,
          e,
          l.sum_neg (o.product y t),
        ))))

    not_left : (x y : A) → o.product x y ≡ o.nought → ¬ (y ≡ o.nought) → x ≡ o.nought
    not_left x y e n = ⊎_elim (λ h. h) (λ h. absurd (n h)) (d x y e)

    times_noughts : (ds gs : List A) (k : ℕ) → ((j : ℕ) → coefficient_at o ds j ≡ o.nought) → coefficient_at o (list_product o ds gs) k ≡ o.nought
    times_noughts ds gs k h = times_same_left o l ds [] gs h k

    top_nought : (gs : List A) (n : ℕ) (d : A) (ds : List A) → ((k : ℕ) → coefficient_at o ds k ≡ o.nought)
        → coefficient_at o (list_product o (d ∷ ds) gs) n ≡ o.nought → o.product d (coefficient_at o gs n) ≡ o.nought
    top_nought gs zero d ds h e = sym (times_zero o l d ds gs) ∙ e
    top_nought gs (suc j) d ds h e =
        cc (times_suc o l d ds gs j, e, times_noughts ds gs j h, sum_nought o l (o.product d (coefficient_at o gs (suc j))))

    rest_short : (gs : List A) (n : ℕ) → Degree gs n → (d : A) (ds : List A) → Short n (λ k. coefficient_at o (list_product o (d ∷ ds) gs) k)
        → Short n (λ k. coefficient_at o (list_product o ds gs) k)
    rest_short gs n g d ds h j b = sym (l.nought_sum (coefficient_at o (list_product o ds gs) j))
        ∙ cc (times_suc o l d ds gs j, h (suc j) (omega arith), g.above (suc j) (omega arith), product_nought o l d)

    -- a product with no coefficient from n on is of zero
    pub short_times : (gs : List A) (n : ℕ) → Degree gs n → (ds : List A) → Short n (λ k. coefficient_at o (list_product o ds gs) k) → (k : ℕ)
        → coefficient_at o ds k ≡ o.nought
    short_times gs n g [] h k = refl
    short_times gs n g (d ∷ ds) h (suc k) = short_times gs n g ds (rest_short gs n g d ds h) k
    short_times gs n g (d ∷ ds) h zero =
        not_left d (coefficient_at o gs n) (top_nought gs n d ds (short_times gs n g ds (rest_short gs n g d ds h)) (h n (omega arith))) g.lead

    difference_short : (gs : List A) (n : ℕ) (xs qs parts : List A) (r s : ℕ → A) → Part gs xs qs r → Part gs xs parts s → Short n r → Short n s
        → Short n (λ k. coefficient_at o (list_product o (list_sum o qs (map o.neg parts)) gs) k)
    difference_short gs n xs qs parts r s h i a b k c =
        let e : coefficient_at o (list_product o qs gs) k ≡ coefficient_at o (list_product o parts gs) k =
        sym (sum_nought o l (coefficient_at o (list_product o qs gs) k))
        ∙ cc (h k, i k, a k c, b k c, sum_nought o l (coefficient_at o (list_product o parts gs) k)) in
        cc (times_sum_left o l qs (map o.neg parts) gs k, times_neg parts gs k, e, l.sum_neg (coefficient_at o (list_product o parts gs) k))

    -- a quotient with a short rest is the only one
    pub one_quotient : (gs : List A) (n : ℕ) → Degree gs n → (xs qs parts : List A) (r s : ℕ → A) → Part gs xs qs r → Part gs xs parts s → Short n r
        → Short n s → (k : ℕ) → coefficient_at o qs k ≡ coefficient_at o parts k
    one_quotient gs n g xs qs parts r s h i a b k =
        equal_by (coefficient_at o qs k) (coefficient_at o parts k)
        (cc (
          short_times gs n g (list_sum o qs (map o.neg parts)) (difference_short gs n xs qs parts r s h i a b) k,
          at_sum o l qs (map o.neg parts) k,
          at_neg o l parts k,
        ))

    pub one_rest : (gs : List A) (n : ℕ) → Degree gs n → (xs qs parts : List A) (r s : ℕ → A) → Part gs xs qs r → Part gs xs parts s → Short n r
        → Short n s → (k : ℕ) → r k ≡ s k
    one_rest gs n g xs qs parts r s h i a b k =
        let e : coefficient_at o (list_product o qs gs) k ≡ coefficient_at o (list_product o parts gs) k =
        times_same_left o l qs parts gs (one_quotient gs n g xs qs parts r s h i a b) k in
        cancel (r k) (s k) (coefficient_at o (list_product o qs gs) k)
        (cc (l.sum_comm (r k) (coefficient_at o (list_product o qs gs) k), l.sum_comm (s k) (coefficient_at o (list_product o qs gs) k), h k, i k, e))

  -- what stands before the step: x, and then the rest
  abbrev pub front : A → (ℕ → A) → ℕ → A
  front x r zero = x
  front x r (suc k) = r k

  pub part_front : (gs qs xs : List A) (x c : A) (r s : ℕ → A) → Part gs xs qs r
      → ((k : ℕ) → s k ≡ o.sum (front x r k) (o.neg (o.product c (coefficient_at o gs k)))) → Part gs (x ∷ xs) (c ∷ qs) s
  part_front gs qs xs x c r s h e = part_step gs qs xs x c r s h (e zero) (λ k. e (suc k))

  pub record Quotient (gs : List A) (n : ℕ) (xs : List A) : Type 0 where
    pub parts : List A
    pub rest : ℕ → A
    pub part : Part gs xs parts rest
    pub short : Short n rest

  -- what is left of a quotient from power i on
  pub quotient_from : (gs : List A) (n : ℕ) → Degree gs n → (i : ℕ) (xs : List A) → Quotient gs n xs → Quotient gs n (drop i xs)
  quotient_from gs n g zero xs q = q
  quotient_from gs n g (suc i) [] q = q
  quotient_from gs n g (suc i) (x ∷ xs) q =
      quotient_from gs n g i xs (record {
        parts = tail q.parts;
        rest = carried gs q.parts q.rest;
        part =
            part_tail gs q.parts x xs q.rest q.part;
        short = short_tail gs q.parts n q.rest g q.short;
      })

  -- where there is a quotient, the step has a coefficient
  pub has_coefficient : (d : NoDivisors o) (gs : List A) (n : ℕ) → Degree gs n → (x : A) (xs qs : List A) (r : ℕ → A) → Part gs xs qs r → Short n r
      → (q : Quotient gs n (x ∷ xs)) → o.product (coefficient_at o q.parts 0) (coefficient_at o gs n) ≡ front x r n
  has_coefficient d gs n g x xs qs r h b q = at_top n refl
    where
      same : (k : ℕ) → r k ≡ carried gs q.parts q.rest k
      same k = one_rest d gs n g xs qs (tail q.parts) r (carried gs q.parts q.rest) h (part_tail gs q.parts x xs q.rest q.part) b
          (short_tail gs q.parts n q.rest g q.short) k

      at_top : (i : ℕ) → i ≡ n → o.product (coefficient_at o q.parts 0) (coefficient_at o gs i) ≡ front x r i
      at_top zero e = sym (q.part 0
          ∙ cc (times_head q.parts gs, q.short 0 (omega arith), sum_nought o l (o.product (coefficient_at o q.parts 0) (coefficient_at o gs 0))))
      at_top (suc j) e = sym (same j
          ∙ cc (q.short (suc j) (omega arith), sum_nought o l (o.product (coefficient_at o q.parts 0) (coefficient_at o gs (suc j)))))
