-- Pivot rows in the order in which they are found, and the statement of elimination from them.
use Rattle.std.proofs.Common.{◌≡◌, ℕ, zero, suc, ◌+◌, ◌-◌, ◌<◌, ◌≤◌, get_or, List, [], ◌∷◌, ◌++◌, ap, sym, ◌∙◌, subst, append_assoc, arith, All, ⊎_elim}
use Rattle.std.proofs.lemmas.List.{map-append}
use Rattle.std.proofs.lemmas.List.Elements.{All-nil, All-cons, All-append, All-push}
use Rattle.std.proofs.lemmas.Bool.{cases_lt}
use Rattle.std.specs.List.{AllZip}
use Rattle.ring_laws.specs.Algebra.{Ops, RingLaws}
use Rattle.kernel_laws.specs.Rows.{InKernel, dot, entry_at}
use Rattle.poly_laws.proofs.ListLaws.{product_nought, nought_product}
use Rattle.poly_laws.proofs.OneQuotient.{NoDivisors}
use Rattle.kernel_laws.specs.Pivots.{rows_of}
use Rattle.kernel_laws.proofs.Totals.{total_nought}
use Rattle.kernel_laws.proofs.Kernels.{first_of, rest_of, other_factor, All-left, All-right}
use Rattle.kernel_laws.proofs.Echelon.{StartsAt, Echelon, done, free, pivot_row}
use Rattle.kernel_laws.proofs.RowSteps.{Turned, rows_on, rows_back}

-- the pivot rows of the columns below j
pub data Stairs {A : Type 0} (o : Ops A) : ℕ → List (ℕ × List A) → Type 0 where
  begin : Stairs o 0 []
  pass : {j : ℕ} {ps : List (ℕ × List A)} → Stairs o j ps → Stairs o (suc j) ps
  climb : {j : ℕ} {ps : List (ℕ × List A)} (row : List A) → StartsAt o row j → Stairs o j ps → Stairs o (suc j) (ps ++ (j, row) ∷ [])

module _ {A : Type 0} (o : Ops A) (n : ℕ) where
  joined : {j : ℕ} {ps : List (ℕ × List A)} → Stairs o j ps → (qs : List (ℕ × List A)) → Echelon o n j qs → Echelon o n 0 (ps ++ qs)
  joined begin qs e = e
  joined (pass s) qs e = joined s qs (free e)
  joined (climb {j} {ps} row t s) qs e =
      subst (Echelon o n 0) (sym (append_assoc ps ((j, row) ∷ []) qs)) (joined s ((j, row) ∷ qs) (pivot_row row t e))

  all_free : (d j : ℕ) → n ≡ j + d → Echelon o n j []
  all_free zero j e = subst (λ k. Echelon o n k []) (omega (arith, e)) done
  all_free (suc d) j e = free (all_free d (suc j) (omega (arith, e)))

  pub echelon : (j : ℕ) (ps : List (ℕ × List A)) → j ≤ n → Stairs o j ps → Echelon o n 0 (ps ++ [])
  echelon j ps b s = joined s [] (all_free (n - j) j (omega (arith, b)))

-- two lists of rows with one kernel
pub record SameKernel {A : Type 0} (o : Ops A) (n : ℕ) (rows others : List (List A)) : Type 0 where
  pub on : (v : ℕ → A) → InKernel o n rows v → InKernel o n others v
  pub back : (v : ℕ → A) → InKernel o n others v → InKernel o n rows v

-- what holds when the columns below j are done
pub record Reached {A : Type 0} (o : Ops A) (n : ℕ) (rows : List (List A)) (j : ℕ) (ps : List (ℕ × List A))
    (open_rows : List (List A)) : Type 0 where
  pub stairs : Stairs o j ps
  pub same : SameKernel o n rows (open_rows ++ rows_of ps)
  pub cleared : All (λ row. (k : ℕ) → k < j → entry_at o row k ≡ o.nought) open_rows

-- a row that takes the place of another, with a zero at the pivot's column
pub record Clears {A : Type 0} (o : Ops A) (n j : ℕ) (pivot old new : List A) : Type 0 where
  pub turned : Turned o n pivot old new
  pub zero : entry_at o new j ≡ o.nought

module _ {A : Type 0} (o : Ops A) (l : RingLaws o) (d : NoDivisors o) (n : ℕ) (rows : List (List A)) where
  abbrev ZeroBelow : ℕ → List A → Type 0
  ZeroBelow j row = (k : ℕ) → k < j → entry_at o row k ≡ o.nought

  one_more : (j : ℕ) (row : List A) → ZeroBelow j row → entry_at o row j ≡ o.nought → ZeroBelow (suc j) row
  one_more j row z e k b = ⊎_elim (λ c. z k c) (λ c. subst (λ t. entry_at o row t ≡ o.nought) (omega (arith, b, c)) e) (cases_lt k j)

  both_all : (P Q S : List A → Type 0) (xs : List (List A)) → ((x : List A) → P x → Q x → S x) → All P xs → All Q xs → All S xs
  both_all P Q S xs f p q k x b = f _ (p k x b) (q k x b)

  pub reached_pass : (j : ℕ) (ps : List (ℕ × List A)) (os : List (List A)) → Reached o n rows j ps os
      → All (λ row. entry_at o row j ≡ o.nought) os → Reached o n rows (suc j) ps os
  reached_pass j ps os r z = record {
    stairs = pass r.stairs;
    same = r.same;
    cleared = both_all (ZeroBelow j) (λ row. entry_at o row j ≡ o.nought) (ZeroBelow (suc j)) os (one_more j) r.cleared z;
  }

  new_zero : (j : ℕ) (pivot old new : List A) → j ≤ n → Clears o n j pivot old new → ZeroBelow j pivot → ZeroBelow j old
      → ZeroBelow (suc j) new
  new_zero j pivot old new m c p q =
      one_more j new
      (λ k b. other_factor o l n d c.turned.divisor (entry_at o new k) c.turned.divisor_isnt
      (c.turned.is k (omega arith) ∙ cc (
        p k b,
        q k b,
        product_nought o l c.turned.factor,
        product_nought o l c.turned.other,
        l.nought_sum
            o.nought,
      )))
      c.zero

  news_zero : (j : ℕ) (pivot : List A) (olds news : List (List A)) → j ≤ n → AllZip (Clears o n j pivot) olds news → ZeroBelow j pivot
      → All (ZeroBelow j) olds → All (ZeroBelow (suc j)) news
  news_zero j pivot [] [] m c p q = All-nil (ZeroBelow (suc j))
  news_zero j pivot [] (new ∷ news) m c p q = absurd c
  news_zero j pivot (old ∷ olds) [] m c p q = absurd c
  news_zero j pivot (old ∷ olds) (new ∷ news) m c p q =
      All-cons (ZeroBelow (suc j)) new news (new_zero j pivot old new m c.0 p (first_of (ZeroBelow j) old olds q))
      (news_zero j pivot olds news m c.1 p (rest_of (ZeroBelow j) old olds q))

  all_cleared : (j : ℕ) (pivot : List A) (olds news : List (List A)) → AllZip (Clears o n j pivot) olds news
      → AllZip (Turned o n pivot) olds news
  all_cleared j pivot [] [] c = c
  all_cleared j pivot [] (new ∷ news) c = absurd c
  all_cleared j pivot (old ∷ olds) [] c = absurd c
  all_cleared j pivot (old ∷ olds) (new ∷ news) c = (c.0.turned, all_cleared j pivot olds news c.1)

  -- a pivot row is found, and the other open rows are cleared
  pub reached_climb : (j : ℕ) (ps : List (ℕ × List A)) (before after news : List (List A)) (pivot : List A) → j < n
      → Reached o n rows j ps (before ++ pivot ∷ after) → ¬ (entry_at o pivot j ≡ o.nought)
      → AllZip (Clears o n j pivot) (before ++ after) news → Reached o n rows (suc j) (ps ++ (j, pivot) ∷ []) news
  reached_climb j ps before after news pivot m r h c = record {
    stairs = climb pivot (record { before = first_of (ZeroBelow j) pivot after mid; here = h }) r.stairs;
    same = record { on = on; back = back };
    cleared =
        news_zero j pivot (before ++ after) news (omega arith) c (first_of (ZeroBelow j) pivot after mid)
        (All-append (ZeroBelow j) before after (All-left (ZeroBelow j) before (pivot ∷ after) r.cleared)
        (rest_of (ZeroBelow j) pivot after mid));
  }
    where
      mid : All (ZeroBelow j) (pivot ∷ after)
      mid = All-right (ZeroBelow j) before (pivot ∷ after) r.cleared

      K : (ℕ → A) → List A → Type 0
      K v row = dot o n row v ≡ o.nought

      split : rows_of (ps ++ (j, pivot) ∷ []) ≡ rows_of ps ++ pivot ∷ []
      split = map-append (λ (p : ℕ × List A). p.1) ps ((j, pivot) ∷ [])

      on : (v : ℕ → A) → InKernel o n rows v → InKernel o n (news ++ rows_of (ps ++ (j, pivot) ∷ [])) v
      on v k =
          let a = r.same.on v k in
          let b = All-left (K v) (before ++ pivot ∷ after) (rows_of ps) a in
          let c2 = All-right (K v) before (pivot ∷ after) b in
          let e : dot o n pivot v ≡ o.nought = first_of (K v) pivot after c2 in
          All-append (K v) news (rows_of (ps ++ (j, pivot) ∷ []))
          (rows_on o l d n pivot (before ++ after) news v (all_cleared j pivot (before ++ after) news c) e
          (All-append (K v) before after (All-left (K v) before (pivot ∷ after) b) (rest_of (K v) pivot after c2)))
          (subst (All (K v)) (sym split) (All-push (K v) (rows_of ps) pivot (All-right (K v) (before ++ pivot ∷ after) (rows_of ps) a) e))

      back : (v : ℕ → A) → InKernel o n (news ++ rows_of (ps ++ (j, pivot) ∷ [])) v → InKernel o n rows v
      back v k =
          let a = All-left (K v) news (rows_of (ps ++ (j, pivot) ∷ [])) k in
          let b = subst (All (K v)) split (All-right (K v) news (rows_of (ps ++ (j, pivot) ∷ [])) k) in
          let e : dot o n pivot v ≡ o.nought = first_of (K v) pivot [] (All-right (K v) (rows_of ps) (pivot ∷ []) b) in
          let f = rows_back o l d n pivot (before ++ after) news v (all_cleared j pivot (before ++ after) news c) e a in
          r.same.back v
          (All-append (K v) (before ++ pivot ∷ after) (rows_of ps)
          (All-append (K v) before (pivot ∷ after) (All-left (K v) before after f)
          (All-cons (K v) pivot after e (All-right (K v) before after f)))
          (All-left (K v) (rows_of ps) (pivot ∷ []) b))

  -- what the rows send to zero the pivot rows do, and the other way where it is zero at the columns that aren't done
  pub pivots_send : {j : ℕ} {ps : List (ℕ × List A)} {os : List (List A)} → Reached o n rows j ps os → (v : ℕ → A) → InKernel o n rows v
      → InKernel o n (rows_of ps) v
  pivots_send {ps = ps} {os} r v k = All-right (λ row. dot o n row v ≡ o.nought) os (rows_of ps) (r.same.on v k)

  pub rows_send : {j : ℕ} {ps : List (ℕ × List A)} {os : List (List A)} → Reached o n rows j ps os → (v : ℕ → A)
      → ((k : ℕ) → j ≤ k → k < n → v k ≡ o.nought) → InKernel o n (rows_of ps) v → InKernel o n rows v
  rows_send {j} {ps} {os} r v z k =
      r.same.back v (All-append (λ row. dot o n row v ≡ o.nought) os (rows_of ps)
      (λ i x b. total_nought o l n _ (λ t c. ⊎_elim (λ e. ap (λ y. o.product y (v t)) (r.cleared i x b t e) ∙ nought_product o l (v t))
      (λ e. ap (o.product (entry_at o (get_or os i x) t)) (z t e c) ∙ product_nought o l (entry_at o (get_or os i x) t)) (cases_lt t j))) k)
