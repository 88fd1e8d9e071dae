-- Pivot rows, and the columns at which a vector of their kernel ends.
use Rattle.std.proofs.Common.{◌≡◌, ℕ, suc, ◌<◌, ◌≤◌, List, [], ◌∷◌, length, refl, ap, sym, ◌∙◌, subst, arith, All, ◌⊎◌, inl, inr, ⊎_elim}
use Rattle.std.proofs.lemmas.List.Elements.{All-nil, All-cons}
use Rattle.std.proofs.lemmas.Bool.{cases_lt}
use Rattle.ring_laws.specs.Algebra.{Ops, RingLaws}
use Rattle.kernel_laws.specs.Rows.{InKernel, dot, entry_at}
use Rattle.poly_laws.proofs.ListLaws.{product_nought, nought_product}
use Rattle.poly_laws.proofs.OneQuotient.{NoDivisors}
use Rattle.ring_solver.proofs.Read.{reading, ring}
use Rattle.kernel_laws.specs.Kernels.{EndsAt, Ends, Counted, none, with, without}
use Rattle.kernel_laws.specs.Pivots.{IsPivotColumn, rows_of}
use Rattle.poly_laws.proofs.Rings.{solvable, read_nought}
use Rattle.kernel_laws.proofs.Totals.{total_one, spike, spike_here, spike_not, dot_spike, dot_vectors}
use Rattle.kernel_laws.proofs.Kernels.{first_of, rest_of, combination, not_product}

-- the row's first entry that isn't zero stands at column j
pub record StartsAt {A : Type 0} (o : Ops A) (row : List A) (j : ℕ) : Type 0 where
  pub before : (k : ℕ) → k < j → entry_at o row k ≡ o.nought
  pub here : ¬ (entry_at o row j ≡ o.nought)

-- from column j on: pivot rows by rising column, each with its column
pub data Echelon {A : Type 0} (o : Ops A) (n : ℕ) : ℕ → List (ℕ × List A) → Type 0 where
  done : Echelon o n n []
  free : {j : ℕ} {ps : List (ℕ × List A)} → Echelon o n (suc j) ps → Echelon o n j ps
  pivot_row : {j : ℕ} {ps : List (ℕ × List A)} (row : List A) → StartsAt o row j → Echelon o n (suc j) ps → Echelon o n j ((j, row) ∷ ps)

module _ {A : Type 0} (o : Ops A) (l : RingLaws o) (d : NoDivisors o) (n : ℕ) where
  abbrev NoneEnds : List (List A) → ℕ → Type 0
  NoneEnds rows i = (v : ℕ → A) → InKernel o n rows v → ¬ (EndsAt o n v i)

  pub within : {j : ℕ} {ps : List (ℕ × List A)} → Echelon o n j ps → j ≤ n
  within done = omega arith
  within (free e) = omega (arith, within e)
  within (pivot_row row s e) = omega (arith, within e)

  pub zero_before : {j : ℕ} {ps : List (ℕ × List A)} → Echelon o n j ps
      → All (λ row. (k : ℕ) → k < j → entry_at o row k ≡ o.nought) (rows_of ps)
  zero_before {j} done = All-nil (λ row. (k : ℕ) → k < j → entry_at o row k ≡ o.nought)
  zero_before {j} (free e) = λ k x b i c. zero_before e k x b i (omega arith)
  zero_before {j} (pivot_row {ps = ps} row s e) =
      All-cons (λ row. (k : ℕ) → k < j → entry_at o row k ≡ o.nought) row (rows_of ps) s.before
      (λ k x b i c. zero_before e k x b i (omega arith))

  -- the vector with a one at a free column
  spike_kernel : {j : ℕ} {ps : List (ℕ × List A)} → Echelon o n (suc j) ps → InKernel o n (rows_of ps) (spike o j)
  spike_kernel {j} e k x b = dot_spike o l n _ j (omega (arith, within e)) ∙ zero_before e k x b j (omega arith)

  unit_isnt : {row : List A} {j : ℕ} → StartsAt o row j → ¬ (o.unit ≡ o.nought)
  unit_isnt {row} {j} s e =
      s.here (sym (l.unit_product (entry_at o row j)) ∙ ap (λ t. o.product t (entry_at o row j)) e ∙ nought_product o l
      (entry_at o row j))

  -- p * v - (row * v) at column j
  abbrev pub lifted : List A → ℕ → (ℕ → A) → ℕ → A
  lifted row j v k = o.sum (o.product (entry_at o row j) (v k)) (o.product (o.neg (dot o n row v)) (spike o j k))

  clears : (p x : A) → o.sum (o.product p x) (o.product (o.neg x) p) ≡ o.nought
  clears p x = ring (solvable o l) (p ∷ x ∷ []) (search (reading, read_nought o l) depth 40 fits 20000) refl

  pub lifted_row : (row : List A) (j : ℕ) (v : ℕ → A) → j < n → dot o n row (lifted row j v) ≡ o.nought
  lifted_row row j v b =
      dot_vectors o l n (entry_at o row j) (o.neg (dot o n row v)) row v (spike o j) (lifted row j v) (λ k c. refl)
      ∙ ap (λ t. o.sum (o.product (entry_at o row j) (dot o n row v)) (o.product (o.neg (dot o n row v)) t)) (dot_spike o l n row j b)
      ∙ clears (entry_at o row j) (dot o n row v)

  pub lifted_kernel : {j : ℕ} {ps : List (ℕ × List A)} (row : List A) (e : Echelon o n (suc j) ps) (v : ℕ → A)
      → InKernel o n (rows_of ps) v → InKernel o n (row ∷ rows_of ps) (lifted row j v)
  lifted_kernel {j} {ps} row e v h =
      All-cons (λ r. dot o n r (lifted row j v) ≡ o.nought) row (rows_of ps) (lifted_row row j v (omega (arith, within e)))
      (combination o l n (rows_of ps) (entry_at o row j) (o.neg (dot o n row v)) v (spike o j) (lifted row j v) (λ k c. refl) h
      (spike_kernel e))

  away : (p x s : A) → o.sum (o.product p x) (o.product s o.nought) ≡ o.product p x
  away p x s = ring (solvable o l) (p ∷ x ∷ s ∷ []) (search (reading, read_nought o l) depth 40 fits 20000) refl

  lifted_away : (row : List A) (j : ℕ) (v : ℕ → A) (k : ℕ) → ¬ (k ≡ j) → lifted row j v k ≡ o.product (entry_at o row j) (v k)
  lifted_away row j v k m =
      ap (λ t. o.sum (o.product (entry_at o row j) (v k)) (o.product (o.neg (dot o n row v)) t)) (spike_not o l j k m) ∙ away
      (entry_at o row j) (v k) (o.neg (dot o n row v))

  lifted_ends : (row : List A) (j : ℕ) (v : ℕ → A) (i : ℕ) → StartsAt o row j → j < i → EndsAt o n v i → EndsAt o n (lifted row j v) i
  lifted_ends row j v i s b e = record {
    within = e.within;
    here = λ h. not_product o l n d (entry_at o row j) (v i) s.here e.here (sym (lifted_away row j v i (λ q. omega (arith, q))) ∙ h);
    later = λ k c m. cc (lifted_away row j v k (λ q. omega (arith, q)), e.later k c m, product_nought o l (entry_at o row j));
  }

  -- a vector of the kernel of the pivot rows below goes on
  pub lift : {j : ℕ} {ps : List (ℕ × List A)} (row : List A) (e : Echelon o n (suc j) ps) (i : ℕ) → StartsAt o row j → j < i
      → Ends o n (rows_of ps) i → Ends o n (row ∷ rows_of ps) i
  lift {j} row e i s b v = record {
    vector = lifted row j v.vector;
    kernel = lifted_kernel row e v.vector v.kernel;
    ends = lifted_ends row j v.vector i s b v.ends;
  }

  -- no vector of the kernel ends at a pivot column
  only_term : (row : List A) (j : ℕ) (v : ℕ → A) → StartsAt o row j → EndsAt o n v j → dot o n row v ≡ o.product (entry_at o row j) (v j)
  only_term row j v s e = total_one o l n (λ k. o.product (entry_at o row k) (v k)) j e.within (λ k b m. side k b m (cases_lt k j))
    where
      side : (k : ℕ) → k < n → ¬ (k ≡ j) → (k < j) ⊎ (j ≤ k) → o.product (entry_at o row k) (v k) ≡ o.nought
      side k b m (inl c) = ap (λ t. o.product t (v k)) (s.before k c) ∙ nought_product o l (v k)
      side k b m (inr c) = ap (o.product (entry_at o row k)) (e.later k (omega (arith, m)) b) ∙ product_nought o l (entry_at o row k)

  pub none_here : (row : List A) (j : ℕ) (rows : List (List A)) → StartsAt o row j → NoneEnds (row ∷ rows) j
  none_here row j rows s v h e =
      not_product o l n d (entry_at o row j) (v j) s.here e.here
      (sym (only_term row j v s e) ∙ first_of (λ r. dot o n r v ≡ o.nought) row rows h)

  pub none_more : (row : List A) (rows : List (List A)) (i : ℕ) → NoneEnds rows i → NoneEnds (row ∷ rows) i
  none_more row rows i m v h = m v (rest_of (λ r. dot o n r v ≡ o.nought) row rows h)

  pub none_at_pivots : {j : ℕ} {ps : List (ℕ × List A)} → Echelon o n j ps → (i : ℕ) → IsPivotColumn i ps → NoneEnds (rows_of ps) i
  none_at_pivots done i h = absurd h
  none_at_pivots (free e) i h = none_at_pivots e i h
  none_at_pivots (pivot_row {j} {ps} row s e) i (inl h) = subst (NoneEnds (row ∷ rows_of ps)) (sym h) (none_here row j (rows_of ps) s)
  none_at_pivots (pivot_row {j} {ps} row s e) i (inr h) = none_more row (rows_of ps) i (none_at_pivots e i h)

  -- and one ends at each other column
  pub spike_ends : ¬ (o.unit ≡ o.nought) → (j : ℕ) → j < n → EndsAt o n (spike o j) j
  spike_ends u j b = record {
    within = b;
    here = λ h. u (sym (spike_here o l j) ∙ h);
    later = λ k c m. spike_not o l j k (λ q. omega (arith, q));
  }

  pub ends_at_free : ¬ (o.unit ≡ o.nought) → {j : ℕ} {ps : List (ℕ × List A)} → Echelon o n j ps → (i : ℕ) → j ≤ i → i < n
      → ¬ (IsPivotColumn i ps) → Ends o n (rows_of ps) i
  ends_at_free u done i b c m = absurd (omega arith)
  ends_at_free u (free {j} {ps} e) i b c m =
      ⊎_elim (λ q. ends_at_free u e i (omega arith) c m)
      (λ q. subst (Ends o n (rows_of ps)) (omega (arith, b, q))
      (record { vector = spike o j; kernel = spike_kernel e; ends = spike_ends u j (omega (arith, within e)) }))
      (cases_lt j i)
  ends_at_free u (pivot_row {j} {ps} row s e) i b c m =
      ⊎_elim (λ q. lift row e i s q (ends_at_free u e i (omega arith) c (λ h. m (inr h)))) (λ q. absurd (m (inl (omega (arith, b, q)))))
      (cases_lt j i)

  -- so the pivot rows are as many as the columns at which none ends
  counted_more : {j : ℕ} {ps : List (ℕ × List A)} {count : ℕ} (row : List A) → StartsAt o row j → Echelon o n (suc j) ps → (i : ℕ)
      → j < i → Counted (NoneEnds (rows_of ps)) n i count → Counted (NoneEnds (row ∷ rows_of ps)) n i count
  counted_more row s e i b none = none
  counted_more {ps = ps} row s e i b (with m c) = with (none_more row (rows_of ps) i m) (counted_more row s e (suc i) (omega arith) c)
  counted_more {ps = ps} row s e i b (without m c) =
      without (λ h. m (λ v k q. let w = lift row e i s b (record { vector = v; kernel = k; ends = q }) in h w.vector w.kernel w.ends))
      (counted_more row s e (suc i) (omega arith) c)

  pub count : ¬ (o.unit ≡ o.nought) → {j : ℕ} {ps : List (ℕ × List A)} → Echelon o n j ps → Counted (NoneEnds (rows_of ps)) n j (length ps)
  count u done = none
  count u (free {j} {ps} e) = without (λ h. h (spike o j) (spike_kernel e) (spike_ends u j (omega (arith, within e)))) (count u e)
  count u (pivot_row {j} {ps} row s e) = with (none_here row j (rows_of ps) s) (counted_more row s e (suc j) (omega arith) (count u e))
