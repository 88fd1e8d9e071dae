-- A step of back substitution: the vector, multiplied by something that isn't zero, gets an entry at the pivot's column, and is divided.
use Rattle.std.proofs.Common.{◌≤◌, ◌⊎◌, inl, inr, ◌≡◌, ℕ, suc, ◌<◌, List, [], ◌∷◌, refl, ap, sym, ◌∙◌, arith}
use Rattle.std.proofs.lemmas.Bool.{cases_lt}
use Rattle.std.proofs.lemmas.List.Elements.{All-cons}
use Rattle.ring_laws.specs.Algebra.{Ops, RingLaws}
use Rattle.kernel_laws.specs.Rows.{InKernel, dot, entry_at}
use Rattle.poly_laws.proofs.ListLaws.{nought_product, sum_nought, product_nought}
use Rattle.poly_laws.proofs.OneQuotient.{NoDivisors}
use Rattle.ring_solver.proofs.Read.{reading, ring}
use Rattle.ring_solver.proofs.Linear.{from_all, by}
use Rattle.kernel_laws.specs.Kernels.{EndsAt}
use Rattle.kernel_laws.specs.Pivots.{rows_of}
use Rattle.poly_laws.proofs.Rings.{solvable, read_nought}
use Rattle.kernel_laws.proofs.Totals.{total_nought, total_scale, dot_vectors, dot_spike, spike, spike_not}
use Rattle.kernel_laws.proofs.Kernels.{not_product, other_factor}
use Rattle.kernel_laws.proofs.Echelon.{StartsAt, Echelon, zero_before, within}

pub record Stepped {A : Type 0} (o : Ops A) (n : ℕ) (row : List A) (j : ℕ) (old new : ℕ → A) : Type 0 where
  pub divisor : A
  pub divisor_isnt : ¬ (divisor ≡ o.nought)
  pub factor : A
  pub factor_isnt : ¬ (factor ≡ o.nought)
  pub put : A
  pub is : (k : ℕ) → k < n → o.product divisor (new k) ≡ o.sum (o.product factor (old k)) (o.product put (spike o j k))
  pub clears : o.sum (o.product factor (dot o n row old)) (o.product put (entry_at o row j)) ≡ o.nought

module _ {A : Type 0} (o : Ops A) (l : RingLaws o) (d : NoDivisors o) (n : ℕ) where
  out_of : (r s v : A) → o.product r (o.product s v) ≡ o.product s (o.product r v)
  out_of r s v = ring (solvable o l) (r ∷ s ∷ v ∷ []) (search reading depth 40 fits 20000) refl

  dot_stepped : (row r : List A) (j : ℕ) (old new : ℕ → A) (s : Stepped o n row j old new) → j < n
      → o.product s.divisor (dot o n r new) ≡ o.sum (o.product s.factor (dot o n r old)) (o.product s.put (entry_at o r j))
  dot_stepped row r j old new s b =
      sym (total_scale o l n s.divisor (λ k. o.product (entry_at o r k) (new k))
      (λ k. o.product (entry_at o r k) (o.product s.divisor (new k))) (λ k c. out_of (entry_at o r k) s.divisor (new k)))
      ∙ dot_vectors o l n s.factor s.put r old (spike o j) (λ k. o.product s.divisor (new k)) s.is
      ∙ ap (λ t. o.sum (o.product s.factor (dot o n r old)) (o.product s.put t)) (dot_spike o l n r j b)

  -- the pivot rows below, and now this one, send the vector to zero
  pub step_kernel : {j : ℕ} {ps : List (ℕ × List A)} (row : List A) (e : Echelon o n (suc j) ps) (old new : ℕ → A)
      → Stepped o n row j old new → InKernel o n (rows_of ps) old → InKernel o n (row ∷ rows_of ps) new
  step_kernel {j} {ps} row e old new s h =
      All-cons (λ r. dot o n r new ≡ o.nought) row (rows_of ps)
      (other_factor o l n d s.divisor (dot o n row new) s.divisor_isnt
      (dot_stepped row row j old new s (omega (arith, within o l d n e)) ∙ s.clears))
      (λ k x b. other_factor o l n d s.divisor _ s.divisor_isnt
      (dot_stepped row _ j old new s (omega (arith, within o l d n e)) ∙ cc (
        h k x b,
        zero_before o l d n e k x b j (omega arith),
        product_nought o l s.factor,
        product_nought o l s.put,
        l.nought_sum
            o.nought,
      )))

  away : (f x p : A) → o.sum (o.product f x) (o.product p o.nought) ≡ o.product f x
  away f x p = ring (solvable o l) (f ∷ x ∷ p ∷ []) (search (reading, read_nought o l) depth 40 fits 20000) refl

  -- the last entry stays where it is
  pub step_ends : (row : List A) (j i : ℕ) (old new : ℕ → A) → Stepped o n row j old new → j < i → EndsAt o n old i → EndsAt o n new i
  step_ends row j i old new s b e = record {
    within = e.within;
    here =
        λ h. not_product o l n d s.factor (old i) s.factor_isnt e.here
        (sym (at_other i (omega arith) e.within) ∙ ap (o.product s.divisor) h ∙ product_nought o l s.divisor);
    later =
        λ k c m. other_factor o l n d s.divisor (new k) s.divisor_isnt
        (at_other k (omega arith) m ∙ ap (o.product s.factor) (e.later k c m) ∙ product_nought o l s.factor);
  }
    where
      at_other : (k : ℕ) → j < k → k < n → o.product s.divisor (new k) ≡ o.product s.factor (old k)
      at_other k c m =
          s.is k m ∙ ap (λ t. o.sum (o.product s.factor (old k)) (o.product s.put t)) (spike_not o l j k (λ q. omega (arith, q))) ∙ away
          s.factor (old k) s.put

  -- an entry that is zero and isn't at the column stays zero
  pub step_zero : (row : List A) (j k : ℕ) (old new : ℕ → A) → Stepped o n row j old new → ¬ (k ≡ j) → k < n → old k ≡ o.nought
      → new k ≡ o.nought
  step_zero row j k old new s m b e =
      other_factor o l n d s.divisor (new k) s.divisor_isnt
      (s.is k b ∙ cc (e, spike_not o l j k m, product_nought o l s.factor, product_nought o l s.put, l.nought_sum o.nought))

  -- and so does the entry at the column of a row that starts past the end
  put_nought : (row : List A) (j i : ℕ) (old new : ℕ → A) (s : Stepped o n row j old new) → StartsAt o row j → i < j → EndsAt o n old i
      → s.put ≡ o.nought
  put_nought row j i old new s st b e =
      other_factor o l n d (entry_at o row j) s.put st.here (l.product_comm (entry_at o row j) s.put ∙ alone)
    where
      term : (k : ℕ) → k < n → (k < j) ⊎ (j ≤ k) → o.product (entry_at o row k) (old k) ≡ o.nought
      term k c (inl q) = ap (λ t. o.product t (old k)) (st.before k q) ∙ nought_product o l (old k)
      term k c (inr q) = ap (o.product (entry_at o row k)) (e.later k (omega arith) c) ∙ product_nought o l (entry_at o row k)

      none : dot o n row old ≡ o.nought
      none = total_nought o l n (λ k. o.product (entry_at o row k) (old k)) (λ k c. term k c (cases_lt k j))

      alone : o.product s.put (entry_at o row j) ≡ o.nought
      alone = cc (s.clears, none, product_nought o l s.factor, l.nought_sum (o.product s.put (entry_at o row j)))

  pub step_ends_past : (row : List A) (j i : ℕ) (old new : ℕ → A) → Stepped o n row j old new → StartsAt o row j → i < j → EndsAt o n old i
      → EndsAt o n new i
  step_ends_past row j i old new s st b e = record {
    within = e.within;
    here = λ h. not_product o l n d s.factor (old i) s.factor_isnt e.here (sym (scaled i e.within) ∙ ap (o.product s.divisor) h
        ∙ product_nought o l s.divisor);
    later = λ k c m. other_factor o l n d s.divisor (new k) s.divisor_isnt (scaled k m ∙ ap (o.product s.factor) (e.later k c m)
        ∙ product_nought o l s.factor);
  }
    where
      scaled : (k : ℕ) → k < n → o.product s.divisor (new k) ≡ o.product s.factor (old k)
      scaled k m =
          s.is k m ∙ cc (put_nought row j i old new s st b e, nought_product o l (spike o j k), sum_nought o l (o.product s.factor (old k)))

  -- the two cases of the core, and then of the plain part, in one: f = 1 and s = c * s1, or f = c and s1 = s
  pub both_parts : (f h c p s s1 g m q : A) → s ≡ o.neg m → o.product f s ≡ o.product c s1 → o.product h s1 ≡ o.product p g
      → q ≡ o.product p c → o.sum (o.product (o.product f h) m) (o.product g q) ≡ o.nought
  both_parts f h c p s s1 g m q e a b k =
      from_all (solvable o l) (by (solvable o l) (o.product f h) e ∷ by (solvable o l) (o.neg h) a ∷ by (solvable o l) (o.neg c) b ∷ by
      (solvable o l) g k ∷ [])
      (ring (solvable o l) (f ∷ h ∷ c ∷ p ∷ s ∷ s1 ∷ g ∷ m ∷ q ∷ []) (search (reading, read_nought o l) depth 40 fits 20000) refl)
