-- What a run through all columns says of the kernel: where its vectors end, and the rank.
use Rattle.std.proofs.Common.{◌≡◌, ℕ, zero, suc, ◌+◌, ◌<◌, ◌≤◌, List, map, length, refl, ap, sym, ◌∙◌, subst, arith, All, ⊎_elim}
use Rattle.std.proofs.lemmas.List.{length-map}
use Rattle.ring_laws.specs.Meaning.{Meaning}
use Rattle.ring_laws.specs.Algebra.{Ops, RingLaws, Algebra, Passing, within, Laws}
use Rattle.ring_laws.specs.Division.{DomainLaws}
use Rattle.kernel_laws.specs.Rows.{InKernel}
use Rattle.kernel_laws.specs.Kernels.{EndsAt, Counted, none, with, without}
use Rattle.kernel_laws.specs.Pivots.{IsPivotColumn, rows_of}
use Rattle.kernel_laws.specs.Reduction.{Reduction, ReductionLaws, bare}
use Rattle.kernel_laws.specs.Elimination.{Run}
use Rattle.kernel_laws.specs.Answers.{Vector, meant, NoneEnds, AllPivots}
use Rattle.kernel_laws.proofs.Echelon.{count}
use Rattle.poly_laws.proofs.Trimming.{zero_or_not}
use Rattle.kernel_laws.proofs.Belonging.{kernel_down, kernel_up, ends_up, ends_down}
use Rattle.kernel_laws.proofs.ClearedRows.{domain}
use Rattle.kernel_laws.proofs.Runs.{Well}
use Rattle.kernel_laws.proofs.PartRuns.{well, pivot_rows_stand, pivots_on, pivots_back, none_at}

-- a vector of a kernel whose vectors end at no column from the first on is zero there
zero_down : {A : Type 0} (o : Ops A) (l : RingLaws o) (n first : ℕ) (v : ℕ → A) → ((j : ℕ) → first ≤ j → ¬ (EndsAt o n v j))
    → (d k : ℕ) → first ≤ k → k < n → n ≤ k + d → v k ≡ o.nought
zero_down o l n first v h zero k b c e = absurd (omega arith)
zero_down o l n first v h (suc d) k b c e =
    let later : (i : ℕ) → k < i → i < n → v i ≡ o.nought = λ i p q. zero_down o l n first v h d i (omega arith) q (omega arith) in
    ⊎_elim (λ z. z) (λ m. absurd (h k b (record { within = c; here = m; later = later }))) (zero_or_not o l (v k))

module _ (a : Algebra) (l : Laws a) (dl : DomainLaws a) (r : Reduction) (rl : ReductionLaws a r)
    (u : ¬ ((within a l.closed).unit ≡ (within a l.closed).nought)) (n : ℕ) (rows : List (List (Passing a)))
    (long : All (λ row. length row ≡ n) rows) (os : List (List Meaning)) (ps : List (ℕ × List Meaning)) (t : Meaning)
    (run : Run a r (map (bare a) rows) n os ps t) where
  abbrev W : Ops (Passing a)
  W = within a l.closed

  abbrev meanings : List (List Meaning)
  meanings = map (bare a) rows

  whole : n ≤ n
  whole = omega arith

  abbrev there : Well a l dl r rl u n rows n os ps t
  there = well a l dl r rl u n rows long n whole os ps t run

  abbrev pivots : List (ℕ × List (Passing a))
  pivots = there.pivots

  counted_same : (P Q : ℕ → Type 0) → ((j : ℕ) → P j → Q j) → ((j : ℕ) → Q j → P j) → {j m : ℕ} → Counted P n j m → Counted Q n j m
  counted_same P Q f g none = none
  counted_same P Q f g (with {j} p c) = with (f j p) (counted_same P Q f g c)
  counted_same P Q f g (without {j} p c) = without (λ q. p (g j q)) (counted_same P Q f g c)

  -- the pivot rows are as many as the columns at which none ends
  pub rank_is : Counted (NoneEnds a n meanings) n 0 (length ps)
  rank_is =
      subst (Counted (NoneEnds a n meanings) n 0) (sym (length-map pivots (λ (p : ℕ × List (Passing a)). (p.0, bare a p.1))) ∙ ap length there.pivots_are)
      (counted_same (λ j. (v : Vector a) → InKernel W n (rows_of pivots) v → ¬ (EndsAt W n v j)) (NoneEnds a n meanings)
      (λ j h v k e. h v (pivots_on a l dl r rl u n rows long n whole os ps t run v (kernel_up a l.closed n rows v k)) (ends_up a l.closed n v j e))
      (λ j h v k e. h v (kernel_down a l.closed n rows v (meant a v) (λ i. refl) (pivots_back a l dl r rl u n rows long n whole os ps t run v (λ c d e. absurd (omega (arith, d, e))) k))
      (ends_down a l.closed n v (meant a v) j (λ i. refl) e))
      (count W l.ring (domain a l dl n) n u (pivot_rows_stand a l dl r rl u n rows long n whole os ps t run)))

  -- where each column from the first on has a pivot row
  pub all_pivots : (first : ℕ) → ((i : ℕ) → first ≤ i → i < n → IsPivotColumn i ps) → AllPivots a n first meanings (length ps)
  all_pivots first h = record {
    zero = λ v k i b c. ap (λ (x : Passing a). x.0) (zero_down W l.ring n first v
        (λ j d e. none_at a l dl r rl u n rows long n whole os ps t run j (h j d e.within) v k (ends_down a l.closed n v (meant a v) j (λ x. refl) e)) n i b c (omega arith));
    counted = rank_is;
  }
