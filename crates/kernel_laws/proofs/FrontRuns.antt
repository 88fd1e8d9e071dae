-- The front of a run, and that two runs to a first free column end at the same one.
use Rattle.std.proofs.Common.{◌≡◌, ℕ, suc, ◌<◌, ◌≤◌, List, [], ◌∷◌, ◌++◌, subst, arith, inl, inr, ⊎_elim}
use Rattle.std.specs.Prelude.{◌⊎◌}
use Rattle.std.proofs.lemmas.Bool.{cases_lt}
use Rattle.ring_laws.specs.Meaning.{Meaning}
use Rattle.ring_laws.specs.Algebra.{Algebra, Laws}
use Rattle.ring_laws.specs.Division.{DomainLaws}
use Rattle.kernel_laws.specs.Pivots.{IsPivotColumn}
use Rattle.kernel_laws.specs.Reduction.{Reduction, ReductionLaws}
use Rattle.kernel_laws.specs.Elimination.{Run, begin, pass, climb, Ran}
use Rattle.kernel_laws.specs.Answers.{IsFirstFree}
use Rattle.kernel_laws.proofs.OneRun.{one_ran}

-- a column of pivot rows with one behind them
column_of : (k j : ℕ) (row : List Meaning) (ps : List (ℕ × List Meaning)) → IsPivotColumn k (ps ++ (j, row) ∷ [])
    → IsPivotColumn k ps ⊎ (k ≡ j)
column_of k j row [] (inl e) = inr e
column_of k j row [] (inr h) = absurd h
column_of k j row (p ∷ ps) (inl e) = inl (inl e)
column_of k j row (p ∷ ps) (inr h) = ⊎_elim (λ c. inl (inr c)) (λ e. inr e) (column_of k j row ps h)

-- a run through the columns below i, which has the pivot rows of these columns
pub record FrontOf (a : Algebra) (r : Reduction) (rows : List (List Meaning)) (i : ℕ) (ps : List (ℕ × List Meaning)) : Type 0 where
  pub pivots : List (ℕ × List Meaning)
  pub ran : Ran a r i rows pivots
  pub same : (k : ℕ) → k < i → IsPivotColumn k ps → IsPivotColumn k pivots

module _ (a : Algebra) (r : Reduction) (rows : List (List Meaning)) where
  whole : {j : ℕ} {os : List (List Meaning)} {ps : List (ℕ × List Meaning)} {t : Meaning} → Run a r rows j os ps t → FrontOf a r rows j ps
  whole {os = os} {ps} {t} run = record {
    pivots = ps;
    ran = record { open_rows = os; divisor = t; run = run };
    same = λ k b h. h;
  }

  pub front : {j : ℕ} {os : List (List Meaning)} {ps : List (ℕ × List Meaning)} {t : Meaning} → Run a r rows j os ps t → (i : ℕ) → i ≤ j
      → FrontOf a r rows i ps
  front (begin h) i b = subst (λ k. FrontOf a r rows k []) (omega (arith, b)) (whole (begin h))
  front (pass {j} {pivots = ps} q h) i b =
      ⊎_elim (λ c. front q i (omega (arith, c))) (λ c. subst (λ k. FrontOf a r rows k ps) (omega (arith, b, c)) (whole (pass q h))) (cases_lt i (suc j))
  front (climb {j} {pivots = ps} before after pivot plain q ch cs sp) i b =
      ⊎_elim (λ c. shorter (front q i (omega (arith, c))) c) (λ c. subst (λ k. FrontOf a r rows k (ps ++ (j, pivot) ∷ [])) (omega (arith, b, c)) (whole (climb before after pivot plain q ch cs sp)))
      (cases_lt i (suc j))
    where
      shorter : FrontOf a r rows i ps → i < suc j → FrontOf a r rows i (ps ++ (j, pivot) ∷ [])
      shorter f c = record {
        pivots = f.pivots;
        ran = f.ran;
        same = λ k d h. f.same k d (⊎_elim (λ p. p) (λ e. absurd (omega (arith, c, d, e))) (column_of k j pivot ps h));
      }

module _ (a : Algebra) (l : Laws a) (dl : DomainLaws a) (r : Reduction) (rl : ReductionLaws a r) (columns first : ℕ) (rows : List (List Meaning)) where
  not_before : (i k : ℕ) (ps qs : List (ℕ × List Meaning)) → Ran a r (suc i) rows ps → Ran a r (suc k) rows qs → IsFirstFree columns first ps i
      → IsFirstFree columns first qs k → ¬ (i < k)
  not_before i k ps qs h g p q b =
      let f = front a r rows g.run (suc i) (omega (arith, b)) in
      p.free.free (subst (IsPivotColumn i) (one_ran a l dl r rl (suc i) rows f.pivots ps f.ran h) (f.same i (omega arith) (q.before i p.from b)))

  pub one_first_free : (i k : ℕ) (ps qs : List (ℕ × List Meaning)) → Ran a r (suc i) rows ps → Ran a r (suc k) rows qs → IsFirstFree columns first ps i
      → IsFirstFree columns first qs k → i ≡ k
  one_first_free i k ps qs h g p q =
      ⊎_elim (λ b. absurd (not_before i k ps qs h g p q b))
      (λ b. ⊎_elim (λ c. absurd (not_before k i qs ps g h q p c)) (λ c. omega (arith, b, c)) (cases_lt k i)) (cases_lt i k)
